use Rattle.std.proofs.Common.{arith, refl, rules}
use Rattle.std.specs.Vec.Iter.{into_iter_items}
use Rattle.proof_store.proofs.Pieces.{joined, next_piece, no_pieces, pieces_start}
use Rattle.proof_store.proofs.Puts.{all_put, few_put, put_few, put_more, put_so_far, put_start, put_within}
use Rattle.proof_store.proofs.putting.put_each.Goals as goal

pub loop-few-init : goal.loop-few-init
loop-few-init g c = record {
  puts = put_start c.args.outcomes.now _ (g.K.Keeper.tables c.args.keeper.now) (pieces_start c.args.outcomes.now c.in_ok-few-items.few-items.items (into_iter_items c.into_iter-few-iterator.result) c.in_ok-few-items.ensures (search rules)) c.requires.kept c.requires.proofs;
  later = omega arith;
}

pub new_rows-requires-after_bounds : goal.new_rows-requires-after_bounds
new_rows-requires-after_bounds g c κs within =
    let is = next_piece (into_iter_items c.loop-few.few-iterator) (into_iter_items c.next.new.self) c.in-Some.few (search rules) in
    let short = put_within c.args.outcomes.now _ c.in-Some.few.now _ (g.K.Keeper.tables c.args.keeper.now) (g.K.Keeper.tables c.loop-few.keeper) c.loop-few.invariant.puts is in
    omega (arith, c.requires.jobs, short)

pub loop-row-init : goal.loop-row-init
loop-row-init g c =
    let is = next_piece (into_iter_items c.loop-few.few-iterator) (into_iter_items c.next.new.self) c.in-Some.few (search rules) in record {
      puts = put_few c.args.outcomes.now c.in-Some.few.now (joined (into_iter_items c.next.new.self)) _ c.in_ok-row-items.row-items.items _ (g.K.Keeper.tables c.args.keeper.now) (g.K.Keeper.tables c.loop-few.keeper) c.loop-few.invariant.puts is c.in_ok-row-items.ensures (search rules);
      later = c.loop-few.invariant.later;
    }

pub loop-row-preserved : goal.loop-row-preserved
loop-row-preserved g c = record {
  puts = put_more c.args.outcomes.now _ (into_iter_items c.loop-row.row-iterator) (into_iter_items c.next-in-loop-row.new.self) c.in-Some-row.row (g.K.Keeper.tables c.args.keeper.now) (g.K.Keeper.tables c.loop-row.keeper)
      (g.K.Keeper.tables c.put_row.new.keeper) c.loop-row.invariant.puts (search rules) c.in_ok-put_row.ensures.ok;
  later = omega (arith, c.loop-row.invariant.later, c.in_ok-put_row.ensures.faults.later);
}

pub loop-few-preserved : goal.loop-few-preserved
loop-few-preserved g c = record {
  puts = few_put c.args.outcomes.now _ (into_iter_items c.loop-row.row-iterator) (g.K.Keeper.tables c.args.keeper.now) (g.K.Keeper.tables c.loop-row.keeper) c.loop-row.invariant.puts (search rules);
  later = c.loop-row.invariant.later;
}

pub returns-in_err-row-items-clause-left : goal.returns-in_err-row-items-clause-left
returns-in_err-row-items-clause-left g c = put_so_far c.args.outcomes.now _ _ (g.K.Keeper.tables c.args.keeper.now) (g.K.Keeper.tables c.loop-few.keeper) _ c.loop-few.invariant.puts refl

pub returns-in_err-put_row-clause-left : goal.returns-in_err-put_row-clause-left
returns-in_err-put_row-clause-left g c = put_so_far c.args.outcomes.now _ _ (g.K.Keeper.tables c.args.keeper.now) (g.K.Keeper.tables c.loop-row.keeper) _ c.loop-row.invariant.puts c.in_err-put_row.ensures.err

pub returns-clause-ok : goal.returns-clause-ok
returns-clause-ok g c =
    all_put c.args.outcomes.now (joined (into_iter_items c.loop-few.few-iterator)) (g.K.Keeper.tables c.args.keeper.now) (g.K.Keeper.tables c.loop-few.keeper) c.loop-few.invariant.puts
    (no_pieces (into_iter_items c.loop-few.few-iterator) (search rules))

pub returns-clause-left : goal.returns-clause-left
returns-clause-left g c = put_so_far c.args.outcomes.now _ _ (g.K.Keeper.tables c.args.keeper.now) (g.K.Keeper.tables c.loop-few.keeper) _ c.loop-few.invariant.puts refl
