use Rattle.std.proofs.Common.{◌∙◌, arith, refl, rules}
use Rattle.std.specs.Vec.Iter.{into_iter_items}
use Rattle.proof_store.specs.Lookups.{Looks}
use Rattle.proof_store.proofs.Lookups.{looks_then, rows_looked}
use Rattle.proof_store.proofs.Pieces.{all_gone, gone_more, gone_start, gone_within, joined, next_piece, no_pieces, pieces_start}
use Rattle.proof_store.proofs.looking.look_up_each.Goals as goal

pub loop-few-init : goal.loop-few-init
loop-few-init g c = record {
  gone = gone_start (Looks (g.K.Keeper.tables c.args.keeper.now)) c.args.obs.now _ _ (pieces_start c.args.obs.now c.in_ok-few-items.few-items.items (into_iter_items c.into_iter-few-iterator.result) c.in_ok-few-items.ensures (search rules)) c.new-lookups.ensures.items;
  same = refl;
  later = omega arith;
}

pub keyed_all-requires-after_bounds : goal.keyed_all-requires-after_bounds
keyed_all-requires-after_bounds g c κs within =
    let is = next_piece (into_iter_items c.loop-few.few-iterator) (into_iter_items c.next.new.self) c.in-Some.few (search rules) in
    let short = gone_within (Looks (g.K.Keeper.tables c.args.keeper.now)) c.args.obs.now _ c.in-Some.few.now _ c.loop-few.lookups.items c.loop-few.invariant.gone is in
    omega (arith, c.requires, short)

pub loop-few-preserved : goal.loop-few-preserved
loop-few-preserved g c =
    let tables = g.K.Keeper.tables c.args.keeper.now in
    let was = c.loop-few.invariant in
    let rows = c.in_ok-more.ensures in
    let is = next_piece (into_iter_items c.loop-few.few-iterator) (into_iter_items c.next.new.self) c.in-Some.few (search rules) in record {
      gone = gone_more (Looks tables) c.args.obs.now _ c.in-Some.few.now (joined (into_iter_items c.next.new.self)) c.loop-few.lookups.items c.in_ok-more.more.items c.append.new.self.items was.gone is
          (looks_then tables (g.K.Keeper.tables c.loop-few.keeper) _ c.in_ok-more.more.items was.same
          (rows_looked (g.K.Keeper.tables c.loop-few.keeper) c.in-Some.few.now c.in_ok-keyed.keyed.items c.in_ok-more.more.items c.in_ok-keyed.ensures rows.lookups)) c.in_ok-append.ensures.items;
      same = rows.same ∙ was.same;
      later = omega (arith, was.later, rows.faults.later);
    }

pub returns-clause-lookups : goal.returns-clause-lookups
returns-clause-lookups g c =
    all_gone (Looks (g.K.Keeper.tables c.args.keeper.now)) c.args.obs.now (joined (into_iter_items c.loop-few.few-iterator)) c.loop-few.lookups.items c.loop-few.invariant.gone (no_pieces (into_iter_items c.loop-few.few-iterator) (search rules))
