use Rattle.std.proofs.Common.{[], ◌∷◌, ◌∙◌, arith, refl, rules}
use Rattle.std.specs.Vec.Iter.{into_iter_items}
use Rattle.proof_store.specs.Lookups.{HasRow}
use Rattle.proof_store.proofs.Lookups.{row_there}
use Rattle.proof_store.proofs.Pieces.{gone_more, gone_start}
use Rattle.proof_store.proofs.looking.rows_under.Goals as goal

pub loop-keyed-init : goal.loop-keyed-init
loop-keyed-init g c = record {
  gone = gone_start (HasRow (g.K.Keeper.tables c.args.keeper.now)) c.args.all.items _ _ (search rules) c.new-lookups.ensures.items;
  same = refl;
  later = omega arith;
}

pub loop-keyed-preserved : goal.loop-keyed-preserved
loop-keyed-preserved g c =
    let was = c.loop-keyed.invariant in
    let row = c.in_ok-row.ensures in
    let keyed = c.in-Some.keyed in record {
      gone = gone_more (HasRow (g.K.Keeper.tables c.args.keeper.now)) c.args.all.items (into_iter_items c.loop-keyed.keyed-iterator) (keyed ∷ []) (into_iter_items c.next.new.self) c.loop-keyed.lookups.items (_ ∷ []) _ was.gone (search rules)
          (row_there (g.K.Keeper.tables c.args.keeper.now) (g.K.Keeper.tables c.loop-keyed.keeper) keyed _ _ refl c.as_slice.ensures.value was.same row.row, tt) c.in_ok-push.ensures.items;
      same = row.same ∙ was.same;
      later = omega (arith, was.later, row.cause.later);
    }
