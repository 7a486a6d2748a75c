use Rattle.std.proofs.Common.{◌≡◌, ◌≤◌}
use Rattle.std.specs.Vec.Iter.{into_iter_items}
use Rattle.proof_store.specs.Lookups.{Looks}
use Rattle.proof_store.proofs.Pieces.{Gone, joined}
use Rattle.proof_store.proofs.looking.look_up_each.Given as goal

-- the rows so far
abbrev pub invariant-loop-few : goal.invariant-loop-few
invariant-loop-few g l = record {
  gone : Gone (Looks (g.K.Keeper.tables l.fn.keeper)) l.fn.obs (joined (into_iter_items l.few-iterator)) l.lookups.items;
  same : g.K.Keeper.tables l.keeper ≡ g.K.Keeper.tables l.fn.keeper;
  later : g.K.Keeper.faults l.fn.keeper ≤ g.K.Keeper.faults l.keeper;
}
