use Rattle.std.proofs.Common.{◌≡◌, ◌≤◌}
use Rattle.std.specs.Vec.Iter.{into_iter_items}
use Rattle.proof_store.specs.Lookups.{HasRow}
use Rattle.proof_store.proofs.Pieces.{Gone}
use Rattle.proof_store.proofs.looking.rows_under.Given as goal

-- the rows so far
abbrev pub invariant-loop-keyed : goal.invariant-loop-keyed
invariant-loop-keyed g l = record {
  gone : Gone (HasRow (g.K.Keeper.tables l.fn.keeper)) l.fn.all.items (into_iter_items l.keyed-iterator) l.lookups.items;
  same : g.K.Keeper.tables l.keeper ≡ g.K.Keeper.tables l.fn.keeper;
  later : g.K.Keeper.faults l.fn.keeper ≤ g.K.Keeper.faults l.keeper;
}
