use Rattle.std.proofs.Common.{[], ◌≤◌}
use Rattle.std.specs.Vec.Iter.{into_iter_items}
use Rattle.proof_store.proofs.Pieces.{joined}
use Rattle.proof_store.proofs.Puts.{PutLoop}
use Rattle.proof_store.proofs.putting.put_each.Given as goal

-- the proofs so far
abbrev pub invariant-loop-few : goal.invariant-loop-few
invariant-loop-few g l = record {
  puts : PutLoop l.fn.outcomes (joined (into_iter_items l.few-iterator)) [] (g.K.Keeper.tables l.fn.keeper) (g.K.Keeper.tables l.keeper);
  later : g.K.Keeper.faults l.fn.keeper ≤ g.K.Keeper.faults l.keeper;
}

-- the rows that are left
abbrev pub invariant-loop-row : goal.invariant-loop-row
invariant-loop-row g l = record {
  puts : PutLoop l.fn.outcomes (joined (into_iter_items l.few-iterator)) (into_iter_items l.row-iterator) (g.K.Keeper.tables l.fn.keeper) (g.K.Keeper.tables l.keeper);
  later : g.K.Keeper.faults l.fn.keeper ≤ g.K.Keeper.faults l.keeper;
}
