use Rattle.std.proofs.Common.{◌≡◌, ◌+◌, ◌≤◌}
use Rattle.proof_store.specs.Stored.{Told}
use Rattle.proof_store.proofs.Walking.{Walk}
use Rattle.proof_store.proofs.moving.migrate.Given as goal

-- the rows so far
abbrev pub invariant-loop : goal.invariant-loop
invariant-loop g l = record {
  counted : l.moved + l.left ≡ l.counter;
  walk : Told (Walk l.counter l.moved l.last) (g.K.Keeper.tables l.fn.keeper) (g.K.Keeper.tables l.keeper);
  later : g.K.Keeper.faults l.fn.keeper ≤ g.K.Keeper.faults l.keeper;
}
