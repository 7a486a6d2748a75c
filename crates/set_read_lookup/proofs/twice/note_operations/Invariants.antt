use Rattle.std.proofs.Common.{◌≡◌, ◌++◌, drop, map}
use Rattle.set_read_lookup.proofs.twice.note_operations.Given as goal

abbrev pub invariant-loop-operation : goal.invariant-loop-operation
invariant-loop-operation l = l.names ++ map (λ x. x.name) (drop l.operation-index l.properties) ≡ l.fn.names ++ map (λ x. x.name) l.properties
