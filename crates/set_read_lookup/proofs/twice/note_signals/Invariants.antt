use Rattle.std.proofs.Common.{◌≡◌, ◌++◌, drop, map}
use Rattle.set_read_lookup.proofs.twice.note_signals.Given as goal

abbrev pub invariant-loop-declaration : goal.invariant-loop-declaration
invariant-loop-declaration l = l.names ++ map (λ x. x.name) (drop l.declaration-index l.declarations) ≡ l.fn.names ++ map (λ x. x.name) l.declarations
