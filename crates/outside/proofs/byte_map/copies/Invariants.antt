use Rattle.std.proofs.Common.{◌≡◌, ◌++◌, map}
use Rattle.outside.proofs.byte_map.copies.Given as goal

abbrev pub invariant-loop-key : goal.invariant-loop-key
invariant-loop-key g l = l.names.items ++ map (λ k. k.items) l.key-iterator ≡ map (λ e. e.0.items) l.rows.entries
