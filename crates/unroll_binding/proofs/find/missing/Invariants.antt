use Rattle.std.specs.Prelude.{◌≡◌, drop}
use Rattle.std.specs.List.{find}
use Rattle.unroll_binding.specs.Binding.{is_missing}
use Rattle.unroll_binding.proofs.find.missing.Given as goal

abbrev pub invariant-loop-name : goal.invariant-loop-name
invariant-loop-name l = find (is_missing l.design) (drop l.name-index l.names) ≡ find (is_missing l.design) l.names
