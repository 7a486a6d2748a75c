use Rattle.std.specs.Prelude.{◌≡◌, drop}
use Rattle.std.specs.List.{find}
use Rattle.unroll_binding.specs.Binding.{is_other_role}
use Rattle.unroll_binding.proofs.find.other_role.Given as goal

abbrev pub invariant-loop-name : goal.invariant-loop-name
invariant-loop-name l = find (is_other_role l.design l.set) (drop l.name-index l.set.names) ≡ find (is_other_role l.design l.set) l.set.names
