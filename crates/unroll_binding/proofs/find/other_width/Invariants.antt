use Rattle.std.specs.Prelude.{◌≡◌, drop}
use Rattle.std.specs.List.{find}
use Rattle.unroll_binding.specs.Binding.{is_other_width}
use Rattle.unroll_binding.proofs.find.other_width.Given as goal

abbrev pub invariant-loop-name : goal.invariant-loop-name
invariant-loop-name l = find (is_other_width l.design) (drop l.name-index l.names) ≡ find (is_other_width l.design) l.names
