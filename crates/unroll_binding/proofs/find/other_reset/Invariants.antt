use Rattle.std.specs.Prelude.{◌≡◌, drop}
use Rattle.std.specs.List.{find}
use Rattle.unroll_binding.specs.Binding.{is_other_reset}
use Rattle.unroll_binding.proofs.find.other_reset.Given as goal

abbrev pub invariant-loop-reset : goal.invariant-loop-reset
invariant-loop-reset l = find (is_other_reset l.set) (drop l.reset-index l.asyncs) ≡ find (is_other_reset l.set) l.asyncs
