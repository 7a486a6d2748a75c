use Rattle.std.specs.Prelude.{◌≡◌, drop}
use Rattle.std.specs.List.{find}
use Rattle.unroll_binding.specs.Binding.{is_extra}
use Rattle.unroll_binding.proofs.find.extra_input.Given as goal

abbrev pub invariant-loop-net : goal.invariant-loop-net
invariant-loop-net l = find (is_extra l.set) (drop l.net-index l.inputs) ≡ find (is_extra l.set) l.inputs
