use Rattle.std.proofs.Common.{◌≡◌, ◌++◌}
use Rattle.demo_gen.specs.Texts.{each, step}
use Rattle.demo_gen.proofs.parts.add_steps.Given as goal

abbrev pub invariant-loop-k : goal.invariant-loop-k
invariant-loop-k l = l.out.items ≡ l.fn.out.items ++ each step l.k
