use Rattle.std.proofs.Common.{◌-◌, drop, not}
use Rattle.twin_tests_laws.specs.Tests.{any_from, determined}
use Rattle.set_tree.specs.Formulas.{meaning_of}
use Rattle.twin_tests.proofs.Loops.{Builds, ShowBoth}
use Rattle.twin_tests.proofs.twins.Twins.apart_node.Given as goal

-- whether the output isn't determined at one of the offsets so far
abbrev pub invariant-loop-t : goal.invariant-loop-t
invariant-loop-t l =
    Builds (ShowBoth l.self.set.now.names l.fn.dag l.pair.first.now l.pair.second.now) l.fn.dag l.dag l.any (λ pair. any_from l.fn.span.from (l.t - l.fn.span.from) (λ t. not (determined (meaning_of l.self.set.now) l.self.set.now l.output (drop t pair.0) (drop t pair.1))))
