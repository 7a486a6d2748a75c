use Rattle.std.proofs.Common.{◌-◌, drop, not, take}
use Rattle.std.specs.List.{list_any}
use Rattle.twin_tests_laws.specs.Tests.{any_from, determined}
use Rattle.set_tree.specs.declared.set.Cover.{Cover}
use Rattle.set_tree.specs.Formulas.{meaning_of}
use Rattle.set_tree.specs.Parts.{cover_end}
use Rattle.twin_tests.proofs.Loops.{Builds, ShowBoth}
use Rattle.twin_tests.proofs.twins.Twins.covers_node.Given as goal

-- whether an output isn't determined at an offset of one of the covers so far
abbrev pub invariant-loop-cover : goal.invariant-loop-cover
invariant-loop-cover l =
    Builds (ShowBoth l.self.set.now.names l.fn.dag l.pair.first.now l.pair.second.now) l.fn.dag l.dag l.any
    (λ pair. list_any (λ (cover : Cover). any_from cover.from (cover_end cover.to l.n - cover.from) (λ t. not (determined (meaning_of l.self.set.now) l.self.set.now cover.output (drop t pair.0) (drop t pair.1)))) (take l.cover-index l.cover-items))
