use Rattle.std.proofs.Common.{take}
use Rattle.std.specs.List.{list_any}
use Rattle.set_tree.specs.Formulas.{meaning_of}
use Rattle.set_tree.specs.Parts.{assumed}
use Rattle.twin_tests.specs.Building.{Shows}
use Rattle.twin_tests.proofs.Loops.{Builds}
use Rattle.twin_tests.proofs.part.any_assumed_node.Given as goal

-- whether one of the properties so far is assumed
abbrev pub invariant-loop-property : goal.invariant-loop-property
invariant-loop-property l =
    Builds (λ f. Shows l.set.names l.fn.dag l.rows f) l.fn.dag l.dag l.any (λ rows. list_any (λ q. assumed (meaning_of l.set) l.set q rows) (take l.property-index l.properties))
