use Rattle.std.proofs.Common.{◌≡◌, ◌||◌, not, drop}
use Rattle.std.specs.Prelude.{nat_eq}
use Rattle.std.specs.List.{list_all}
use Rattle.set_tree_structure.specs.Tests.{is_cover_of}
use Rattle.set_tree_structure.proofs.cover.all_fit.Given as goal

abbrev pub invariant-loop-cover : goal.invariant-loop-cover
invariant-loop-cover l =
    list_all (λ c. not (nat_eq c.output l.output) || is_cover_of l.at l.property c) (drop l.cover-index l.cover-items)
    ≡ list_all (λ c. not (nat_eq c.output l.output) || is_cover_of l.at l.property c) l.property.covers
