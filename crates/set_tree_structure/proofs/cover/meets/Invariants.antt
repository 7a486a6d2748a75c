use Rattle.std.proofs.Common.{◌≡◌, ◌||◌, not, drop}
use Rattle.std.specs.Prelude.{nat_eq}
use Rattle.std.specs.List.{list_all}
use Rattle.set_tree_structure.specs.Tests.{meets_all}
use Rattle.set_tree_structure.proofs.cover.meets.Given as goal

abbrev pub invariant-loop-cover : goal.invariant-loop-cover
invariant-loop-cover l =
    list_all (λ c. not (nat_eq c.output l.output) || meets_all l.property.length c l.successor.covers) (drop l.cover-index l.cover-items)
    ≡ list_all (λ c. not (nat_eq c.output l.output) || meets_all l.property.length c l.successor.covers) l.property.covers
