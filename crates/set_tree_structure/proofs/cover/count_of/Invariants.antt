use Rattle.std.proofs.Common.{◌≡◌, ◌+◌, drop}
use Rattle.std.specs.Prelude.{nat_eq}
use Rattle.std.specs.List.{count_by}
use Rattle.set_tree_structure.proofs.cover.count_of.Given as goal

abbrev pub invariant-loop-cover : goal.invariant-loop-cover
invariant-loop-cover l = l.count + count_by (λ c. nat_eq c.output l.output) (drop l.cover-index l.covers) ≡ count_by (λ c. nat_eq c.output l.output) l.covers
