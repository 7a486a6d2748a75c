use Rattle.std.proofs.Common.{◌≡◌, drop}
use Rattle.set_tree_structure.specs.Tests.{meets_all}
use Rattle.set_tree_structure.proofs.cover.meets_all.Given as goal

abbrev pub invariant-loop-after : goal.invariant-loop-after
invariant-loop-after l = meets_all l.length l.cover (drop l.after-index l.next) ≡ meets_all l.length l.cover l.next
