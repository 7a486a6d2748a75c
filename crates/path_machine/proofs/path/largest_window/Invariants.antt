use Rattle.std.proofs.Common.{◌≡◌, drop}
use Rattle.set_tree.specs.Parts.{largest_of, largest_window}
use Rattle.path_machine.proofs.path.largest_window.Given as goal

-- the largest of those that are left and of this
abbrev pub invariant-loop-property : goal.invariant-loop-property
invariant-loop-property l = largest_of (drop l.property-index l.property-items) l.largest ≡ largest_window l.set
