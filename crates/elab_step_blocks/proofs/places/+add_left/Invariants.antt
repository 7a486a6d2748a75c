use Rattle.std.proofs.Common.{take}
use Rattle.elab_step_blocks.specs.Sparing.{EachSparesLeft, Gathers}
use Rattle.elab_step_blocks.proofs.places.+add_left.Given as goal

abbrev pub invariant-add_lefts-loop-left : goal.invariant-add_lefts-loop-left
invariant-add_lefts-loop-left l = Gathers l.leaves l.fn.places.items l.places.items (EachSparesLeft l.leaves (take l.left-index l.lefts))
