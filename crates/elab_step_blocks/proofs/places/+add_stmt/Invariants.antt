use Rattle.std.proofs.Common.{take}
use Rattle.elab_step_blocks.specs.Sparing.{EachSpares, ItemsSpare, Gathers}
use Rattle.elab_step_blocks.proofs.places.+add_stmt.Given as goal

abbrev pub invariant-add_stmts-loop-stmt : goal.invariant-add_stmts-loop-stmt
invariant-add_stmts-loop-stmt l = Gathers l.leaves l.fn.places.items l.places.items (EachSpares l.leaves (take l.stmt-index l.stmts))

abbrev pub invariant-add_items-loop-item : goal.invariant-add_items-loop-item
invariant-add_items-loop-item l = Gathers l.leaves l.fn.places.items l.places.items (ItemsSpare l.leaves (take l.item-index l.items))
