use Rattle.std.proofs.Common.{◌≡◌, drop}
use Rattle.elab_step_expr.specs.Leaves.{leaf_at}
use Rattle.twin_tests.specs.Leaves.{row_leaves}
use Rattle.twin_tests.proofs.leaves.row_leaf.Given as goal

-- the leaf is among those to come
abbrev pub invariant-loop-i : goal.invariant-loop-i
invariant-loop-i l = leaf_at (row_leaves (drop l.i l.names) l.offset (drop l.i l.nodes)) l.text l.offset ≡ leaf_at (row_leaves l.names l.offset l.nodes) l.text l.offset
