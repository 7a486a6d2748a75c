use Rattle.word_dag.specs.Adding.{Grows}
use Rattle.elab_step_expr.specs.Nodes.{AddsFrees}
use Rattle.unroll.specs.Copies.{CopiedBefore}
use Rattle.unroll.specs.Unrolled.{IsSourceWord}
use Rattle.unroll.proofs.rows.reset_nodes.Given as goal

-- the nodes of the cycle before
abbrev pub invariant-loop-position : goal.invariant-loop-position
invariant-loop-position l = record { grows : Grows l.fn.dag l.dag; frees : AddsFrees (IsSourceWord l.bound.design) l.fn.dag l.dag; copied : CopiedBefore l.bound.design l.bound.set l.resets l.position l.dag l.copies.items }
