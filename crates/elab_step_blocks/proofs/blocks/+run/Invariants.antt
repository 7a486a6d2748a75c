use Rattle.std.proofs.Common.{drop}
use Rattle.std.specs.Option.{option_copied}
use Rattle.elab_step_blocks.proofs.Storing.{Running}
use Rattle.elab_step_blocks.proofs.Picking.{Picking}
use Rattle.elab_step_blocks.proofs.Taking.{Taking}
use Rattle.elab_step_blocks.proofs.blocks.+run.Given as goal

abbrev pub invariant-run_row-loop-stmt : goal.invariant-run_row-loop-stmt
invariant-run_row-loop-stmt l = Running (option_copied l.reads) l.stmts (drop l.stmt-index l.stmts) l.fn.state l.fn.dag l.state l.dag

abbrev pub invariant-run_items-loop-left : goal.invariant-run_items-loop-left
invariant-run_items-loop-left l = Picking (option_copied l.reads) l.items l.forks.tests.now l.forks.before.now l.fn.state l.fn.dag l.state l.dag l.left

abbrev pub decreases-run_items-loop-left : goal.decreases-run_items-loop-left
decreases-run_items-loop-left l = l.left

abbrev pub invariant-run_each-loop-at : goal.invariant-run_each-loop-at
invariant-run_each-loop-at l = Taking (option_copied l.reads) l.items l.tests l.matched l.fn.state l.fn.dag l.state l.dag l.at
