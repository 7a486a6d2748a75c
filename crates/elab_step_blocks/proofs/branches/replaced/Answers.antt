use Rattle.std.proofs.Common.{ap, ◌∙◌}
use Rattle.elab_step_expr.specs.Leaves.{declared}
use Rattle.elab_step_blocks.proofs.Saving.{back_declared}
use Rattle.elab_step_blocks.proofs.branches.replaced.Goals as goal

pub returns-clause-same : goal.returns-clause-same
returns-clause-same c = ap declared c.put_back.ensures ∙ back_declared c.args.state.now c.args.nodes.now
