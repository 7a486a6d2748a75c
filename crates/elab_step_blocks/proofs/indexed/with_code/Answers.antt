use Rattle.elab_step_expr.proofs.Kept.{keeps_then}
use Rattle.elab_step_blocks.proofs.indexed.with_code.Goals as goal

pub returns-in_err-node-clause-keeps : goal.returns-in_err-node-clause-keeps
returns-in_err-node-clause-keeps c = keeps_then c.args.dag.now c.hit.new.dag c.written.new.dag c.in_ok-hit.ensures.keeps c.written.ensures.keeps

pub returns-in_err-number-clause-keeps : goal.returns-in_err-number-clause-keeps
returns-in_err-number-clause-keeps c = keeps_then c.args.dag.now c.written.new.dag c.choice.new.dag (keeps_then c.args.dag.now c.hit.new.dag c.written.new.dag c.in_ok-hit.ensures.keeps c.in_ok-node.ensures.keeps) c.choice.ensures.keeps

pub returns-clause-keeps : goal.returns-clause-keeps
returns-clause-keeps c = keeps_then c.args.dag.now c.written.new.dag c.choice.new.dag (keeps_then c.args.dag.now c.hit.new.dag c.written.new.dag c.in_ok-hit.ensures.keeps c.in_ok-node.ensures.keeps) c.in_ok-number.ensures.keeps
