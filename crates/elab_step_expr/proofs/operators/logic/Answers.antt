use Rattle.elab_step_expr.proofs.Kept.{keeps_then}
use Rattle.elab_step_expr.proofs.operators.logic.Goals as goal

pub returns-in_err-right-clause-keeps : goal.returns-in_err-right-clause-keeps
returns-in_err-right-clause-keeps c = keeps_then c.args.dag.now c.truth.new.dag c.truth-2.new.dag c.in_ok-left.ensures.keeps c.truth-2.ensures.keeps

pub returns-in_err-number-clause-keeps : goal.returns-in_err-number-clause-keeps
returns-in_err-number-clause-keeps c = keeps_then c.args.dag.now c.truth-2.new.dag c.both.new.dag (keeps_then c.args.dag.now c.truth.new.dag c.truth-2.new.dag c.in_ok-left.ensures.keeps c.in_ok-right.ensures.keeps) c.both.ensures.keeps

pub returns-clause-keeps : goal.returns-clause-keeps
returns-clause-keeps c = keeps_then c.args.dag.now c.truth-2.new.dag c.both.new.dag (keeps_then c.args.dag.now c.truth.new.dag c.truth-2.new.dag c.in_ok-left.ensures.keeps c.in_ok-right.ensures.keeps) c.in_ok-number.ensures.keeps
