use Rattle.elab_step_expr.proofs.Kept.{keeps_then}
use Rattle.elab_step_expr.proofs.operators.same_bits.Goals as goal

pub returns-in_err-number-clause-keeps : goal.returns-in_err-number-clause-keeps
returns-in_err-number-clause-keeps c = keeps_then c.args.dag.now c.two.new.dag c.turned.new.dag c.in_ok-other.ensures.keeps c.turned.ensures.keeps

pub returns-clause-keeps : goal.returns-clause-keeps
returns-clause-keeps c = keeps_then c.args.dag.now c.two.new.dag c.turned.new.dag c.in_ok-other.ensures.keeps c.in_ok-number.ensures.keeps
