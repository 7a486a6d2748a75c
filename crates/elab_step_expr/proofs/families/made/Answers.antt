use Rattle.elab_step_expr.proofs.Kept.{keeps_then}
use Rattle.elab_step_expr.proofs.families.made.Goals as goal

pub returns-in_err-number-clause-keeps : goal.returns-in_err-number-clause-keeps
returns-in_err-number-clause-keeps c = keeps_then c.args.dag.now c.reduction.new.dag c.one_bit.new.dag c.in_ok-bit.ensures.keeps c.one_bit.ensures.keeps

pub returns-then-is_reduction-clause-keeps : goal.returns-then-is_reduction-clause-keeps
returns-then-is_reduction-clause-keeps c = keeps_then c.args.dag.now c.reduction.new.dag c.one_bit.new.dag c.in_ok-bit.ensures.keeps c.in_ok-number.ensures.keeps
