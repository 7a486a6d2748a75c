use Rattle.elab_step_expr.proofs.Kept.{keeps_then}
use Rattle.elab_step_expr.proofs.families.joined.Goals as goal

pub returns-in_err-number-in-Order-clause-keeps : goal.returns-in_err-number-in-Order-clause-keeps
returns-in_err-number-in-Order-clause-keeps c = keeps_then c.args.dag.now c.ordered.new.dag c.one_bit.new.dag c.in_ok-bit-in-Order.ensures.keeps c.one_bit.ensures.keeps

pub returns-in_ok-number-in-Order-clause-keeps : goal.returns-in_ok-number-in-Order-clause-keeps
returns-in_ok-number-in-Order-clause-keeps c = keeps_then c.args.dag.now c.ordered.new.dag c.one_bit.new.dag c.in_ok-bit-in-Order.ensures.keeps c.in_ok-number-in-Order.ensures.keeps

pub returns-in_err-number-in-Equality-clause-keeps : goal.returns-in_err-number-in-Equality-clause-keeps
returns-in_err-number-in-Equality-clause-keeps c = keeps_then c.args.dag.now c.equal.new.dag c.one_bit-in-Equality.new.dag c.in_ok-bit-in-Equality.ensures.keeps c.one_bit-in-Equality.ensures.keeps

pub returns-in_ok-number-in-Equality-clause-keeps : goal.returns-in_ok-number-in-Equality-clause-keeps
returns-in_ok-number-in-Equality-clause-keeps c = keeps_then c.args.dag.now c.equal.new.dag c.one_bit-in-Equality.new.dag c.in_ok-bit-in-Equality.ensures.keeps c.in_ok-number-in-Equality.ensures.keeps

pub returns-in_err-number-in-Logic-clause-keeps : goal.returns-in_err-number-in-Logic-clause-keeps
returns-in_err-number-in-Logic-clause-keeps c = keeps_then c.args.dag.now c.logic.new.dag c.one_bit-in-Logic.new.dag c.in_ok-bit-in-Logic.ensures.keeps c.one_bit-in-Logic.ensures.keeps

pub returns-in_ok-number-in-Logic-clause-keeps : goal.returns-in_ok-number-in-Logic-clause-keeps
returns-in_ok-number-in-Logic-clause-keeps c = keeps_then c.args.dag.now c.logic.new.dag c.one_bit-in-Logic.new.dag c.in_ok-bit-in-Logic.ensures.keeps c.in_ok-number-in-Logic.ensures.keeps
