use Rattle.elab_flat_clocks.proofs.Forms.{block_alone, case_alone, if_alone, if_else_alone}
use Rattle.elab_flat_clocks.proofs.condition.condition_alone.Goals as goal

pub returns-in-IfElse : goal.returns-in-IfElse
returns-in-IfElse c = if_else_alone _ _ _ _ c.in-IfElse.is

pub returns-in-Block : goal.returns-in-Block
returns-in-Block c = block_alone _ _ _ c.in-Block.is

pub returns-in-If : goal.returns-in-If
returns-in-If c = if_alone _ _ _ c.in-If.is

pub returns-in-Case : goal.returns-in-Case
returns-in-Case c = case_alone _ _ _ _ c.in-Case.is
