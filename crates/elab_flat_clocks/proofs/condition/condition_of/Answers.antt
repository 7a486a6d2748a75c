use Rattle.std.specs.Option.{option_copied}
use Rattle.elab_flat_clocks.proofs.Forms.{block_condition, case_condition, if_condition, if_else_condition}
use Rattle.elab_flat_clocks.proofs.condition.condition_of.Goals as goal

pub returns-in-IfElse : goal.returns-in-IfElse
returns-in-IfElse c = if_else_condition _ _ _ _ c.in-IfElse.is

pub returns-in-Block : goal.returns-in-Block
returns-in-Block c = block_condition _ _ _ _ (option_copied c.only_in.result) c.in-Block.is c.as_slice.ensures c.only_in.ensures

pub returns-in-If : goal.returns-in-If
returns-in-If c = if_condition _ _ _ c.in-If.is

pub returns-in-Case : goal.returns-in-Case
returns-in-Case c = case_condition _ _ _ _ c.in-Case.is
