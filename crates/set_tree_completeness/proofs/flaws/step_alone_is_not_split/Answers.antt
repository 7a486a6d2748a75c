use Rattle.set_tree_completeness.proofs.flaws.step_alone_is_not_split.Goals as goal
use Rattle.set_tree_completeness.proofs.CounterFlaws.{split_reset, split_step, reset_is_split, step_is_split}

pub returns-clause-reset : goal.returns-clause-reset
returns-clause-reset c = split_reset

pub returns-clause-step : goal.returns-clause-step
returns-clause-step c = split_step

pub returns-clause-reset_kept : goal.returns-clause-reset_kept
returns-clause-reset_kept c = reset_is_split

pub returns-clause-step_kept : goal.returns-clause-step_kept
returns-clause-step_kept c = step_is_split
