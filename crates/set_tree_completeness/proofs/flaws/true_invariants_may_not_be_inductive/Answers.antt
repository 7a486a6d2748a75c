use Rattle.set_tree_completeness.proofs.flaws.true_invariants_may_not_be_inductive.Goals as goal
use Rattle.set_tree_completeness.proofs.HopFlaws.{step_four, four_is_kept}

pub returns-clause-four : goal.returns-clause-four
returns-clause-four c = step_four

pub returns-clause-four_kept : goal.returns-clause-four_kept
returns-clause-four_kept c = four_is_kept
