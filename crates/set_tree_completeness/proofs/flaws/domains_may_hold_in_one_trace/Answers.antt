use Rattle.set_tree_completeness.proofs.flaws.domains_may_hold_in_one_trace.Goals as goal
use Rattle.set_tree_completeness.proofs.PipeFlaws.{determine_reset, determine_move, reset_is_determined, move_is_determined}

pub returns-clause-reset : goal.returns-clause-reset
returns-clause-reset c = determine_reset

pub returns-clause-moved : goal.returns-clause-moved
returns-clause-moved c = determine_move

pub returns-clause-reset_kept : goal.returns-clause-reset_kept
returns-clause-reset_kept c = reset_is_determined

pub returns-clause-moved_kept : goal.returns-clause-moved_kept
returns-clause-moved_kept c = move_is_determined
