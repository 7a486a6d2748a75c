use Rattle.set_tree_completeness.proofs.flaws.hold_without_hand_is_open.Goals as goal
use Rattle.set_tree_completeness.proofs.CounterFlaws.{hand_hold_step, determine_hold, hold_hands_over, hold_is_determined}

pub returns-clause-hand : goal.returns-clause-hand
returns-clause-hand c = hand_hold_step

pub returns-clause-determine : goal.returns-clause-determine
returns-clause-determine c = determine_hold

pub returns-clause-hand_kept : goal.returns-clause-hand_kept
returns-clause-hand_kept c = hold_hands_over

pub returns-clause-determine_kept : goal.returns-clause-determine_kept
returns-clause-determine_kept c = hold_is_determined
