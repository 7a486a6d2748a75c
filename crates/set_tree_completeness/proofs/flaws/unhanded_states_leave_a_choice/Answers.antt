use Rattle.set_tree_completeness.proofs.flaws.unhanded_states_leave_a_choice.Goals as goal
use Rattle.set_tree_completeness.proofs.FlipFlaws.{choose_reset_on, choose_on_off, reset_on_is_chosen, on_off_is_chosen}

pub returns-clause-reset_on : goal.returns-clause-reset_on
returns-clause-reset_on c = choose_reset_on

pub returns-clause-on_off : goal.returns-clause-on_off
returns-clause-on_off c = choose_on_off

pub returns-clause-reset_on_kept : goal.returns-clause-reset_on_kept
returns-clause-reset_on_kept c = reset_on_is_chosen

pub returns-clause-on_off_kept : goal.returns-clause-on_off_kept
returns-clause-on_off_kept c = on_off_is_chosen
