use Rattle.set_tree_completeness.proofs.needed.hand_lines_are_needed.Goals as goal
use Rattle.set_tree_completeness.proofs.Unhanded.{unhanded_incomplete, unhanded_sound, unhanded_valid}

pub returns-clause-sound : goal.returns-clause-sound
returns-clause-sound c = unhanded_sound

pub returns-clause-valid : goal.returns-clause-valid
returns-clause-valid c = unhanded_valid

pub returns-clause-incomplete : goal.returns-clause-incomplete
returns-clause-incomplete c = unhanded_incomplete
