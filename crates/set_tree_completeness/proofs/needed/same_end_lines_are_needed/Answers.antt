use Rattle.set_tree_completeness.proofs.needed.same_end_lines_are_needed.Goals as goal
use Rattle.set_tree_completeness.proofs.Untimed.{untimed_incomplete, untimed_sound, untimed_valid}

pub returns-clause-sound : goal.returns-clause-sound
returns-clause-sound c = untimed_sound

pub returns-clause-valid : goal.returns-clause-valid
returns-clause-valid c = untimed_valid

pub returns-clause-incomplete : goal.returns-clause-incomplete
returns-clause-incomplete c = untimed_incomplete
