use Rattle.set_tree_completeness.proofs.needed.meeting_covers_are_needed.Goals as goal
use Rattle.set_tree_completeness.proofs.Uncovered.{uncovered_incomplete, uncovered_sound, uncovered_valid}

pub returns-clause-sound : goal.returns-clause-sound
returns-clause-sound c = uncovered_sound

pub returns-clause-valid : goal.returns-clause-valid
returns-clause-valid c = uncovered_valid

pub returns-clause-incomplete : goal.returns-clause-incomplete
returns-clause-incomplete c = uncovered_incomplete
