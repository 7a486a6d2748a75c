use Rattle.set_tree_completeness.proofs.needed.fixed_resets_are_needed.Goals as goal
use Rattle.set_tree_completeness.proofs.Unfixed.{unfixed_incomplete, unfixed_sound, unfixed_valid}

pub returns-clause-sound : goal.returns-clause-sound
returns-clause-sound c = unfixed_sound

pub returns-clause-valid : goal.returns-clause-valid
returns-clause-valid c = unfixed_valid

pub returns-clause-incomplete : goal.returns-clause-incomplete
returns-clause-incomplete c = unfixed_incomplete
