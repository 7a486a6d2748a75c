use Rattle.set_tree_completeness.proofs.needed.windows_must_fit.Goals as goal
use Rattle.set_tree_completeness.proofs.AlwaysLow.{always_low_past_window, always_low_sound, always_low_valid}
use Rattle.set_tree_completeness.specs.Needed.{always_low}
use Rattle.set_tree.specs.Formulas.{meaning_of}

pub returns-clause-sound : goal.returns-clause-sound
returns-clause-sound c = always_low_sound

pub returns-clause-valid : goal.returns-clause-valid
returns-clause-valid c = always_low_valid

pub returns-clause-complete : goal.returns-clause-complete
returns-clause-complete c = c.valid_lines_are_complete.ensures (meaning_of always_low) always_low (c.formulas_read_within.ensures always_low) always_low_sound always_low_valid

pub returns-clause-past : goal.returns-clause-past
returns-clause-past c = always_low_past_window
