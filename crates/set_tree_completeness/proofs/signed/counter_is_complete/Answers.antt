use Rattle.set_tree_completeness.proofs.signed.counter_is_complete.Goals as goal
use Rattle.set_tree.specs.Formulas.{meaning_of}
use Rattle.set_tree_completeness.specs.Counter.{counter_set}

pub returns-clause-runs : goal.returns-clause-runs
returns-clause-runs c = c.signed_off_sets_are_complete.ensures.runs (meaning_of counter_set) counter_set (c.formulas_read_within.ensures counter_set) c.counter_is_signed_off.ensures.sound c.counter_is_signed_off.ensures.signed_off

pub returns-clause-walks : goal.returns-clause-walks
returns-clause-walks c = c.signed_off_sets_are_complete.ensures.walks (meaning_of counter_set) counter_set (c.formulas_read_within.ensures counter_set) c.counter_is_signed_off.ensures.sound c.counter_is_signed_off.ensures.signed_off

pub returns-clause-complete : goal.returns-clause-complete
returns-clause-complete c = c.signed_off_sets_are_complete.ensures.complete (meaning_of counter_set) counter_set (c.formulas_read_within.ensures counter_set) c.counter_is_signed_off.ensures.sound c.counter_is_signed_off.ensures.signed_off

pub returns-clause-forever : goal.returns-clause-forever
returns-clause-forever c = c.signed_off_sets_are_complete.ensures.forever (meaning_of counter_set) counter_set (c.formulas_read_within.ensures counter_set) c.counter_is_signed_off.ensures.sound c.counter_is_signed_off.ensures.signed_off
