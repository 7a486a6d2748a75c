use Rattle.std.proofs.Common.{refl}
use Rattle.set_tree_completeness.proofs.flaws.unsized_numbers_have_32_bits.Goals as goal
use Rattle.set_tree_completeness.proofs.CounterFlaws.{step_from_three, sized_step_from_three}

pub returns-clause-length : goal.returns-clause-length
returns-clause-length c = refl

pub returns-clause-unsized_one : goal.returns-clause-unsized_one
returns-clause-unsized_one c = refl

pub returns-clause-sized_one : goal.returns-clause-sized_one
returns-clause-sized_one c = refl

pub returns-clause-refuted : goal.returns-clause-refuted
returns-clause-refuted c = step_from_three

pub returns-clause-kept : goal.returns-clause-kept
returns-clause-kept c = sized_step_from_three
