use Rattle.word_dag.proofs.Taken.{obligations_have_one_word_each, widths_are_kept}
use Rattle.word_dag.proofs.names.obligations_have_one_word_each.Goals as goal

pub returns-clause-taken : goal.returns-clause-taken
returns-clause-taken c = obligations_have_one_word_each

pub returns-clause-kept : goal.returns-clause-kept
returns-clause-kept c = widths_are_kept
