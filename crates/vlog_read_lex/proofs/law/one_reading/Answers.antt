use Rattle.vlog_read_lex.proofs.LawLemmas.{one_list, spells_or_faults, one_fault}
use Rattle.vlog_read_lex.proofs.law.one_reading.Goals as goal

pub returns-clause-list : goal.returns-clause-list
returns-clause-list c = one_list

pub returns-clause-apart : goal.returns-clause-apart
returns-clause-apart c = spells_or_faults

pub returns-clause-fault : goal.returns-clause-fault
returns-clause-fault c = one_fault
