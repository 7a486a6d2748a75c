use Rattle.proof_store_records.proofs.hints.hints_of.Goals as goal

pub returns-in-First : goal.returns-in-First
returns-in-First c = rw c.in-First.is c.words_of.ensures

pub returns-in-Second : goal.returns-in-Second
returns-in-Second c = rw c.in-Second.is c.told_hints.ensures
