use Rattle.mem_laws.proofs.Reading.{spread_means}
use Rattle.mem_laws.proofs.Statements.{statements_do}
use Rattle.mem_laws.proofs.law.spread_texts_do_the_same.Goals as goal

pub returns-clause-expressions : goal.returns-clause-expressions
returns-clause-expressions c = spread_means

pub returns-clause-statements : goal.returns-clause-statements
returns-clause-statements c = statements_do
