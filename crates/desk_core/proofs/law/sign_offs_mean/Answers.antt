use Rattle.desk_core.proofs.Meaning.{each_means, numbers_mean}
use Rattle.desk_core.proofs.law.sign_offs_mean.Goals as goal

pub returns-clause-each : goal.returns-clause-each
returns-clause-each c = each_means

pub returns-clause-number : goal.returns-clause-number
returns-clause-number c = numbers_mean
