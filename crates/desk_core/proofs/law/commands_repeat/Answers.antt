use Rattle.desk_core.proofs.Repeating.{module_again, set_again, signed_again}
use Rattle.desk_core.proofs.law.commands_repeat.Goals as goal

pub returns-clause-modules : goal.returns-clause-modules
returns-clause-modules c = module_again

pub returns-clause-sets : goal.returns-clause-sets
returns-clause-sets c = set_again

pub returns-clause-signs : goal.returns-clause-signs
returns-clause-signs c = signed_again
