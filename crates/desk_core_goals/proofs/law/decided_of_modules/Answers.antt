use Rattle.desk_core_goals.proofs.Promising.{decided_of_modules}
use Rattle.desk_core_goals.proofs.law.decided_of_modules.Goals as goal

pub returns : goal.returns
returns c = decided_of_modules
