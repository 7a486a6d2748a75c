use Rattle.desk_core_goals.proofs.Promising.{proved_lines_promise}
use Rattle.desk_core_goals.proofs.law.proved_lines_promise.Goals as goal

pub returns : goal.returns
returns c = proved_lines_promise
