use Rattle.desk_core_goals.proofs.Promising.{obligations_agree}
use Rattle.desk_core_goals.proofs.law.obligations_of_a_line_agree.Goals as goal

pub returns : goal.returns
returns c = obligations_agree
