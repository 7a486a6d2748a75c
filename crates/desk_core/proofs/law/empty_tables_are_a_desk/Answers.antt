use Rattle.desk_core.proofs.Repeating.{empty_is_desk}
use Rattle.desk_core.proofs.law.empty_tables_are_a_desk.Goals as goal

pub returns : goal.returns
returns c = empty_is_desk
