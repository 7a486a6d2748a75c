use Rattle.desk_core.proofs.Agreeing.{reports_agree}
use Rattle.desk_core.proofs.law.reports_agree.Goals as goal

pub returns : goal.returns
returns c = reports_agree
