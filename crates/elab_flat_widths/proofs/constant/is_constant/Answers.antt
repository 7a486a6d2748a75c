use Rattle.std.proofs.Common.{ap}
use Rattle.std.specs.Prelude.{is_some}
use Rattle.elab_flat_params.proofs.Known.{familiar, strange}
use Rattle.elab_flat_widths.proofs.constant.is_constant.Goals as goal

pub returns-in-Some : goal.returns-in-Some
returns-in-Some c = strange c.args.params.now c.args.expr.now c.stranger_in.result c.stranger_in.ensures (ap is_some c.in-Some.is)

pub returns-in-None : goal.returns-in-None
returns-in-None c = familiar c.args.params.now c.args.expr.now c.stranger_in.result c.stranger_in.ensures (ap is_some c.in-None.is)
