use Rattle.std.proofs.Common.{arith}
use Rattle.elab_step.proofs.Placing.{last_is}
use Rattle.elab_step.proofs.places.is_last.Goals as goal

pub returns : goal.returns
returns c = last_is c.args.list.now c.args.place (omega (arith, c.if-count-eq0.false))
