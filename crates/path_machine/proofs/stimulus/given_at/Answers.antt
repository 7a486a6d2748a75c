use Rattle.path_machine.proofs.Driving.{given_past}
use Rattle.path_machine.proofs.stimulus.given_at.Goals as goal

pub returns-in-None : goal.returns-in-None
returns-in-None c = given_past c.args.inputs.now c.args.rows.now c.args.at c.args.name.now c.get.result c.get.ensures.lookup c.in-None.is
