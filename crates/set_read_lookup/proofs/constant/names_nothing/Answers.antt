use Rattle.set_read_lookup.specs.Faults.{names_in}
use Rattle.set_read_lookup.proofs.ConstantForms.{no_name}
use Rattle.set_read_lookup.proofs.constant.names_nothing.Goals as goal

pub returns-in-None : goal.returns-in-None
returns-in-None c = no_name (names_in c.args.expr.now) c.in-None.ensures
