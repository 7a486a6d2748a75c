use Rattle.unroll_laws.proofs.Named.{runs_have_values}
use Rattle.unroll_laws.proofs.laws.runs_have_values.Goals as goal

pub returns : goal.returns
returns c = runs_have_values
