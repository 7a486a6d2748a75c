use Rattle.unroll_laws.proofs.Running.{rows_are_of_runs}
use Rattle.unroll_laws.proofs.laws.named_rows_are_traces.Goals as goal

pub returns : goal.returns
returns c = rows_are_of_runs
