use Rattle.twin_tests_laws.proofs.Naming.{are_named_rows}
use Rattle.twin_tests_laws.proofs.laws.named_rows_are_traces.Goals as goal

pub returns : goal.returns
returns c = are_named_rows
