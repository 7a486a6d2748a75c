use Rattle.twin_tests_laws.proofs.Naming.{windows_have_values}
use Rattle.twin_tests_laws.proofs.laws.windows_have_values.Goals as goal

pub returns : goal.returns
returns c = windows_have_values
