use Rattle.unroll_laws.proofs.Testing.{test_is_exact}
use Rattle.unroll_laws.proofs.laws.tests_are_exact.Goals as goal

pub returns : goal.returns
returns c = test_is_exact
