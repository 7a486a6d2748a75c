use Rattle.meet_lines.proofs.Testing.{test_is_exact}
use Rattle.meet_lines.proofs.laws.tests_are_exact.Goals as goal

pub returns : goal.returns
returns c = test_is_exact
