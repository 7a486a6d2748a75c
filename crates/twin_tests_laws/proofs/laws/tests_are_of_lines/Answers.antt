use Rattle.twin_tests_laws.proofs.Roots.{tests_are_of_lines}
use Rattle.twin_tests_laws.proofs.laws.tests_are_of_lines.Goals as goal

pub returns : goal.returns
returns c = tests_are_of_lines
