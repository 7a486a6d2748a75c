use Rattle.unroll_laws.proofs.Testing.{tests_are_of_lines}
use Rattle.unroll_laws.proofs.laws.tests_are_of_lines.Goals as goal

pub returns : goal.returns
returns c = tests_are_of_lines
