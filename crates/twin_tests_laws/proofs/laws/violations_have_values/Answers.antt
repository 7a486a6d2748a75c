use Rattle.twin_tests_laws.proofs.Violations.{violations_have_values, values_are_violations}
use Rattle.twin_tests_laws.proofs.laws.violations_have_values.Goals as goal

pub returns-clause-named : goal.returns-clause-named
returns-clause-named c = violations_have_values

pub returns-clause-shown : goal.returns-clause-shown
returns-clause-shown c = values_are_violations
