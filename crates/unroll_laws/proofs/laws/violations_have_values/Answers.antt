use Rattle.unroll_laws.proofs.Named.{violations_have_values, values_are_violations}
use Rattle.unroll_laws.proofs.laws.violations_have_values.Goals as goal

pub returns-clause-named : goal.returns-clause-named
returns-clause-named c = violations_have_values

pub returns-clause-shown : goal.returns-clause-shown
returns-clause-shown c = values_are_violations
