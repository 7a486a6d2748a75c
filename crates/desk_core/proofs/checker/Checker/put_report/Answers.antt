use Rattle.std.proofs.Common.{arith, rules}
use Rattle.desk_core.proofs.Checked.{none_falls}
use Rattle.desk_core.proofs.checker.Checker.put_report.Goals as goal

pub returns-in_err-reported-clause-proceeds : goal.returns-in_err-reported-clause-proceeds
returns-in_err-reported-clause-proceeds g c = record { keeper = record { later = omega arith; rose = search rules }; helpers = none_falls _ }

pub returns-clause-proceeds : goal.returns-clause-proceeds
returns-clause-proceeds g c = record { keeper = c.put_reported-answer.ensures.faults; helpers = none_falls _ }
