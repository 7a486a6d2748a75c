use Rattle.unroll_laws.proofs.Promised.{design_lines_hold, reports_sign_off}
use Rattle.unroll_laws.proofs.law.reports_are_promises.Goals as goal

pub returns-clause-design : goal.returns-clause-design
returns-clause-design c = design_lines_hold

pub returns-clause-report : goal.returns-clause-report
returns-clause-report c = reports_sign_off
