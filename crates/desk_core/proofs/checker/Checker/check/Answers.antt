use Rattle.desk_core.proofs.Reporting.{report_of_texts}
use Rattle.desk_core.proofs.checker.Checker.check.Goals as goal

pub returns-clause-report : goal.returns-clause-report
returns-clause-report g c =
    report_of_texts c.args.module.now c.args.set.now c.in_ok-bound.bound c.args.which.now _ _ c.in_ok-bound.ensures.ok c.check_bound-answer.result c.check_bound-answer.ensures.lines c.check_bound-answer.ensures.report
