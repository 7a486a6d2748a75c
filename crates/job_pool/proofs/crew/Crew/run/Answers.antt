use Rattle.std.proofs.Common.{ap, ◌∙◌, rules}
use Rattle.std.specs.List.{range_with_len}
use Rattle.std.proofs.lemmas.Result.{IfOk-at_ok}
use Rattle.job_pool.specs.Jobs.{AreDone}
use Rattle.job_pool.proofs.All.{IsAll, all_there}
use Rattle.job_pool.proofs.crew.Crew.run.Goals as goal

pub returns : goal.returns
returns g c =
    let done = c.in_ok-done.field-0.items in
    let numbers = c.work_all-seat.result.0.numbers in
    let are : AreDone (g.J.Task.ends c.args.task.now) c.args.elements.now c.args.self.now.workers numbers done =
    IfOk-at_ok (λ v. AreDone (g.J.Task.ends c.args.task.now) c.args.elements.now c.args.self.now.workers numbers v.items) c.in_ok-done.was c.work_all-seat.ensures.done in
    let all : IsAll (g.J.Task.ends c.args.task.now) c.args.elements.now c.args.self.now.workers c.close-count.result c.in_ok-ends.ends.items =
    all_there _ _ _ _ numbers done _ (search rules) are c.close-count.ensures.numbers c.close-count.ensures.count c.in_ok-ends.ensures in
    record { ends = all.ended; draws = c.in_ok-draws.ensures ∙ ap (range_with_len 0) all.many }
