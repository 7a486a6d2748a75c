use Rattle.std.specs.Prelude.{IfOk}
use Rattle.job_pool.specs.Seats.{Place}
use Rattle.std.proofs.Common.{rules, ap, subst, ◌*◌, ℕ, ◌++◌, ◌≡◌, ◌+◌, ◌-◌, arith, length}
use Rattle.job_pool.specs.Jobs.{AreDone, IsReady}
use Rattle.job_pool.proofs.Steps.{all_done, ready_rest}
use Rattle.job_pool.proofs.work.+fn-work_all-join+arg3+work_all.Goals as goal

pub join-other-requires-after_bounds : goal.join-other-requires-after_bounds
join-other-requires-after_bounds g t c κs within =
    let sum : c.args.workers - 1 + 1 ≡ c.args.workers = omega arith in
    let each = length c.args.shift.now.elements.now + 1 in
    let once : each ≡ 1 * each = omega arith in
    let seat = subst (λ (k : ℕ). c.split-other.new.seat ≡ record { word = c.args.seat.word; numbers = c.args.seat.numbers; allowance = c.args.seat.allowance - k }) once c.split-other.ensures.seat in
    let rest : IsReady c.args.shift.now.tickets.now (length c.args.shift.now.elements.now) (c.args.workers - 1) c.split-other.new.seat = ready_rest _ _ _ 1 _ _ _ c.requires.ready sum seat in
    search rules

pub returns-clause-done : goal.returns-clause-done
returns-clause-done g t c =
    let sum : c.args.workers - 1 + 1 ≡ c.args.workers = omega arith in
    let task = g.J.Task.ends c.args.shift.now.task.now in
    let mine : IfOk c.join-other.result.1.1 (λ v. AreDone task c.args.shift.now.elements.now (c.args.workers - 1) c.join-other.result.1.0.numbers v.items) = search rules in
    let theirs : IfOk c.join-other.result.0.1 (λ v. AreDone task c.args.shift.now.elements.now 1 c.join-other.result.0.0.numbers v.items) = search rules in
    let all : c.join.new.seat.numbers ≡ c.join-other.result.1.0.numbers ++ c.join-other.result.0.0.numbers = ap (λ (p : Place). p.numbers) c.join.ensures in
    rw all (all_done (λ v. v.items) task c.args.shift.now.elements.now (c.args.workers - 1) 1 c.args.workers _ _ c.both.result c.join-other.result.1.1 c.join-other.result.0.1 sum c.both.ensures mine theirs)
