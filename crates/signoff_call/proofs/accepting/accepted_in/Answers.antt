use Rattle.desk_core_commands.specs.declared.which.Which.TheVariants as w
use Rattle.desk_core.specs.Checks.{Refuses}
use Rattle.desk_core.proofs.Reporting.{stage_refuses}
use Rattle.signoff_call.proofs.Answering.{adds_none, turned_answered}
use Rattle.signoff_call.proofs.Walking.{accept_answered, bound_as, left_of_bound, refuses_as}
use Rattle.signoff_call.proofs.accepting.accepted_in.Goals as goal

pub returns-in-Ok-clause-answer : goal.returns-in-Ok-clause-answer
returns-in-Ok-clause-answer g c =
    let m = c.args.module.now in
    let s = c.args.set.now in
    let from = bound_as c.bytes.result.now m c.bytes-2.result.now s c.in-Ok.bound c.bytes.ensures c.bytes-2.ensures c.in-Ok.ensures.ok in
    accept_answered m s c.in-Ok.bound from _ 0 _ _ c.accepted-answer.result c.args.given.now.line c.args.proof.now c.accepted-answer.ensures.answer

pub returns-in-Err-clause-answer : goal.returns-in-Err-clause-answer
returns-in-Err-clause-answer g c =
    let m = c.args.module.now in
    let s = c.args.set.now in
    let refuses = refuses_as c.bytes.result.now m c.bytes-2.result.now s c.in-Err.fault c.bytes.ensures c.bytes-2.ensures c.in-Err.ensures.err in
    turned_answered c.turned_down.result (Refuses m s (w.One c.args.given.now.line)) (λ obs. ⊥) _ c.args.checker.now.book.now _ c.in-Err.fault (stage_refuses m s (w.One c.args.given.now.line) c.in-Err.fault refuses) c.requires.empty (adds_none _ _)
    c.turned_down.ensures.memory c.turned_down.ensures.line

pub returns-in-Ok-clause-left : goal.returns-in-Ok-clause-left
returns-in-Ok-clause-left g c =
    left_of_bound c.bytes.result.now c.args.module.now c.bytes-2.result.now c.args.set.now c.in-Ok.bound (w.One c.args.given.now.line) c.bytes.ensures c.bytes-2.ensures c.in-Ok.ensures.ok _ _ c.accepted-answer.ensures.left

pub returns-in-Err-clause-left : goal.returns-in-Err-clause-left
returns-in-Err-clause-left g c = adds_none _ _
