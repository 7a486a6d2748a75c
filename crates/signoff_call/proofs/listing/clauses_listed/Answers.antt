use Rattle.signoff_call.proofs.Answering.{turned_keeper}
use Rattle.signoff_call.proofs.Walking.{bound_as, clauses_answered, clauses_refused, no_keeper, refuses_as}
use Rattle.signoff_call.proofs.listing.clauses_listed.Goals as goal

pub returns-in-Ok-clause-answer : goal.returns-in-Ok-clause-answer
returns-in-Ok-clause-answer c =
    let m = c.args.module.now in
    let s = c.args.set.now in
    let from = bound_as c.bytes.result.now m c.bytes-2.result.now s c.in-Ok.bound c.bytes.ensures c.bytes-2.ensures c.in-Ok.ensures.ok in
    clauses_answered c.clauses_shown-answer.result m s c.args.name.now c.in-Ok.bound from c.clauses_shown-answer.ensures.answer

pub returns-in-Err-clause-answer : goal.returns-in-Err-clause-answer
returns-in-Err-clause-answer c =
    let m = c.args.module.now in
    let s = c.args.set.now in
    let refuses = refuses_as c.bytes.result.now m c.bytes-2.result.now s c.in-Err.fault c.bytes.ensures c.bytes-2.ensures c.in-Err.ensures.err in
    clauses_refused c.turned_down.result m s c.args.name.now c.in-Err.fault refuses c.turned_down.ensures.memory c.turned_down.ensures.line

pub returns-in-Err-clause-keeper : goal.returns-in-Err-clause-keeper
returns-in-Err-clause-keeper c =
    turned_keeper c.turned_down.result c.in-Err.fault ⊥ (λ is. no_keeper c.bytes.result.now c.bytes-2.result.now c.in-Err.fault c.in-Err.ensures.err is) c.turned_down.ensures.line
