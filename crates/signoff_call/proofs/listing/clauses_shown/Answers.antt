use Rattle.std.proofs.Common.{inr}
use Rattle.signoff_call.proofs.Walking.{no_line_keeper, no_line_shown}
use Rattle.signoff_call.proofs.listing.clauses_shown.Goals as goal

pub returns-in-Ok-clause-answer : goal.returns-in-Ok-clause-answer
returns-in-Ok-clause-answer c = inr (c.in-Ok.text, c.in-Ok.ensures.ok, c.done.ensures)

pub returns-in-Err-clause-answer : goal.returns-in-Err-clause-answer
returns-in-Err-clause-answer c =
    no_line_shown c.turned_down.result c.args.bound.now c.args.name.now c.in-Err.fault c.check_fault_of.result c.check_fault_of.ensures c.in-Err.ensures.err c.turned_down.ensures.memory c.turned_down.ensures.line

pub returns-in-Err-clause-keeper : goal.returns-in-Err-clause-keeper
returns-in-Err-clause-keeper c =
    no_line_keeper c.turned_down.result c.args.bound.now.set c.args.name.now c.in-Err.fault c.check_fault_of.result c.check_fault_of.ensures c.in-Err.ensures.err c.turned_down.ensures.line
