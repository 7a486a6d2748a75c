use Rattle.std.proofs.Common.{map, rules}
use Rattle.desk_core_goals.specs.Asked.{line_of}
use Rattle.desk_core_goals.proofs.Deciding.{goals_decided, lines_decided}
use Rattle.desk_core_goals.proofs.Finding.{no_keeper}
use Rattle.desk_core_goals.proofs.Lessening.{all_shown, has_least, replaced_decided, told_replaced}
use Rattle.desk_core_goals.proofs.Settling.{are_settled}
use Rattle.desk_core_goals.proofs.LinesTold.{same_ended}
use Rattle.proof_store.proofs.Turns.{proceeds_same}
use Rattle.desk_core_goals.proofs.decide.decide_lines.Goals as goal

pub returns-in_err-goals-clause-proceeds : goal.returns-in_err-goals-clause-proceeds
returns-in_err-goals-clause-proceeds g c = proceeds_same _ _ (λ is. no_keeper c.args.bound.now.set c.args.which.now c.in_err-goals.field-0.0 c.in_err-goals.ensures.err (search rules))

pub returns-then-len-clause-proceeds : goal.returns-then-len-clause-proceeds
returns-then-len-clause-proceeds g c = proceeds_same _ _ (λ is. cc)

pub with_least-requires-clause-shown : goal.with_least-requires-clause-shown
with_least-requires-clause-shown g c = all_shown c.args.prover.now.settings.budget c.in_ok-goals.goals.items c.in_ok-settled.settled.decided.items c.in_ok-settled.ensures.decided

pub lines_of-requires : goal.lines_of-requires
lines_of-requires g c =
    let budget = c.args.prover.now.settings.budget in
    let goals = c.in_ok-goals.goals.items in
    let ds = c.in_ok-settled.settled.decided.items in
    let es = c.in_ok-found.found.decided.items in
    (budget, goals_decided budget c.args.bound.now goals es c.in_ok-goals.ensures.ok.each (replaced_decided budget goals ds es c.in_ok-settled.ensures.decided c.in_ok-found.ensures.replaced))

pub returns-clause-lines : goal.returns-clause-lines
returns-clause-lines g c =
    let budget = c.args.prover.now.settings.budget in
    let goals = c.in_ok-goals.goals.items in
    let ds = c.in_ok-settled.settled.decided.items in
    let es = c.in_ok-found.found.decided.items in
    record {
      lines = map line_of goals;
      asked = c.in_ok-goals.ensures.ok.asked;
      each = lines_decided budget c.args.bound.now goals es c.in_ok-lines.lines.items c.in_ok-goals.ensures.ok.each
          (replaced_decided budget goals ds es c.in_ok-settled.ensures.decided c.in_ok-found.ensures.replaced) c.in_ok-lines.ensures;
    }

pub returns-clause-settled : goal.returns-clause-settled
returns-clause-settled g c =
    let budget = c.args.prover.now.settings.budget in
    let goals = c.in_ok-goals.goals.items in
    let ds = c.in_ok-settled.settled.decided.items in
    let es = c.in_ok-found.found.decided.items in
    are_settled budget c.args.prover.now.settings.workers goals es _ (replaced_decided budget goals ds es c.in_ok-settled.ensures.decided c.in_ok-found.ensures.replaced)
    (same_ended c.args.bound.now es c.in_ok-lines.lines.items c.in_ok-lines.ensures) _ _ _ _
    c.in_ok-settled.ensures.counts c.in_ok-settled.ensures.kept c.in_ok-settled.ensures.draws
    (told_replaced budget ds es c.in_ok-found.ensures.replaced _ _ c.in_ok-settled.ensures.stored) c.in_ok-settled.ensures.first

pub returns-clause-least : goal.returns-clause-least
returns-clause-least g c =
    has_least c.args.prover.now.settings.budget c.args.bound.now c.args.which.now c.in_ok-goals.goals.items c.in_ok-settled.settled.decided.items c.in_ok-found.found.decided.items _
    c.in_ok-goals.ensures.ok.asked c.in_ok-settled.ensures.decided c.in_ok-found.ensures.replaced c.in_ok-lines.ensures c.in_ok-found.ensures.least
