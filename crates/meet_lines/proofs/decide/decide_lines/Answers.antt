use Rattle.std.proofs.Common.{rules}
use Rattle.desk_core_goals.proofs.Settling.{are_settled}
use Rattle.proof_store.proofs.Turns.{proceeds_same}
use Rattle.meet_lines.proofs.Bound.{no_keeper}
use Rattle.meet_lines.proofs.Telling.{goals_decided, lines_decided, same_ended}
use Rattle.meet_lines.proofs.decide.decide_lines.Goals as goal

pub returns-in_err-goals-clause-proceeds : goal.returns-in_err-goals-clause-proceeds
returns-in_err-goals-clause-proceeds g c = proceeds_same _ _ (λ is. no_keeper c.args.bound.now.set _ c.in_err-goals.field-0.0 c.in_err-goals.ensures.err (search rules))

pub lines_of-requires : goal.lines_of-requires
lines_of-requires g c =
    let asks = c.in_ok-goals.ensures.ok in
    (c.args.prover.now.settings.budget, goals_decided c.args.prover.now.settings.budget c.args.bound.now asks.lines c.in_ok-goals.goals.items c.in_ok-settled.settled.decided.items asks.each c.in_ok-settled.ensures.decided)

pub returns-clause-lines : goal.returns-clause-lines
returns-clause-lines g c =
    let asks = c.in_ok-goals.ensures.ok in record {
      lines = asks.lines;
      asked = asks.asked;
      each = lines_decided c.args.prover.now.settings.budget c.args.bound.now asks.lines c.in_ok-goals.goals.items c.in_ok-settled.settled.decided.items c.in_ok-lines.lines.items asks.each c.in_ok-settled.ensures.decided c.in_ok-lines.ensures;
    }

pub returns-clause-settled : goal.returns-clause-settled
returns-clause-settled g c =
    are_settled c.args.prover.now.settings.budget c.args.prover.now.settings.workers c.in_ok-goals.goals.items c.in_ok-settled.settled.decided.items _ c.in_ok-settled.ensures.decided
    (same_ended c.args.bound.now c.in_ok-settled.settled.decided.items c.in_ok-lines.lines.items c.in_ok-lines.ensures) _ _ _ _
    c.in_ok-settled.ensures.counts c.in_ok-settled.ensures.kept c.in_ok-settled.ensures.draws c.in_ok-settled.ensures.stored c.in_ok-settled.ensures.first
