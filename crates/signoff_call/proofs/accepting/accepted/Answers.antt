use Rattle.std.proofs.Common.{◌≡◌, Err, subst}
use Rattle.desk_core_goals.specs.declared.keep_fault.KeepFault.{KeepFault}
use Rattle.signoff_call.proofs.Walking.{kept_first, not_accepted, not_kept_keeper}
use Rattle.signoff_call.proofs.accepting.accepted.Goals as goal

pub returns-in_ok-answer-in-Ok-clause-answer : goal.returns-in_ok-answer-in-Ok-clause-answer
returns-in_ok-answer-in-Ok-clause-answer g c =
    kept_first c.args.bound.now c.args.name.now c.args.proof.now c.args.checker.now.prover.settings.budget c.in-Ok.book _ c.in_ok-answer-in-Ok.answer c.in-Ok.ensures.ok
    (c.in-Ok.ensures.lines c.args.checker.now.prover.settings.budget) c.in_ok-answer-in-Ok.ensures.said

pub returns-in_ok-answer-in-Ok-clause-keeper : goal.returns-in_ok-answer-in-Ok-clause-keeper
returns-in_ok-answer-in-Ok-clause-keeper g c = λ is. absurd (c.in_ok-answer-in-Ok.ensures.no_keeper is)

pub returns-in-Err-clause-answer : goal.returns-in-Err-clause-answer
returns-in-Err-clause-answer g c =
    not_accepted c.args.bound.now c.args.name.now c.args.proof.now _ _ _ c.not_kept.result c.in-Err.fault c.in-Err.ensures.err c.requires.empty c.in-Err.ensures.same c.not_kept.ensures

pub returns-in-Err-clause-keeper : goal.returns-in-Err-clause-keeper
returns-in-Err-clause-keeper g c =
    not_kept_keeper c.not_kept.result c.in-Err.fault _ (λ is. c.keep_proof.ensures.faults.rose (subst (λ (z : KeepFault). c.keep_proof.result ≡ Err z) is c.in-Err.is)) c.not_kept.ensures
