use Rattle.std.proofs.Common.{◌≡◌, ℕ, List, ap, ◌∙◌, subst, inr, refl, Err}
use Rattle.desk_core_faults.specs.declared.fault.CheckFault.{CheckFault}
use Rattle.desk_core_reports.specs.declared.book.Verdict.{Verdict}
use Rattle.desk_core.specs.Checks.{AreObsOfTexts, IsReport, Refuses}
use Rattle.signoff_call.specs.Answers.{reported}
use Rattle.signoff_call.proofs.Answering.{left_of, reported_keeper, turned_answered, turned_keeper}
use Rattle.signoff_call.proofs.texts.decided.Goals as goal

pub returns-in_ok-bytes-in-Ok-clause-answer : goal.returns-in_ok-bytes-in-Ok-clause-answer
returns-in_ok-bytes-in-Ok-clause-answer g c =
    let r = c.in-Ok.report in
    let which = c.args.which.now in
    let budget = c.args.checker.now.prover.settings.budget in
    let lines = c.check.new.self.book.now.lines.items in
    let first = subst (λ (m : List ℕ). IsReport m c.bytes-2.result.now which budget lines r) c.bytes.ensures c.in-Ok.ensures.report in
    let is = subst (λ (s : List ℕ). IsReport c.args.module.now s which budget lines r) c.bytes-2.ensures first in
    inr (record {
      report = r;
      is_report = (is, c.in-Ok.ensures.least);
      asked = _;
      settled = c.in-Ok.ensures.settled;
      answer_is = c.reported.ensures ∙ (ap (λ (vs : List Verdict). reported vs c.in_ok-bytes-in-Ok.bytes) c.deref.ensures.value ∙ ap (λ (bs : List ℕ). reported r.verdicts.items bs) c.in_ok-bytes-in-Ok.ensures);
    })

pub returns-in_ok-bytes-in-Ok-clause-keeper : goal.returns-in_ok-bytes-in-Ok-clause-keeper
returns-in_ok-bytes-in-Ok-clause-keeper g c = reported_keeper c.reported.result c.deref.result.now c.in_ok-bytes-in-Ok.bytes _ c.reported.ensures

pub returns-in-Err-clause-answer : goal.returns-in-Err-clause-answer
returns-in-Err-clause-answer g c =
    let which = c.args.which.now in
    let fault = c.in-Err.fault in
    let first = subst (λ (m : List ℕ). Refuses m c.bytes-2.result.now which fault) c.bytes.ensures c.in-Err.ensures.refuses in
    let refuses = subst (λ (s : List ℕ). Refuses c.args.module.now s which fault) c.bytes-2.ensures first in
    let left = left_of c.bytes.result.now c.args.module.now c.bytes-2.result.now c.args.set.now which which _ _ c.bytes.ensures c.bytes-2.ensures refl c.check.ensures.left in
    turned_answered c.turned_down.result (Refuses c.args.module.now c.args.set.now which) (AreObsOfTexts c.args.module.now c.args.set.now which) _ c.check.new.self.book.now _ fault refuses c.in-Err.ensures.empty left c.turned_down.ensures.memory c.turned_down.ensures.line

pub returns-in-Err-clause-keeper : goal.returns-in-Err-clause-keeper
returns-in-Err-clause-keeper g c = turned_keeper c.turned_down.result c.in-Err.fault _ (λ is. c.check.ensures.proceeds.keeper.rose (subst (λ (z : CheckFault). c.check.result ≡ Err z) is c.in-Err.is)) c.turned_down.ensures.line

pub returns-in_ok-bytes-in-Ok-clause-left : goal.returns-in_ok-bytes-in-Ok-clause-left
returns-in_ok-bytes-in-Ok-clause-left g c = left_of c.bytes.result.now c.args.module.now c.bytes-2.result.now c.args.set.now _ c.args.which.now _ _ c.bytes.ensures c.bytes-2.ensures refl c.check.ensures.left

pub returns-in-Err-clause-left : goal.returns-in-Err-clause-left
returns-in-Err-clause-left g c = left_of c.bytes.result.now c.args.module.now c.bytes-2.result.now c.args.set.now _ c.args.which.now _ _ c.bytes.ensures c.bytes-2.ensures refl c.check.ensures.left

pub returns-in_err-bytes-in-Ok-clause-left : goal.returns-in_err-bytes-in-Ok-clause-left
returns-in_err-bytes-in-Ok-clause-left g c = left_of c.bytes.result.now c.args.module.now c.bytes-2.result.now c.args.set.now _ c.args.which.now _ _ c.bytes.ensures c.bytes-2.ensures refl c.check.ensures.left
