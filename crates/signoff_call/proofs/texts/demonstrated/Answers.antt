use Rattle.std.proofs.Common.{◌≡◌, refl, ℕ, List, ap, ◌∙◌, subst, inr, Err}
use Rattle.demo_gen.specs.Texts.{module_text, set_text}
use Rattle.desk_core_faults.specs.declared.fault.CheckFault.{CheckFault}
use Rattle.desk_core_reports.specs.declared.book.Verdict.{Verdict}
use Rattle.desk_core_commands.specs.declared.which.Which.TheVariants as w
use Rattle.desk_core_goals.specs.Settled.{AddsProofsOf}
use Rattle.desk_core.specs.Checks.{AreObsOfTexts, IsReport, Refuses}
use Rattle.signoff_call.specs.Answers.{reported}
use Rattle.signoff_call.proofs.Answering.{left_of, reported_keeper, turned_answered, turned_keeper}
use Rattle.signoff_call.proofs.texts.demonstrated.Goals as goal

pub returns-in-Ok-clause-answer : goal.returns-in-Ok-clause-answer
returns-in-Ok-clause-answer g c =
    let r = c.in-Ok.report in
    let n = c.args.stages in
    let lines = c.check.new.self.book.now.lines.items in
    let first = subst (λ (m : List ℕ). IsReport m c.bytes-2.result.now w.All 20000 lines r) (c.bytes.ensures ∙ c.in_ok-module.ensures) c.in-Ok.ensures.report in
    let is = subst (λ (s : List ℕ). IsReport (module_text n) s w.All 20000 lines r) (c.bytes-2.ensures ∙ c.in_ok-set.ensures) first in
    inr (record {
      report = r;
      is_report = (is, c.in-Ok.ensures.least);
      asked = _;
      settled = c.in-Ok.ensures.settled;
      answer_is = c.reported.ensures ∙ (ap (λ (vs : List Verdict). reported vs c.in_ok-text-in-Ok.text) c.deref.ensures.value ∙ ap (λ (bs : List ℕ). reported r.verdicts.items bs) c.in_ok-text-in-Ok.ensures);
    })

pub returns-in-Ok-clause-keeper : goal.returns-in-Ok-clause-keeper
returns-in-Ok-clause-keeper g c = reported_keeper c.reported.result c.deref.result.now c.in_ok-text-in-Ok.text _ c.reported.ensures

pub returns-clause-answer : goal.returns-clause-answer
returns-clause-answer g c =
    let n = c.args.stages in
    let fault = c.in-Err.fault in
    let before = g.K.Keeper.tables c.args.checker.now.prover.keeper.now in
    let after = g.K.Keeper.tables c.check.new.self.prover.keeper.now in
    let first = subst (λ (m : List ℕ). Refuses m c.bytes-2.result.now w.All fault) (c.bytes.ensures ∙ c.in_ok-module.ensures) c.in-Err.ensures.refuses in
    let refuses = subst (λ (s : List ℕ). Refuses (module_text n) s w.All fault) (c.bytes-2.ensures ∙ c.in_ok-set.ensures) first in
    let left_first = subst (λ (m : List ℕ). AddsProofsOf (AreObsOfTexts m c.bytes-2.result.now w.All) before after) (c.bytes.ensures ∙ c.in_ok-module.ensures) c.check.ensures.left in
    let left = subst (λ (s : List ℕ). AddsProofsOf (AreObsOfTexts (module_text n) s w.All) before after) (c.bytes-2.ensures ∙ c.in_ok-set.ensures) left_first in
    turned_answered c.turned_down.result (Refuses (module_text n) (set_text n) w.All) (AreObsOfTexts (module_text n) (set_text n) w.All) _ c.check.new.self.book.now _ fault refuses c.in-Err.ensures.empty left c.turned_down.ensures.memory c.turned_down.ensures.line

pub returns-clause-keeper : goal.returns-clause-keeper
returns-clause-keeper g c = turned_keeper c.turned_down.result c.in-Err.fault _ (λ is. c.check.ensures.proceeds.keeper.rose (subst (λ (z : CheckFault). c.check.result ≡ Err z) is c.in-Err.is)) c.turned_down.ensures.line

pub returns-in-Ok-clause-left : goal.returns-in-Ok-clause-left
returns-in-Ok-clause-left g c = left_of c.bytes.result.now (module_text c.args.stages) c.bytes-2.result.now (set_text c.args.stages) w.All w.All _ _ (c.bytes.ensures ∙ c.in_ok-module.ensures) (c.bytes-2.ensures ∙ c.in_ok-set.ensures) refl c.check.ensures.left

pub returns-clause-left : goal.returns-clause-left
returns-clause-left g c = left_of c.bytes.result.now (module_text c.args.stages) c.bytes-2.result.now (set_text c.args.stages) w.All w.All _ _ (c.bytes.ensures ∙ c.in_ok-module.ensures) (c.bytes-2.ensures ∙ c.in_ok-set.ensures) refl c.check.ensures.left

pub returns-in_err-text-in-Ok-clause-left : goal.returns-in_err-text-in-Ok-clause-left
returns-in_err-text-in-Ok-clause-left g c = left_of c.bytes.result.now (module_text c.args.stages) c.bytes-2.result.now (set_text c.args.stages) w.All w.All _ _ (c.bytes.ensures ∙ c.in_ok-module.ensures) (c.bytes-2.ensures ∙ c.in_ok-set.ensures) refl c.check.ensures.left
