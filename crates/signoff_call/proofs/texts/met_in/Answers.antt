use Rattle.std.proofs.Common.{◌≡◌, ℕ, List, option_map, subst, inr, Err}
use Rattle.desk_core_faults.specs.declared.fault.CheckFault.{CheckFault}
use Rattle.meet_lines.specs.Meetings.{AreObsOfTexts, IsMeetReport, Refuses}
use Rattle.signoff_call.proofs.Answering.{left_met, met_keeper, turned_answered, turned_keeper}
use Rattle.signoff_call.proofs.texts.met_in.Goals as goal

pub returns-in-Ok-clause-answer : goal.returns-in-Ok-clause-answer
returns-in-Ok-clause-answer g c =
    let r = c.in-Ok.report in
    let name = option_map (λ n. n.now) c.args.name in
    let budget = c.args.checker.now.prover.settings.budget in
    let lines = c.meet.new.checker.book.now.lines.items in
    let first = subst (λ (m : List ℕ). IsMeetReport m c.bytes-2.result.now name budget lines r) c.bytes.ensures c.in-Ok.ensures.report in
    let is = subst (λ (s : List ℕ). IsMeetReport c.args.module.now s name budget lines r) c.bytes-2.ensures first in
    inr (record { report = r; is_report = is; asked = _; settled = c.in-Ok.ensures.settled; answer_is = c.met.ensures })

pub returns-in-Ok-clause-keeper : goal.returns-in-Ok-clause-keeper
returns-in-Ok-clause-keeper g c = met_keeper c.met.result c.in-Ok.report _ c.met.ensures

pub returns-in-Err-clause-answer : goal.returns-in-Err-clause-answer
returns-in-Err-clause-answer g c =
    let fault = c.in-Err.fault in
    let name = option_map (λ n. n.now) c.args.name in
    let first = subst (λ (m : List ℕ). Refuses m c.bytes-2.result.now name fault) c.bytes.ensures c.in-Err.ensures.refuses in
    let refuses = subst (λ (s : List ℕ). Refuses c.args.module.now s name fault) c.bytes-2.ensures first in
    let left = left_met c.bytes.result.now c.args.module.now c.bytes-2.result.now c.args.set.now name _ _ c.bytes.ensures c.bytes-2.ensures c.meet.ensures.left in
    turned_answered c.turned_down.result (Refuses c.args.module.now c.args.set.now name) (AreObsOfTexts c.args.module.now c.args.set.now name) _ c.meet.new.checker.book.now _ fault refuses c.in-Err.ensures.empty left c.turned_down.ensures.memory c.turned_down.ensures.line

pub returns-in-Err-clause-keeper : goal.returns-in-Err-clause-keeper
returns-in-Err-clause-keeper g c = turned_keeper c.turned_down.result c.in-Err.fault _ (λ is. c.meet.ensures.proceeds.keeper.rose (subst (λ (z : CheckFault). c.meet.result ≡ Err z) is c.in-Err.is)) c.turned_down.ensures.line

pub returns-in-Ok-clause-left : goal.returns-in-Ok-clause-left
returns-in-Ok-clause-left g c = left_met c.bytes.result.now c.args.module.now c.bytes-2.result.now c.args.set.now _ _ _ c.bytes.ensures c.bytes-2.ensures c.meet.ensures.left

pub returns-in-Err-clause-left : goal.returns-in-Err-clause-left
returns-in-Err-clause-left g c = left_met c.bytes.result.now c.args.module.now c.bytes-2.result.now c.args.set.now _ _ _ c.bytes.ensures c.bytes-2.ensures c.meet.ensures.left
