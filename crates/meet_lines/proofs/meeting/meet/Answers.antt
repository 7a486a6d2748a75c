use Rattle.std.proofs.Common.{◌≡◌, List, map, option_map, subst}
use Rattle.desk_core_reports.specs.declared.book.Line.{Line as Told}
use Rattle.proof_store.proofs.Turns.{proceeds_well}
use Rattle.meet_lines.specs.Meetings.{is_complete, meet_text}
use Rattle.meet_lines.proofs.Bound.{is_report}
use Rattle.meet_lines.proofs.meeting.meet.Goals as goal

pub returns-clause-report : goal.returns-clause-report
returns-clause-report g c =
    let ds = c.in_ok-decided.decided.lines.items in
    let name = option_map (λ n. n.now) c.args.name in
    let r = c.in_ok-report.report in
    let same = c.deref.ensures.value in
    let text = subst (λ (z : List Told). r.text ≡ meet_text name z) same c.in_ok-report.ensures.text in
    let verdicts = subst (λ (z : List Told). r.verdicts.items ≡ map (λ (d : Told). d.verdict) z) same c.in_ok-report.ensures.verdicts in
    let complete = subst (λ (z : List Told). r.complete ≡ is_complete name z) same c.in_ok-report.ensures.complete in
    let of_texts = c.in_ok-decided.ensures.lines in
    is_report c.args.module.now c.args.set.now of_texts.0 name c.args.checker.now.prover.settings.budget ds r of_texts.1 of_texts.2 text verdicts complete

pub returns-clause-proceeds : goal.returns-clause-proceeds
returns-clause-proceeds g c = proceeds_well _ _ _ _ (λ is. cc) c.in_ok-decided.ensures.proceeds
