use Rattle.std.proofs.Common.{ℕ, List, ap, ◌∙◌}
use Rattle.desk_core_reports.specs.declared.book.Verdict.{Verdict}
use Rattle.signoff_call.specs.Answers.{reported}
use Rattle.signoff_call.proofs.Walking.{says_alone}
use Rattle.signoff_call.proofs.accepting.line_reported.Goals as goal

pub returns-clause-said : goal.returns-clause-said
returns-clause-said c =
    let r = c.in_ok-report.report in
    let shown = c.in_ok-bytes.bytes in
    let is = c.in_ok-bytes.ensures ∙ c.bytes-2.ensures in
    let says = c.reported.ensures ∙ (ap (λ (vs : List Verdict). reported vs shown) c.deref-2.ensures.value ∙ ap (λ (bs : List ℕ). reported r.verdicts.items bs) is) in
    says_alone c.in_ok-copy.field-0 c.args.name.now c.args.book.now c.deref.result.now r _ (c.in_ok-copy.ensures ∙ c.bytes.ensures) c.deref.ensures.value (record { text = c.in_ok-report.ensures.text; verdicts = c.in_ok-report.ensures.verdicts; complete = c.in_ok-report.ensures.complete }) says
