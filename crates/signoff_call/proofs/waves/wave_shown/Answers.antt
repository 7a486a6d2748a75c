use Rattle.std.proofs.Common.{ℕ, List, ap, ◌∙◌}
use Rattle.desk_core_reports.specs.declared.book.Line.{Line}
use Rattle.desk_core_reports.specs.declared.book.Verdict.{Verdict}
use Rattle.signoff_call.specs.Answers.{reported}
use Rattle.signoff_call.specs.Bound.{SaysWave}
use Rattle.signoff_call.specs.Waves.{first_waved}
use Rattle.signoff_call.proofs.Walking.{says_one}
use Rattle.signoff_call.proofs.waves.wave_shown.Goals as goal

pub returns-in-Ok-clause-answer : goal.returns-in-Ok-clause-answer
returns-in-Ok-clause-answer g c =
    let b = c.args.bound.now in
    let r = c.in-Ok.report in
    let lines = c.check_bound.new.self.book.now.lines.items in
    let shown = c.in_ok-bytes-in-Ok.bytes in
    let is = c.in_ok-bytes-in-Ok.ensures ∙ ap (λ (ls : List Line). first_waved b ls r.text) c.deref.ensures.value in
    let says = c.reported.ensures ∙ (ap (λ (vs : List Verdict). reported vs shown) c.deref-in-Ok.ensures.value ∙ ap (λ (bs : List ℕ). reported r.verdicts.items bs) is) in
    says_one b _ _ _ _ c.in_ok-copy.field-0 c.args.name.now (c.in_ok-copy.ensures ∙ c.bytes.ensures) (SaysWave b lines) r _ _ c.in-Ok.ensures.lines c.in-Ok.ensures.report c.in-Ok.ensures.least c.in-Ok.ensures.settled says
