use Rattle.std.proofs.Common.{◌≡◌, ◌<◌, length, Some, sym, ap, ◌∙◌, arith}
use Rattle.std.specs.Prelude.{option_map}
use Rattle.clause_check_texts.specs.declared.line.Entry.{Entry}
use Rattle.clause_check_texts.specs.Lines.{content, content_of}
use Rattle.clause_check_texts.specs.Lines.Content.{adds}
use Rattle.clause_check_texts.specs.Steps.{last_id}
use Rattle.clause_check_texts.proofs.ReadLemmas.{takes}
use Rattle.clause_check_texts.proofs.read.read_line.Goals as goal

pub returns-else-addition-last_id-clause-step : goal.returns-else-addition-last_id-clause-step
returns-else-addition-last_id-clause-step c =
    let a = c.in-Some-Addition.addition in
    let ids = c.args.past.now.ids.items in
    let inputs = length c.args.cnf.now.clauses in
    let says : content_of c.args.line.now ≡ Some (adds a.id a.lits.items a.hints.items) =
    sym c.in_ok-content_of.ensures ∙ (ap (option_map content) c.in-Some-Addition.is ∙ ap (λ (e : Entry). Some (content e)) c.in-Some-Addition.field-0-is) in
    let above : last_id inputs ids < a.id = omega (arith, c.last_id.ensures, ap (last_id inputs) c.as_slice.ensures.value, c.if-addition-last_id.false) in
    takes c.args.cnf.now ids c.args.past.now.steps.items c.args.line.now a.id a.lits.items a.hints.items c.take_step.result c.take_step.new.past.ids.items c.take_step.new.past.steps.items says above c.take_step.ensures.step
