-- The report of texts whose set is bound, and refusals.
use Rattle.std.proofs.Common.{ℕ, List, sym, ◌∙◌, Option, inl, inr, ⊎_elim}
use Rattle.std.specs.Prelude.{Result, Ok, Err, IfOk, IfErr}
use Rattle.outside.specs.Tables.{Tables}
use Rattle.unroll_binding.specs.Binding.{Pair}
use Rattle.desk_core_faults.specs.declared.fault.CheckFault.{CheckFault}
use Rattle.desk_core_faults.specs.declared.fault.CheckFault.TheVariants as f
use Rattle.desk_core_stages.specs.Stages.{IsBoundOf, Refuses as StageRefuses}
use Rattle.desk_core_reports.specs.declared.book.Line.{Line as Told}
use Rattle.desk_core_reports.specs.declared.report.Report.{Report}
use Rattle.desk_core_commands.specs.declared.which.Which.{Which}
use Rattle.desk_core_goals.specs.Decided.{AreDecided}
use Rattle.desk_core_goals.specs.Settled.{AddsProofsOf, AreObsOf}
use Rattle.unroll_laws.proofs.Existing.{bound_modules_run}
use Rattle.desk_core_goals.proofs.Promising.{decided_of_modules, proved_lines_promise}
use Rattle.desk_core.specs.Checks.{AreObsOfTexts, IsReport, IsReportOf, RefusesAsked, Refuses}

pub is_report : (text set_text : List ℕ) (b : Pair) (which : Which) (budget : ℕ) (ds : List Told) (r : Report) → IsBoundOf text set_text b → AreDecided budget b which ds
    → IsReportOf which ds r → IsReport text set_text which budget ds r
is_report text set_text b which budget ds r bound decided told =
    let design = bound.design_is in
    let each = decided_of_modules budget bound.modules design.flat b design.flat_of.keeps design.runs decided.lines ds decided.each in
    let promises = proved_lines_promise budget bound.modules b bound.set_is.sound which decided.lines ds decided.asked each in
    record {
      bound = b;
      from = bound;
      lines = decided.lines;
      asked = decided.asked;
      each = each;
      text = told.text;
      verdicts = told.verdicts;
      complete = told.complete;
      runs = bound_modules_run bound.modules b.set.block design.flat b.design b.set design.flat_of.keeps design.runs design.signals.design bound.fits;
      satisfied = promises.satisfied;
      signed_off = λ is. promises.signed_off (sym told.complete ∙ is);
    }

pub stage_refuses : (text set_text : List ℕ) (which : Which) (fault : CheckFault) → StageRefuses text set_text fault → Refuses text set_text which fault
stage_refuses text set_text which f.NoLine h = absurd h
stage_refuses text set_text which f.Keeper h = absurd h
stage_refuses text set_text which f.Memory h = h
stage_refuses text set_text which (f.Module fault) h = h
stage_refuses text set_text which (f.Set stop) h = h
stage_refuses text set_text which (f.Bind fault) h = h

pub asked_refuses : (text set_text : List ℕ) (b : Pair) (which : Which) (fault : CheckFault) → IsBoundOf text set_text b → RefusesAsked b.set which fault → Refuses text set_text which fault
asked_refuses text set_text b which f.NoLine bound h = (b, bound, h)
asked_refuses text set_text b which f.Keeper bound h = (b, bound, h)
asked_refuses text set_text b which f.Memory bound h = tt
asked_refuses text set_text b which (f.Module fault) bound h = absurd h
asked_refuses text set_text b which (f.Set stop) bound h = absurd h
asked_refuses text set_text b which (f.Bind fault) bound h = absurd h

-- what is said of a set that is bound is of the two texts
pub report_of_texts : {E : Type 0} (text set_text : List ℕ) (b : Pair) (which : Which) (budget : ℕ) (ds : List Told) → IsBoundOf text set_text b → (r : Result Report E) → IfOk r (λ _. AreDecided budget b which ds)
    → IfOk r (IsReportOf which ds) → IfOk r (IsReport text set_text which budget ds)
report_of_texts text set_text b which budget ds bound (Ok r) decided told = is_report text set_text b which budget ds r bound decided told
report_of_texts text set_text b which budget ds bound (Err fault) decided told = tt

pub refused_of_texts : {T : Type 0} (text set_text : List ℕ) (b : Pair) (which : Which) → IsBoundOf text set_text b → (r : Result T CheckFault) → IfErr r (RefusesAsked b.set which) → IfErr r (Refuses text set_text which)
refused_of_texts text set_text b which bound (Ok t) h = tt
refused_of_texts text set_text b which bound (Err fault) h = asked_refuses text set_text b which fault bound h

pub adds_of_texts : (text set_text : List ℕ) (b : Pair) (which : Which) → IsBoundOf text set_text b → (before after : Option Tables) → AddsProofsOf (AreObsOf b which) before after
    → AddsProofsOf (AreObsOfTexts text set_text which) before after
adds_of_texts text set_text b which bound before after h = (h.0, ⊎_elim (λ none. inl none) (λ of_lines. inr (b, bound, of_lines)) h.1, h.2)
