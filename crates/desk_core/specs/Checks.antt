-- What a check gives, and why it refuses.
use Rattle.std.specs.Prelude.{◌≡◌, ℕ, true, List, map}
use Rattle.std.specs.List.{AllZip}
use Rattle.set_tree.specs.declared.line.Line.{Line}
use Rattle.set_tree.specs.declared.set.Set.{Set}
use Rattle.unroll_laws.specs.Existence.{HasRunsFromReset}
use Rattle.unroll_laws.specs.Promises.{HoldsInRuns, SignsOff}
use Rattle.word_dag.specs.Nodes.{Parts}
use Rattle.unroll_binding.specs.Binding.{Pair}
use Rattle.desk_core_faults.specs.declared.fault.CheckFault.{CheckFault}
use Rattle.desk_core_faults.specs.declared.fault.CheckFault.TheVariants as f
use Rattle.desk_core_stages.specs.Stages.{IsBoundOf, Refuses as StageRefuses}
use Rattle.desk_core_reports.specs.declared.book.Line.{Line as Told}
use Rattle.desk_core_reports.specs.declared.report.Report.{Report}
use Rattle.desk_core_commands.specs.declared.which.Which.{Which}
use Rattle.desk_core_reports.specs.Reports.{is_complete, report_text}
use Rattle.desk_core_goals.specs.declared.fault.LineFault.{LineFault}
use Rattle.desk_core_goals.specs.declared.fault.LineFault.TheVariants as l
use Rattle.desk_core_goals.specs.Asked.{RefusesLines}
use Rattle.desk_core_goals.specs.Settled.{AreObsOf}
use Rattle.desk_core_goals.specs.Decided.{AreAsked, IsLineOf, ProvesDesignLines}

-- The report of decided lines
pub record IsReportOf (which : Which) (decided : List Told) (r : Report) : Type 0 where
  pub text : r.text ≡ report_text which decided
  pub verdicts : r.verdicts.items ≡ map (λ d. d.verdict) decided
  pub complete : r.complete ≡ is_complete which decided

-- The report of two texts: its lines are those asked for, each decided rightly, and its text tells them.
pub record IsReport (module_text set_text : List ℕ) (which : Which) (budget : ℕ) (decided : List Told) (r : Report) : Type 0 where
  pub bound : Pair
  pub from : IsBoundOf module_text set_text bound
  pub lines : List Line
  pub asked : AreAsked which bound.set lines
  pub each : AllZip (IsLineOf budget from.modules bound) lines decided
  pub text : r.text ≡ report_text which decided
  pub verdicts : r.verdicts.items ≡ map (λ d. d.verdict) decided
  pub complete : r.complete ≡ is_complete which decided
  -- the modules have runs from reset; where each line on the design is among these lines and proved, every constrained one satisfies the set; and where
  -- all lines are, the set is complete
  pub runs : HasRunsFromReset from.modules bound.set.block bound.design bound.set
  pub satisfied : ProvesDesignLines bound.set lines decided → HoldsInRuns from.modules bound.set.block bound.set
  pub signed_off : r.complete ≡ true → SignsOff from.modules bound.set.block bound.set

-- why no lines were decided, as the fault of a check
abbrev pub check_fault_of : LineFault → CheckFault
check_fault_of l.NoLine = f.NoLine
check_fault_of l.Keeper = f.Keeper
check_fault_of l.Memory = f.Memory

-- no line has the name that was asked for; or the keeper of the proofs of those that were failed, or memory ran out
abbrev pub RefusesAsked : Set → Which → CheckFault → Type 0
RefusesAsked set which f.NoLine = RefusesLines set which l.NoLine
RefusesAsked set which f.Keeper = RefusesLines set which l.Keeper
RefusesAsked set which f.Memory = RefusesLines set which l.Memory
RefusesAsked set which (f.Module fault) = ⊥
RefusesAsked set which (f.Set stop) = ⊥
RefusesAsked set which (f.Bind fault) = ⊥

-- a stage refuses the texts; or none does, and no line has the name, or the keeper failed
abbrev pub Refuses : List ℕ → List ℕ → Which → CheckFault → Type 0
Refuses text set_text which f.NoLine = (b : Pair) × IsBoundOf text set_text b × RefusesAsked b.set which f.NoLine
Refuses text set_text which f.Keeper = (b : Pair) × IsBoundOf text set_text b × RefusesAsked b.set which f.Keeper
Refuses text set_text which f.Memory = StageRefuses text set_text f.Memory
Refuses text set_text which (f.Module fault) = StageRefuses text set_text (f.Module fault)
Refuses text set_text which (f.Set stop) = StageRefuses text set_text (f.Set stop)
Refuses text set_text which (f.Bind fault) = StageRefuses text set_text (f.Bind fault)

-- obligations of the lines that are asked for of the set that two texts spell
abbrev pub AreObsOfTexts : List ℕ → List ℕ → Which → List Parts → Type 0
AreObsOfTexts text set_text which obs = (b : Pair) × IsBoundOf text set_text b × AreObsOf b which obs
