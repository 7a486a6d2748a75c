-- What `meet` gives of two texts, and why it refuses.
use Rattle.std.specs.Prelude.{◌≡◌, ℕ, ◌++◌, Bool, true, false, List, [], ◌∷◌, codes, map, Option, Some, None, if◌then◌else◌}
use Rattle.std.specs.List.{AllZip, flat_map, list_all}
use Rattle.set_tree.specs.declared.set.Set.{Set}
use Rattle.word_dag.specs.Nodes.{Parts}
use Rattle.word_dag.specs.Text.{line}
use Rattle.unroll_binding.specs.Binding.{Pair}
use Rattle.desk_core_faults.specs.declared.fault.CheckFault.{CheckFault}
use Rattle.desk_core_faults.specs.declared.fault.CheckFault.TheVariants as f
use Rattle.desk_core_stages.specs.Stages.{IsBoundOf, Refuses as StageRefuses}
use Rattle.replay.specs.declared.shown.Shown.{Shown}
use Rattle.replay.specs.Texts.{shown_text}
use Rattle.desk_core_reports.specs.declared.book.Line.{Line as Told}
use Rattle.desk_core_reports.specs.declared.book.Verdict.{Verdict}
use Rattle.desk_core_reports.specs.declared.book.Verdict.TheVariants as v
use Rattle.desk_core_reports.specs.declared.report.Report.{Report}
use Rattle.desk_core_goals.specs.declared.fault.LineFault.TheVariants as l
use Rattle.meet_lines.specs.declared.line.MeetLine.{MeetLine}
use Rattle.meet_lines.specs.Decided.{AreDecided, AreObsOf, IsLineOf}
use Rattle.meet_lines.specs.Goals.{AreAsked, RefusesLines}

-- ---- texts

-- a line whose obligation is refuted is met
abbrev pub meet_word : Verdict → List ℕ
meet_word v.Proved = codes "unmet"
meet_word v.Refuted = codes "met"
meet_word v.Spent = codes "spent"

abbrev pub is_met : Verdict → Bool
is_met v.Proved = false
is_met v.Refuted = true
is_met v.Spent = false

abbrev pub line_text : Told → List ℕ
line_text d = line (meet_word d.verdict) (d.name ∷ [])

abbrev pub all_met : List Told → Bool
all_met ds = list_all (λ d. is_met d.verdict) ds

-- what all lines together come to
abbrev pub last_line : List Told → List ℕ
last_line ds = if all_met ds then codes "all met\n" else codes "not all met\n"

-- the segment that is shown, where there is one
abbrev pub shown_of : Option Shown → List ℕ
shown_of None = []
shown_of (Some shown) = shown_text shown

abbrev pub shown_line : Told → List ℕ
shown_line d = line_text d ++ shown_of d.trace

-- all lines; or the line of the name, with the segment that meets it
abbrev pub meet_text : Option (List ℕ) → List Told → List ℕ
meet_text None ds = flat_map line_text ds ++ last_line ds
meet_text (Some name) ds = flat_map shown_line ds

abbrev pub is_complete : Option (List ℕ) → List Told → Bool
is_complete None ds = all_met ds
is_complete (Some name) ds = false

-- ---- the answer

-- Its lines are those asked for, each decided rightly of the modules, and its text tells them.
pub record IsMeetReport (module_text set_text : List ℕ) (name : Option (List ℕ)) (budget : ℕ) (decided : List Told) (r : Report) : Type 0 where
  pub bound : Pair
  pub from : IsBoundOf module_text set_text bound
  pub lines : List MeetLine
  pub asked : AreAsked name bound.set lines
  pub each : AllZip (IsLineOf budget from.modules bound) lines decided
  pub text : r.text ≡ meet_text name decided
  pub verdicts : r.verdicts.items ≡ map (λ d. d.verdict) decided
  pub complete : r.complete ≡ is_complete name decided

-- no line has the name that was asked for; or the keeper of the proofs of those that were failed, or memory ran out
abbrev pub RefusesAsked : Set → Option (List ℕ) → CheckFault → Type 0
RefusesAsked set name f.NoLine = RefusesLines set name l.NoLine
RefusesAsked set name f.Keeper = RefusesLines set name l.Keeper
RefusesAsked set name f.Memory = RefusesLines set name l.Memory
RefusesAsked set name (f.Module fault) = ⊥
RefusesAsked set name (f.Set stop) = ⊥
RefusesAsked set name (f.Bind fault) = ⊥

-- a stage refuses the texts; or none does, and no line has the name, or the keeper failed
abbrev pub Refuses : List ℕ → List ℕ → Option (List ℕ) → CheckFault → Type 0
Refuses text set_text name f.NoLine = (b : Pair) × IsBoundOf text set_text b × RefusesAsked b.set name f.NoLine
Refuses text set_text name f.Keeper = (b : Pair) × IsBoundOf text set_text b × RefusesAsked b.set name f.Keeper
Refuses text set_text name f.Memory = StageRefuses text set_text f.Memory
Refuses text set_text name (f.Module fault) = StageRefuses text set_text (f.Module fault)
Refuses text set_text name (f.Set stop) = StageRefuses text set_text (f.Set stop)
Refuses text set_text name (f.Bind fault) = StageRefuses text set_text (f.Bind fault)

-- obligations of the lines that are asked for of the set that two texts spell
abbrev pub AreObsOfTexts : List ℕ → List ℕ → Option (List ℕ) → List Parts → Type 0
AreObsOfTexts text set_text name obs = (b : Pair) × IsBoundOf text set_text b × AreObsOf b name obs

-- lines that are asked for of the set that two texts spell, decided
abbrev pub AreDecidedOf : List ℕ → List ℕ → Option (List ℕ) → ℕ → List Told → Type 0
AreDecidedOf text set_text name budget ds = (b : Pair) × IsBoundOf text set_text b × AreDecided budget b name ds
