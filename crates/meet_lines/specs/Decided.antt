-- The lines that are asked for, and how they were decided.
use Rattle.std.specs.Prelude.{◌≡◌, ◌≢◌, ◌++◌, ℕ, List, length, map, Option, Some, None, IfSome}
use Rattle.std.specs.List.{AllZip}
use Rattle.vlog_tree.specs.declared.module.Module.{Module}
use Rattle.vlog_tree_runs.specs.Places.{Name}
use Rattle.set_tree.specs.declared.set.Set.{Set}
use Rattle.set_tree.specs.Formulas.{meaning_of}
use Rattle.set_tree.specs.Runs.{trace_of}
use Rattle.elab_step_design.specs.SetDesigns.{CycleFrom, design_from}
use Rattle.word_dag.specs.Nodes.{Parts}
use Rattle.elab_step_design.specs.Laws.{word_design}
use Rattle.word_dag.specs.Names.{HasOneWordEach, naming_from}
use Rattle.unroll_binding.specs.Binding.{Pair}
use Rattle.job_pool.specs.Ample.{IsAmple}
use Rattle.job_pool.specs.Shown.{IsShown}
use Rattle.job_pool.specs.declared.evidence.Evidence.{Evidence}
use Rattle.job_pool.specs.declared.evidence.Evidence.TheVariants as e
use Rattle.proof_store.specs.Goals.{ob_of}
use Rattle.proof_store.specs.declared.goal.Decided.{Decided}
use Rattle.proof_store.specs.declared.goal.Goal.{Goal}
use Rattle.replay.specs.declared.shown.Shown.{Shown}
use Rattle.replay.specs.Segments.{first_values}
use Rattle.replay.specs.Windows.{declared_names}
use Rattle.desk_core_reports.specs.declared.book.Line.{Line as Told}
use Rattle.desk_core_reports.specs.declared.book.Verdict.TheVariants as v
use Rattle.desk_core_reports.specs.Lines.{verdict_of}
use Rattle.desk_core_goals.specs.Decided.{Says}
use Rattle.meet_lines.specs.declared.line.MeetLine.{MeetLine}
use Rattle.meet_lines.specs.Goals.{AreAsked, Asks, IsGoalOf}
use Rattle.meet_lines.specs.Lines.{AreMeetingCycles, IsMet, IsOf}
use Rattle.meet_lines.specs.Named.{meet_name}
use Rattle.meet_lines.specs.Shown.{ShowsMeeting}

-- the segment that the values name, where there are some
abbrev pub IsTraceOf : Pair → MeetLine → Parts → Evidence → Option Shown → Type 0
IsTraceOf b line ob (e.Derivation steps) o = o ≡ None
IsTraceOf b line ob (e.Values us) None = ⊥
IsTraceOf b line ob (e.Values us) (Some shown) = ShowsMeeting b.design (meaning_of b.set) b.set line (naming_from ob.nodes us.items) shown
IsTraceOf b line ob (e.Chain steps) o = o ≡ None

-- a goal of a line, decided
pub record IsGoalDecided (budget : ℕ) (b : Pair) (d : Decided MeetLine) : Type 0 where
  pub of_line : IsGoalOf b.design b.set d.goal.line d.goal
  pub shown : IsShown budget d.goal.ob d.evidence

-- the line of the book tells how a goal was decided
pub record Tells (b : Pair) (d : Decided MeetLine) (told : Told) : Type 0 where
  pub name : told.name ≡ meet_name b.set d.goal.line
  pub ob : told.ob ≡ d.goal.ob
  pub evidence : told.evidence ≡ d.evidence
  pub verdict : told.verdict ≡ verdict_of d.evidence
  pub traced : IsTraceOf b d.goal.line d.goal.ob d.evidence told.trace

-- A line as it was decided: its obligation is one of the line, what shows its verdict is within the budget, an ample budget isn't spent, and the
-- verdict is right of what it is to meet the line: proved where nothing does, refuted where something does, which is shown.
pub record IsDecidedBy (Met : MeetLine → Type 0) (budget : ℕ) (b : Pair) (line : MeetLine) (d : Told) : Type 0 where
  pub name : d.name ≡ meet_name b.set line
  pub of_line : IsOf b.design (meaning_of b.set) b.set line d.ob.nodes d.ob.root
  pub words : HasOneWordEach d.ob.nodes
  pub shown : IsShown budget d.ob d.evidence
  pub ample : IsAmple budget d.ob → d.verdict ≢ v.Spent
  pub verdict : d.verdict ≡ verdict_of d.evidence
  pub traced : IsTraceOf b line d.ob d.evidence d.trace
  pub says : Says (Met line) d.verdict

-- right of the design
abbrev pub IsDecidedOn : ℕ → Pair → MeetLine → Told → Type 0
IsDecidedOn budget b line d = IsDecidedBy (IsMet (word_design b.design b.set) (meaning_of b.set) b.set) budget b line d

-- what is shown is a segment of modules that meets the line: the values of the registers in its first cycle, and its rows
pub record ShowsModules (ms : List Module) (b : Pair) (line : MeetLine) (shown : Shown) : Type 0 where
  pub resets : List (CycleFrom ms b.set.block)
  pub cycles : List (CycleFrom ms b.set.block)
  pub meeting : AreMeetingCycles (design_from ms b.set.block b.set) (meaning_of b.set) b.set line resets cycles
  pub start : shown.start ≡ first_values b.design (resets ++ cycles)
  pub before : shown.before ≡ length resets
  pub names : shown.first.names ≡ declared_names b.set
  pub rows : shown.first.rows ≡ trace_of (design_from ms b.set.block b.set) (resets ++ cycles)
  pub second : shown.second ≡ None

-- some segment of the modules meets the line
abbrev pub IsMetIn : List Module → Name → Set → MeetLine → Type 0
IsMetIn ms top set line = IsMet (design_from ms top set) (meaning_of set) set line

-- right of modules, and what is shown is of them
pub record IsLineOf (budget : ℕ) (ms : List Module) (b : Pair) (line : MeetLine) (d : Told) : Type 0 where
  pub decided : IsDecidedBy (IsMetIn ms b.set.block b.set) budget b line d
  pub shows : IfSome d.trace (ShowsModules ms b line)

-- the lines that are asked for, each decided on the design
pub record AreDecided (budget : ℕ) (b : Pair) (name : Option (List ℕ)) (ds : List Told) : Type 0 where
  pub lines : List MeetLine
  pub asked : AreAsked name b.set lines
  pub each : AllZip (IsDecidedOn budget b) lines ds

-- obligations of the lines that are asked for
pub record AreObsOf (b : Pair) (name : Option (List ℕ)) (obs : List Parts) : Type 0 where
  pub goals : List (Goal MeetLine)
  pub asked : Asks b name goals
  pub are : obs ≡ map ob_of goals
