-- The lines that are asked for, and how they were decided.
use Rattle.std.specs.Prelude.{◌≡◌, ◌≢◌, ◌⊎◌, ℕ, true, List, [], ◌∷◌, IfSome}
use Rattle.std.specs.List.{All, AllZip, Contains}
use Rattle.vlog_tree.specs.declared.module.Module.{Module}
use Rattle.set_tree.specs.declared.line.Line.{Line}
use Rattle.set_tree.specs.declared.set.Set.{Set}
use Rattle.set_tree.specs.Report.{design_lines}
use Rattle.word_dag.specs.declared.ob.Named.{Named}
use Rattle.unroll_laws.specs.Promises.{IsRefutable}
use Rattle.job_pool.specs.Ample.{IsAmple}
use Rattle.twin_tests_laws.specs.Names.{line_name}
use Rattle.unroll_binding.specs.Binding.{Pair}
use Rattle.job_pool.specs.Shown.{IsShown}
use Rattle.proof_store.specs.declared.goal.Decided.{Decided}
use Rattle.desk_core_reports.specs.declared.book.Line.{Line as Told}
use Rattle.desk_core_reports.specs.declared.book.Verdict.{Verdict}
use Rattle.desk_core_reports.specs.declared.book.Verdict.TheVariants as v
use Rattle.desk_core_commands.specs.declared.which.Which.{Which}
use Rattle.desk_core_commands.specs.declared.which.Which.TheVariants as w
use Rattle.desk_core_reports.specs.Lines.{verdict_of}
use Rattle.desk_core_goals.specs.Obligations.{IsBroken, IsObOf, all_lines}
use Rattle.desk_core_goals.specs.Traces.{IsTraceOf, ShowsModules, is_on_design}

-- the line of a name
pub record IsLineNamed (set : Set) (name : List ℕ) (line : Line) : Type 0 where
  pub among : Contains (all_lines set) line
  pub named : line_name set line ≡ name

-- it alone
abbrev pub IsOnlyLine : Set → List ℕ → List Line → Type 0
IsOnlyLine set name lines = (line : Line) × IsLineNamed set name line × (lines ≡ line ∷ [])

-- the lines that are asked for
abbrev pub AreAsked : Which → Set → List Line → Type 0
AreAsked w.Ops set lines = lines ≡ design_lines set
AreAsked w.All set lines = lines ≡ all_lines set
AreAsked (w.One name) set lines = IsOnlyLine set name lines
AreAsked (w.Least name) set lines = IsOnlyLine set name lines

-- a proved line can't be violated, and a refuted one is
abbrev pub Says : Type 0 → Verdict → Type 0
Says P v.Proved = P → ⊥
Says P v.Refuted = P
Says P v.Spent = Unit {0}

-- A line of a report as it was decided: its obligation is one of the line, what shows its verdict is within the budget, an ample budget isn't spent,
-- and the verdict is right of what it is to violate the line; where it is refuted it has a counterexample
pub record IsDecidedBy (Violated : Line → Type 0) (budget : ℕ) (b : Pair) (line : Line) (d : Told) : Type 0 where
  pub name : d.name ≡ line_name b.set line
  pub named : Named
  pub of_line : IsObOf b line named
  pub ob : d.ob ≡ named.ob
  pub shown : IsShown budget d.ob d.evidence
  pub ample : IsAmple budget d.ob → d.verdict ≢ v.Spent
  pub verdict : d.verdict ≡ verdict_of d.evidence
  pub traced : IsTraceOf b line d.ob d.evidence d.trace
  pub says : Says (Violated line) d.verdict

-- the line of the book tells how a goal was decided
pub record Tells (b : Pair) (d : Decided Line) (told : Told) : Type 0 where
  pub name : told.name ≡ line_name b.set d.goal.line
  pub ob : told.ob ≡ d.goal.ob
  pub evidence : told.evidence ≡ d.evidence
  pub verdict : told.verdict ≡ verdict_of d.evidence
  pub traced : IsTraceOf b d.goal.line d.goal.ob d.evidence told.trace

-- right of the design
abbrev pub IsDecidedOn : ℕ → Pair → Line → Told → Type 0
IsDecidedOn budget b line d = IsDecidedBy (IsBroken b) budget b line d

-- right of modules; and where a line on the design is refuted, what is shown is a segment of the modules that violates it
pub record IsLineOf (budget : ℕ) (ms : List Module) (b : Pair) (line : Line) (d : Told) : Type 0 where
  pub decided : IsDecidedBy (IsRefutable ms b.set.block b.set) budget b line d
  pub shows : is_on_design line ≡ true → IfSome d.trace (ShowsModules ms b line)

-- the line stands among lines, and was decided as proved
abbrev pub IsProvedAmong : Line → List Line → List Told → Type 0
IsProvedAmong line [] ds = ⊥
IsProvedAmong line (x ∷ xs) [] = ⊥
IsProvedAmong line (x ∷ xs) (d ∷ ds) = ((line ≡ x) × (d.verdict ≡ v.Proved)) ⊎ IsProvedAmong line xs ds

-- each line on the design does
abbrev pub ProvesDesignLines : Set → List Line → List Told → Type 0
ProvesDesignLines set lines ds = All (λ line. IsProvedAmong line lines ds) (design_lines set)

-- the lines that are asked for, each decided on the design
pub record AreDecided (budget : ℕ) (b : Pair) (which : Which) (ds : List Told) : Type 0 where
  pub lines : List Line
  pub asked : AreAsked which b.set lines
  pub each : AllZip (IsDecidedOn budget b) lines ds
