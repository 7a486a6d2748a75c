-- The goals that are asked for.
use Rattle.std.specs.Prelude.{◌≡◌, ◌⊎◌, ℕ, Bool, List, map}
use Rattle.std.specs.List.{All}
use Rattle.std.specs.Str.{bytes_eq}
use Rattle.set_tree.specs.declared.line.Line.{Line}
use Rattle.set_tree.specs.declared.set.Set.{Set}
use Rattle.word_dag.specs.declared.ob.Named.{Named}
use Rattle.twin_tests_laws.specs.Names.{line_name}
use Rattle.unroll_binding.specs.Binding.{Pair}
use Rattle.job_pool.specs.Shown.{IsShown}
use Rattle.proof_store.specs.declared.goal.Decided.{Decided}
use Rattle.proof_store.specs.declared.goal.Goal.{Goal}
use Rattle.desk_core_commands.specs.declared.which.Which.{Which}
use Rattle.desk_core_commands.specs.declared.which.Which.TheVariants as w
use Rattle.desk_core_goals.specs.Obligations.{IsObOf}
use Rattle.desk_core_goals.specs.declared.fault.LineFault.{LineFault}
use Rattle.desk_core_goals.specs.declared.fault.LineFault.TheVariants as f
use Rattle.desk_core_goals.specs.Decided.{AreAsked, IsLineNamed, IsOnlyLine}

abbrev pub line_of : Goal Line → Line
line_of goal = goal.line

-- the obligation under the name of the goal's line
abbrev pub named_of : Set → Goal Line → Named
named_of set goal = record { name = line_name set goal.line; ob = goal.ob }

-- the goal's obligation is one of its line
abbrev pub IsGoalOf : Pair → Goal Line → Type 0
IsGoalOf b goal = IsObOf b goal.line (named_of b.set goal)

-- a goal for each of these lines, in order
pub record AreGoalsOf (b : Pair) (lines : List Line) (goals : List (Goal Line)) : Type 0 where
  pub lines_are : map line_of goals ≡ lines
  pub each : All (IsGoalOf b) goals

-- goals of the lines that are asked for
pub record Asks (b : Pair) (which : Which) (goals : List (Goal Line)) : Type 0 where
  pub asked : AreAsked which b.set (map line_of goals)
  pub each : All (IsGoalOf b) goals

abbrev pub has_name : Set → List ℕ → Line → Bool
has_name set name line = bytes_eq (line_name set line) name

-- a goal of the line of a name
pub record IsGoalNamed (b : Pair) (name : List ℕ) (goal : Goal Line) : Type 0 where
  pub named : IsLineNamed b.set name goal.line
  pub of_line : IsGoalOf b goal

-- such a goal alone
pub record AsksOne (b : Pair) (name : List ℕ) (goals : List (Goal Line)) : Type 0 where
  pub asked : IsOnlyLine b.set name (map line_of goals)
  pub each : All (IsGoalOf b) goals

-- no line has the name
abbrev pub LacksName : Set → List ℕ → LineFault → Type 0
LacksName set name f.NoLine = (line : Line) → IsLineNamed set name line → ⊥
LacksName set name f.Keeper = ⊥
LacksName set name f.Memory = Unit {0}

-- the name of the line that is asked for alone
abbrev pub Names : Which → List ℕ → Type 0
Names which name = (which ≡ w.One name) ⊎ (which ≡ w.Least name)

-- no line has the name that is asked for
abbrev pub LacksLine : Set → Which → LineFault → Type 0
LacksLine set which f.NoLine = (name : List ℕ) × Names which name × LacksName set name f.NoLine
LacksLine set which f.Keeper = ⊥
LacksLine set which f.Memory = Unit {0}

-- no line has the name that is asked for; or the keeper of the proofs of those that are failed, or memory ran out
abbrev pub RefusesLines : Set → Which → LineFault → Type 0
RefusesLines set which f.NoLine = LacksLine set which f.NoLine
RefusesLines set which f.Keeper = (lines : List Line) × AreAsked which set lines
RefusesLines set which f.Memory = Unit {0}

-- a goal of a line, decided
pub record IsGoalDecided (budget : ℕ) (b : Pair) (d : Decided Line) : Type 0 where
  pub of_line : IsGoalOf b d.goal
  pub shown : IsShown budget d.goal.ob d.evidence
