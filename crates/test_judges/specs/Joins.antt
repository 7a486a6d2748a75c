-- Rows that break a line, and segments of a design that violate it.
use Rattle.std.specs.Prelude.{◌≡◌, ℕ, ◌↔◌, false, List}
use Rattle.std.specs.List.{All}
use Rattle.set_tree.specs.declared.set.Rule.{Rule}
use Rattle.set_tree.specs.declared.set.Set.{Set}
use Rattle.set_tree.specs.Meaning.{Meaning}
use Rattle.set_tree.specs.Runs.{Design, IsRun, IsRunFromReset, trace_of, ViolatesBase, ViolatesStep, ViolatesReset, ViolatesOperation}
use Rattle.test_judges.specs.Breaking.{BreaksBase, BreaksStep, BreaksReset, BreaksOperation}

-- a run with reset inactive
pub record IsRunWithoutReset {Cycle : Type 0} (d : Design Cycle) (cycles : List Cycle) : Type 0 where
  pub run : IsRun d cycles
  pub inactive : All (λ c. d.is_reset c ≡ false) cycles

-- Cycles of a design violate a line exactly where they are a run, from reset for `base` and `reset` and without it for `step` and `op`, whose
-- rows break the line.
pub record ViolationsAreBreakingRuns {Cycle : Type 0} (d : Design Cycle) (m : Meaning) (set : Set) : Type 0 where
  pub base : (rule : Rule) (resets cycles : List Cycle) → ViolatesBase d m set rule resets cycles ↔ (IsRunFromReset d set resets cycles × BreaksBase m set rule (trace_of d cycles))
  pub step : (rule : Rule) (cycles : List Cycle) → ViolatesStep d m set rule cycles ↔ (IsRunWithoutReset d cycles × BreaksStep m set rule (trace_of d cycles))
  pub reset : (resets cycles : List Cycle) → ViolatesReset d m set resets cycles ↔ (IsRunFromReset d set resets cycles × BreaksReset m set (trace_of d cycles))
  pub operation : (p : ℕ) (cycles : List Cycle) → ViolatesOperation d m set p cycles ↔ (IsRunWithoutReset d cycles × BreaksOperation m set p (trace_of d cycles))
