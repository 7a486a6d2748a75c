-- The law of solved modules.
use Rattle.vlog_tree_runs.specs.declared.flat.Flat.{Flat}
use Rattle.vlog_tree_runs.specs.Places.{Name}
use Rattle.elab_flat_faults.specs.Drivers.{DependsOn}
use Rattle.elab_step_design.specs.Designs.{Parts, HasRunsOf}
use Rattle.elab_step_nets.specs.Solving.{processes, joined, AreGroups, IsNetOrder}
use Rattle.elab_step_nets.specs.Asked.{CanElaborate, IsFaultless}
use Rattle.elab_step_nets.specs.Boards.{IsSolved}
use Rattle.std.specs.Prelude.{List}

-- a design whose nets are solved group after group in an order of a faultless module has the module's runs
abbrev pub SolvedHaveRuns : Type 0
SolvedHaveRuns =
    (f : Flat) (xss : List (List Name)) (d : Parts) → CanElaborate f → IsFaultless f → IsNetOrder f (DependsOn f) (joined xss) → AreGroups (processes f) (DependsOn f) xss → IsSolved f xss d → HasRunsOf f d
