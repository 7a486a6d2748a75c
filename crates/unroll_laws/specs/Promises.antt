-- What lines say of the modules whose design they were decided on.
use Rattle.std.specs.Prelude.{◌↔◌, List}
use Rattle.vlog_tree.specs.declared.module.Module.{Module}
use Rattle.vlog_tree_runs.specs.declared.flat.Flat.{Flat}
use Rattle.vlog_tree_runs.specs.Places.{Name}
use Rattle.elab_flat_laws.specs.Flattened.{KeepsRuns}
use Rattle.set_tree.specs.declared.line.Line.{Line}
use Rattle.set_tree.specs.declared.set.Set.{Set}
use Rattle.set_tree.specs.Formulas.{meaning_of}
use Rattle.set_tree.specs.Meaning.{Meaning}
use Rattle.set_tree.specs.Paths.{HaveSamePaths, RunsWalk}
use Rattle.set_tree.specs.Report.{AllValid, IsSignedOff, IsViolated, design_lines}
use Rattle.set_tree.specs.Runs.{RunsSatisfy}
use Rattle.set_tree.specs.Structure.{IsSound}
use Rattle.set_tree.specs.Traces.{IsComplete, IsCompleteForever}
use Rattle.elab_step_design.specs.SetDesigns.{design_from}
use Rattle.elab_step_design.specs.Designs.{HasRunsOf, Parts}
use Rattle.elab_step_design.specs.Laws.{word_design}

abbrev pub LinesAreTheModules : Type 0
LinesAreTheModules =
    (ms : List Module) (top : Name) (f : Flat) (d : Parts) (m : Meaning) (set : Set) → KeepsRuns ms top f → HasRunsOf f d →
    (line : Line) → IsViolated (word_design d set) m set line ↔ IsViolated (design_from ms top set) m set line

-- something in the modules, or in windows, violates the line
abbrev pub IsRefutable : List Module → Name → Set → Line → Type 0
IsRefutable ms top set line = IsViolated (design_from ms top set) (meaning_of set) set line

-- every constrained run of the modules from reset satisfies the set
abbrev pub HoldsInRuns : List Module → Name → Set → Type 0
HoldsInRuns ms top set = RunsSatisfy (design_from ms top set) (meaning_of set) set

-- so it does, and any two constrained traces with the same inputs that satisfy the set, finite or infinite, have the same domains and the same
-- outputs within them at every cycle; each constrained run from reset is a walk along the operations, and two such traces have the same path
pub record SignsOff (ms : List Module) (top : Name) (set : Set) : Type 0 where
  pub runs : HoldsInRuns ms top set
  pub complete : IsComplete (meaning_of set) set
  pub forever : IsCompleteForever (meaning_of set) set
  pub walks : RunsWalk (design_from ms top set) (meaning_of set) set
  pub paths : HaveSamePaths (meaning_of set) set

abbrev pub CleanDesignLinesHold : Type 0
CleanDesignLinesHold =
    (ms : List Module) (top : Name) (set : Set) → IsSound (meaning_of set) set → AllValid (design_from ms top set) (meaning_of set) set (design_lines set) → HoldsInRuns ms top set

abbrev pub CleanReportsSignOff : Type 0
CleanReportsSignOff =
    (ms : List Module) (top : Name) (set : Set) → IsSound (meaning_of set) set → IsSignedOff (design_from ms top set) (meaning_of set) set → SignsOff ms top set
