-- The laws on the segments that values name, and on what can be met.
use Rattle.std.specs.Prelude.{◌≡◌, ℕ, ◌↔◌, List, true}
use Rattle.vlog_tree.specs.declared.module.Module.{Module}
use Rattle.vlog_tree_runs.specs.declared.flat.Flat.{Flat}
use Rattle.vlog_tree_runs.specs.Places.{Name}
use Rattle.elab_flat_laws.specs.Flattened.{KeepsRuns}
use Rattle.set_tree.specs.declared.set.Set.{Set}
use Rattle.set_tree.specs.Meaning.{Meaning}
use Rattle.elab_step_design.specs.SetDesigns.{design_from}
use Rattle.word_dag.specs.declared.node.Node.{Node}
use Rattle.word_dag.specs.Nodes.{Naming}
use Rattle.elab_step_design.specs.Designs.{HasRunsOf, Parts}
use Rattle.elab_step_design.specs.Laws.{word_design}
use Rattle.twin_tests_laws.specs.Lines.{IsTestOf, RootIs1}
use Rattle.meet_lines.specs.declared.line.MeetLine.{MeetLine}
use Rattle.meet_lines.specs.Lines.{IsMet, IsOf, Meets}
use Rattle.meet_lines.specs.Tests.{meet_test}

-- the test holds exactly at values whose segment meets the line
abbrev pub TestIsExact : Parts → Meaning → Set → MeetLine → Type 0
TestIsExact d m set line = (e : Naming) → (meet_test d m set line e ≡ true) ↔ Meets d m set line e

-- a root that is the line's test at all values is of the line
abbrev pub TestsAreOfLines : Parts → Meaning → Set → MeetLine → Type 0
TestsAreOfLines d m set line = (nodes : List Node) (root : ℕ) → IsTestOf (meet_test d m set line) nodes root → IsOf d m set line nodes root

-- where a line is met, some values name a segment that meets it
abbrev pub MetLinesHaveValues : Parts → Meaning → Set → Type 0
MetLinesHaveValues d m set = (line : MeetLine) → IsMet (word_design d set) m set line → (e : Naming) × Meets d m set line e

-- and where the segment that values name meets it, the line is met
abbrev pub ValuesMeetLines : Parts → Meaning → Set → Type 0
ValuesMeetLines d m set = (line : MeetLine) (e : Naming) → Meets d m set line e → IsMet (word_design d set) m set line

-- a line is met exactly where the root of its obligation can be 1
abbrev pub ObligationsDecide : Parts → Meaning → Set → Type 0
ObligationsDecide d m set =
    (line : MeetLine) (nodes : List Node) (root : ℕ) → IsOf d m set line nodes root → IsMet (word_design d set) m set line ↔ ((e : Naming) × RootIs1 nodes root e)

-- a line is met in a design of words exactly where it is in the modules whose runs the design has
abbrev pub MetLinesAreTheModules : Type 0
MetLinesAreTheModules =
    (ms : List Module) (top : Name) (f : Flat) (d : Parts) (m : Meaning) (set : Set) → KeepsRuns ms top f → HasRunsOf f d →
    (line : MeetLine) → IsMet (word_design d set) m set line ↔ IsMet (design_from ms top set) m set line
