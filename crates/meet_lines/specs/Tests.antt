-- Each line as a test of the values that name a segment, in the order in which its circuit is built.
use Rattle.std.specs.Prelude.{ℕ, Bool, ◌&&◌, List}
use Rattle.set_tree.specs.declared.set.Set.{Set}
use Rattle.set_tree.specs.Meaning.{Row, Meaning}
use Rattle.set_tree.specs.Parts.{assumed, largest_window, window_of}
use Rattle.word_dag.specs.Nodes.{Naming}
use Rattle.elab_step_design.specs.Designs.{Parts}
use Rattle.twin_tests_laws.specs.Tests.{meets_constraints}
use Rattle.unroll_laws.specs.Tests.{meets_invariants, segment_rows}
use Rattle.meet_lines.specs.declared.line.MeetLine.{MeetLine}
use Rattle.meet_lines.specs.declared.line.MeetLine.TheVariants.{Reset, Operation}

-- the constraints that fit hold, the invariants in the first row, and the operation is assumed there
abbrev pub meets_operation : Meaning → Set → ℕ → List Row → Bool
meets_operation m set p rows = meets_constraints m set rows && meets_invariants m set rows && assumed m set p rows

-- whether the segment that the values name meets the line
abbrev pub meet_test : Parts → Meaning → Set → MeetLine → Naming → Bool
meet_test d m set Reset e = meets_constraints m set (segment_rows d set set.cycles e (largest_window set))
meet_test d m set (Operation p) e = meets_operation m set p (segment_rows d set 0 e (window_of set p))
