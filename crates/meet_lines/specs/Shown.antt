-- The segment that is shown of a line that is met.
use Rattle.std.specs.Prelude.{◌≡◌, ℕ, ◌++◌, List, None, length}
use Rattle.set_tree.specs.declared.set.Set.{Set}
use Rattle.set_tree.specs.Meaning.{Meaning}
use Rattle.set_tree.specs.Parts.{largest_window, window_of}
use Rattle.set_tree.specs.Runs.{trace_of}
use Rattle.word_dag.specs.Nodes.{Naming}
use Rattle.elab_step_design.specs.Designs.{Parts}
use Rattle.elab_step_design.specs.Laws.{DesignCycle, word_design}
use Rattle.unroll_laws.specs.Segments.{IsNamedBy}
use Rattle.replay.specs.declared.shown.Shown.{Shown}
use Rattle.replay.specs.Segments.{first_values}
use Rattle.replay.specs.Windows.{declared_names}
use Rattle.meet_lines.specs.declared.line.MeetLine.{MeetLine}
use Rattle.meet_lines.specs.declared.line.MeetLine.TheVariants.{Reset, Operation}
use Rattle.meet_lines.specs.Lines.{AreMeetingCycles}

-- What is shown of a line: a segment that meets it, which the values name.
pub record ShowsMeeting (d : Parts) (m : Meaning) (set : Set) (line : MeetLine) (e : Naming) (shown : Shown) : Type 0 where
  pub resets : List (DesignCycle d)
  pub cycles : List (DesignCycle d)
  pub meeting : AreMeetingCycles (word_design d set) m set line resets cycles
  pub named : IsNamedBy d set (length resets) e (resets ++ cycles)
  pub start : shown.start ≡ first_values d (resets ++ cycles)
  pub before : shown.before ≡ length resets
  pub names : shown.first.names ≡ declared_names set
  pub rows : shown.first.rows ≡ trace_of (word_design d set) (resets ++ cycles)
  pub second : shown.second ≡ None

-- how many reset cycles stand before the cycles of a line, and the number of its last cycle
abbrev pub resets_of : Set → MeetLine → ℕ
resets_of set Reset = set.cycles
resets_of set (Operation p) = 0

abbrev pub last_cycle : Set → MeetLine → ℕ
last_cycle set Reset = largest_window set
last_cycle set (Operation p) = window_of set p
