-- The lines of what can be met, and what meets them.
use Rattle.std.specs.Prelude.{◌≡◌, ℕ, true, ◌↔◌, List, [], ◌∷◌, ◌++◌, length, map}
use Rattle.set_tree.specs.declared.set.Set.{Set}
use Rattle.set_tree.specs.Meaning.{Meaning}
use Rattle.set_tree.specs.Met.{OperationIsMet, ResetIsMet}
use Rattle.set_tree.specs.Parts.{IsPosition, assumed, largest_window, window_of}
use Rattle.set_tree.specs.Report.{numbers_from}
use Rattle.set_tree.specs.Runs.{Design, IsResetSegment, IsSegment, trace_of}
use Rattle.word_dag.specs.declared.node.Node.{Node}
use Rattle.word_dag.specs.Nodes.{Naming}
use Rattle.twin_tests_laws.specs.Lines.{RootIs1}
use Rattle.elab_step_design.specs.Designs.{Parts}
use Rattle.elab_step_design.specs.Laws.{DesignCycle, word_design}
use Rattle.unroll_laws.specs.Segments.{IsNamedBy}
use Rattle.meet_lines.specs.declared.line.MeetLine.{MeetLine}
use Rattle.meet_lines.specs.declared.line.MeetLine.TheVariants.{Reset, Operation}

-- `reset`, and then the operations in the order of the set
abbrev pub meet_lines : Set → List MeetLine
meet_lines set = Reset ∷ map Operation (numbers_from 1 (length set.operations))

-- the operation that the line names is there
abbrev pub SpeaksOf : Set → MeetLine → Type 0
SpeaksOf set Reset = Unit {0}
SpeaksOf set (Operation p) = IsPosition set p

-- some segment meets the line
abbrev pub IsMet : {Cycle : Type 0} → Design Cycle → Meaning → Set → MeetLine → Type 0
IsMet d m set Reset = ResetIsMet d m set
IsMet d m set (Operation p) = OperationIsMet d m set p

-- Reset cycles, where the line has them, and the cycles from cycle 0 on meet the line: for `reset` a reset segment that goes on for the largest
-- window, for an operation a segment of its window that begins where the operation is assumed.
abbrev pub AreMeetingCycles : {Cycle : Type 0} → Design Cycle → Meaning → Set → MeetLine → List Cycle → List Cycle → Type 0
AreMeetingCycles d m set Reset resets cycles = IsResetSegment d m set (largest_window set) resets cycles
AreMeetingCycles d m set (Operation p) resets cycles = (resets ≡ []) × IsSegment d m set (window_of set p) cycles × (assumed m set p (trace_of d cycles) ≡ true)

-- the segment that the values name meets the line
abbrev pub Meets : Parts → Meaning → Set → MeetLine → Naming → Type 0
Meets d m set line e =
    (resets : List (DesignCycle d)) × (cycles : List (DesignCycle d)) × IsNamedBy d set (length resets) e (resets ++ cycles) × AreMeetingCycles (word_design d set) m set line resets cycles

-- nodes with a root are an obligation of the line: the root is 1 exactly at values whose segment meets the line, whatever the other words are
abbrev pub IsOf : Parts → Meaning → Set → MeetLine → List Node → ℕ → Type 0
IsOf d m set line nodes root = (e : Naming) → RootIs1 nodes root e ↔ Meets d m set line e
