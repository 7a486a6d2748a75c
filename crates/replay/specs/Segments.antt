-- The segment that is shown of a refuted line on a design.
use Rattle.std.specs.Prelude.{◌≡◌, ℕ, zero, suc, ◌+◌, ◌%◌, ◌^◌, ◌++◌, List, [], ◌∷◌, None, Some, length, map, slice_get}
use Rattle.set_tree.specs.declared.line.Line.{Line}
use Rattle.set_tree.specs.declared.line.Line.TheVariants.{Base, Step, Reset, Operation, End, Split, SameEnd, Choose, Hand, Determine}
use Rattle.set_tree.specs.declared.set.Rule.{Rule}
use Rattle.set_tree.specs.declared.set.Set.{Set}
use Rattle.set_tree.specs.Meaning.{Meaning}
use Rattle.set_tree.specs.Parts.{window_of}
use Rattle.set_tree.specs.Runs.{Design, ViolatesBase, ViolatesStep, ViolatesReset, ViolatesOperation, trace_of}
use Rattle.vlog_tree_runs.specs.Places.{Cycle, Name}
use Rattle.word_core.specs.Words.{Bits}
use Rattle.word_dag.specs.Nodes.{Naming, dag_values}
use Rattle.elab_step_design.specs.declared.design.Register.{Register}
use Rattle.elab_step_design.specs.Designs.{IsDesign, Parts, naming_of}
use Rattle.elab_step_design.specs.Laws.{DesignCycle, word_design}
use Rattle.unroll_laws.specs.Segments.{IsNamedBy, cycle_number}
use Rattle.unroll_laws.specs.Tests.{held, rows_from}
use Rattle.replay.specs.declared.shown.Shown.{Shown}
use Rattle.replay.specs.declared.shown.Start.{Start}
use Rattle.replay.specs.Windows.{declared_names}

-- ---- what is shown

-- reset cycles, where the line has them, and the cycles from cycle 0 on violate the line
abbrev pub AreViolatingCycles : {C : Type 0} → Design C → Meaning → Set → Line → List C → List C → Type 0
AreViolatingCycles d m set (Base i) resets cycles = (rule : Rule) × (slice_get set.invariants i ≡ Some rule) × ViolatesBase d m set rule resets cycles
AreViolatingCycles d m set (Step i) resets cycles = (resets ≡ []) × (rule : Rule) × (slice_get set.invariants i ≡ Some rule) × ViolatesStep d m set rule cycles
AreViolatingCycles d m set Reset resets cycles = ViolatesReset d m set resets cycles
AreViolatingCycles d m set (Operation p) resets cycles = (resets ≡ []) × ViolatesOperation d m set p cycles
AreViolatingCycles d m set (End p) resets cycles = ⊥
AreViolatingCycles d m set (Split p) resets cycles = ⊥
AreViolatingCycles d m set (SameEnd p) resets cycles = ⊥
AreViolatingCycles d m set (Choose p q) resets cycles = ⊥
AreViolatingCycles d m set (Hand p q) resets cycles = ⊥
AreViolatingCycles d m set (Determine p) resets cycles = ⊥

abbrev pub started : Name → ℕ → Start
started x u = record { name = x; value = u }

-- the registers' values in the first of some cycles
abbrev pub first_values : {P : Cycle → Type 0} → Parts → List ((c : Cycle) × P c) → List Start
first_values d [] = []
first_values d (c ∷ cycles) = map (λ (r : Register). started r.name (c.0 r.name)) d.registers

-- What is shown of a line on a design: a segment that violates it, which the values name.
pub record ShowsSegment (d : Parts) (m : Meaning) (set : Set) (line : Line) (e : Naming) (shown : Shown) : Type 0 where
  pub resets : List (DesignCycle d)
  pub cycles : List (DesignCycle d)
  pub violating : AreViolatingCycles (word_design d set) m set line resets cycles
  pub named : IsNamedBy d set (length resets) e (resets ++ cycles)
  pub start : shown.start ≡ first_values d (resets ++ cycles)
  pub before : shown.before ≡ length resets
  pub names : shown.first.names ≡ declared_names set
  pub rows : shown.first.rows ≡ trace_of (word_design d set) (resets ++ cycles)
  pub second : shown.second ≡ None

-- ---- how it is made

-- how many reset cycles stand before the cycles of a line, and the number of its last cycle
abbrev pub resets_of : Set → Line → ℕ
resets_of set (Base i) = set.cycles
resets_of set (Step i) = 0
resets_of set Reset = set.cycles
resets_of set (Operation p) = 0
resets_of set (End p) = 0
resets_of set (Split p) = 0
resets_of set (SameEnd p) = 0
resets_of set (Choose p q) = 0
resets_of set (Hand p q) = 0
resets_of set (Determine p) = 0

abbrev pub last_cycle : Set → Line → ℕ
last_cycle set (Base i) = 0
last_cycle set (Step i) = 1
last_cycle set Reset = window_of set 0
last_cycle set (Operation p) = window_of set p
last_cycle set (End p) = 0
last_cycle set (Split p) = 0
last_cycle set (SameEnd p) = 0
last_cycle set (Choose p q) = 0
last_cycle set (Hand p q) = 0
last_cycle set (Determine p) = 0

abbrev pub register_name : Register → Name
register_name r = r.name

abbrev pub register_next : Register → ℕ
register_next r = r.next

-- the first value that is named of a register, where k cycles stand before cycle 0
abbrev pub named_start : Naming → ℕ → Register → Start
named_start e k r = started r.name (e r.name 0 (cycle_number k 0) % 2 ^ r.width)

-- what is shown of the segment that values name: so many reset cycles, and those from cycle 0 on up to this one
pub record ShowsNamed (d : Parts) (set : Set) (e : Naming) (k end : ℕ) (shown : Shown) : Type 0 where
  pub start : shown.start ≡ map (named_start e k) d.registers
  pub before : shown.before ≡ k
  pub names : shown.first.names ≡ declared_names set
  pub rows : shown.first.rows ≡ rows_from d set k e 0 (k + end + 1)
  pub second : shown.second ≡ None

-- the words of all nodes of a design at a position of the segment that each of these values names
pub record AreWordsAt (d : Parts) (set : Set) (k i : ℕ) (gives : Naming → Type 0) (words : List Bits) : Type 0 where
  pub design : IsDesign d
  pub count : length words ≡ length d.nodes
  pub named : (e : Naming) → gives e → words ≡ dag_values (naming_of (held d set k e i)) [] d.nodes

-- those of the cycle before, where there is one
abbrev pub AreWordsBefore : Parts → Set → ℕ → ℕ → (Naming → Type 0) → List Bits → Type 0
AreWordsBefore d set k zero gives words = Unit {0}
AreWordsBefore d set k (suc i) gives words = AreWordsAt d set k i gives words
