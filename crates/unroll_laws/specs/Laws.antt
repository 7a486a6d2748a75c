-- The laws on the segments that values name.
use Rattle.std.specs.Prelude.{◌≡◌, ℕ, ◌↔◌, ◌++◌, ◌+◌, List, true, false, length}
use Rattle.std.specs.List.{All}
use Rattle.set_tree.specs.declared.set.Set.{Set}
use Rattle.set_tree.specs.declared.line.Line.{Line}
use Rattle.set_tree.specs.declared.line.Line.TheVariants.{Base, Step, Reset, Operation, End, Split, SameEnd, Choose, Hand, Determine}
use Rattle.set_tree.specs.Meaning.{Meaning}
use Rattle.set_tree.specs.Report.{IsViolated}
use Rattle.set_tree.specs.Runs.{IsRun, trace_of}
use Rattle.set_tree.specs.Traces.{IsTrace}
use Rattle.word_dag.specs.declared.node.Node.{Node}
use Rattle.word_dag.specs.Nodes.{Naming}
use Rattle.twin_tests_laws.specs.Lines.{IsTestOf}
use Rattle.elab_step_design.specs.Designs.{Parts}
use Rattle.elab_step_design.specs.Laws.{DesignCycle, word_design}
use Rattle.unroll_laws.specs.Segments.{IsNamedBy}
use Rattle.unroll_laws.specs.Lines.{Violates, IsOf}
use Rattle.unroll_laws.specs.Tests.{segment_rows, line_test}

-- a run with reset active in its first k cycles and inactive from cycle 0 on, which the values name
pub record IsNamedRun (d : Parts) (set : Set) (k : ℕ) (e : Naming) (resets cycles : List (DesignCycle d)) : Type 0 where
  pub run : IsRun (word_design d set) (resets ++ cycles)
  pub count : length resets ≡ k
  pub active : All (λ c. (word_design d set).is_reset c ≡ true) resets
  pub inactive : All (λ c. (word_design d set).is_reset c ≡ false) cycles
  pub named : IsNamedBy d set k e (resets ++ cycles)

-- the rows that values name are the trace of such a run from cycle 0 on, and of each other such run of this length
pub record RowsAreOfRuns (d : Parts) (set : Set) : Type 0 where
  pub some : (k : ℕ) (e : Naming) (end : ℕ) → (resets : List (DesignCycle d)) × (cycles : List (DesignCycle d)) × IsNamedRun d set k e resets cycles × (trace_of (word_design d set) cycles ≡ segment_rows d set k e end)
  pub only : (k : ℕ) (e : Naming) (end : ℕ) (resets cycles : List (DesignCycle d)) → IsNamedRun d set k e resets cycles → length cycles ≡ end + 1 → trace_of (word_design d set) cycles ≡ segment_rows d set k e end
  pub trace : (k : ℕ) (e : Naming) (end : ℕ) → IsTrace set (segment_rows d set k e end)

-- the cycles of a design, as many as wanted of them before cycle 0, are named by some values
abbrev pub RunsHaveValues : Parts → Set → Type 0
RunsHaveValues d set = (k : ℕ) (cycles : List (DesignCycle d)) → (e : Naming) × IsNamedBy d set k e cycles

-- the test holds exactly at values whose segment violates the line
abbrev pub TestIsExact : Parts → Meaning → Set → Line → Type 0
TestIsExact d m set line = (e : Naming) → (line_test d m set line e ≡ true) ↔ Violates d m set line e

-- a root that is the line's test at all values is of the line
abbrev pub TestsAreOfLines : Parts → Meaning → Set → Line → Type 0
TestsAreOfLines d m set line = (nodes : List Node) (root : ℕ) → IsTestOf (line_test d m set line) nodes root → IsOf d m set line nodes root

-- lines that speak of a design
abbrev pub IsDesignLine : Line → Type 0
IsDesignLine (Base i) = Unit {0}
IsDesignLine (Step i) = Unit {0}
IsDesignLine Reset = Unit {0}
IsDesignLine (Operation p) = Unit {0}
IsDesignLine (End p) = ⊥
IsDesignLine (Split p) = ⊥
IsDesignLine (SameEnd p) = ⊥
IsDesignLine (Choose p q) = ⊥
IsDesignLine (Hand p q) = ⊥
IsDesignLine (Determine p) = ⊥

-- where a segment violates a line, some values name such a segment
abbrev pub ViolationsHaveValues : Parts → Meaning → Set → Type 0
ViolationsHaveValues d m set = (line : Line) → IsDesignLine line → IsViolated (word_design d set) m set line → (e : Naming) × Violates d m set line e

-- and a segment that values name is among those
abbrev pub ValuesAreViolations : Parts → Meaning → Set → Type 0
ValuesAreViolations d m set = (line : Line) → IsDesignLine line → (e : Naming) → Violates d m set line e → IsViolated (word_design d set) m set line
