-- What an obligation of a design's line is.
use Rattle.std.specs.Prelude.{◌≡◌, ℕ, ◌↔◌, ◌++◌, List, slice_get, Some}
use Rattle.set_tree.specs.declared.set.Rule.{Rule}
use Rattle.set_tree.specs.declared.set.Set.{Set}
use Rattle.set_tree.specs.declared.line.Line.{Line}
use Rattle.set_tree.specs.declared.line.Line.TheVariants.{Base, Step, Reset, Operation, End, Split, SameEnd, Choose, Hand, Determine}
use Rattle.set_tree.specs.Meaning.{Meaning}
use Rattle.set_tree.specs.Runs.{ViolatesBase, ViolatesStep, ViolatesReset, ViolatesOperation}
use Rattle.word_dag.specs.declared.node.Node.{Node}
use Rattle.word_dag.specs.Nodes.{Naming}
use Rattle.twin_tests_laws.specs.Lines.{RootIs1}
use Rattle.elab_step_design.specs.Designs.{Parts}
use Rattle.elab_step_design.specs.Laws.{DesignCycle, word_design}
use Rattle.unroll_laws.specs.Segments.{IsNamedBy}

-- The segment that the values name violates the line: for `base` and `reset` a reset segment, whose reset cycles stand before cycle 0. The
-- lines on the set speak of windows, not of segments.
abbrev pub Violates : Parts → Meaning → Set → Line → Naming → Type 0
Violates d m set (Base i) e =
    (rule : Rule) × (resets : List (DesignCycle d)) × (cycles : List (DesignCycle d)) × (slice_get set.invariants i ≡ Some rule) × IsNamedBy d set set.cycles e (resets ++ cycles) × ViolatesBase (word_design d set) m set rule resets cycles
Violates d m set (Step i) e =
    (rule : Rule) × (cycles : List (DesignCycle d)) × (slice_get set.invariants i ≡ Some rule) × IsNamedBy d set 0 e cycles × ViolatesStep (word_design d set) m set rule cycles
Violates d m set Reset e =
    (resets : List (DesignCycle d)) × (cycles : List (DesignCycle d)) × IsNamedBy d set set.cycles e (resets ++ cycles) × ViolatesReset (word_design d set) m set resets cycles
Violates d m set (Operation p) e =
    (cycles : List (DesignCycle d)) × IsNamedBy d set 0 e cycles × ViolatesOperation (word_design d set) m set p cycles
Violates d m set (End p) e = ⊥
Violates d m set (Split p) e = ⊥
Violates d m set (SameEnd p) e = ⊥
Violates d m set (Choose p q) e = ⊥
Violates d m set (Hand p q) e = ⊥
Violates d m set (Determine p) e = ⊥

-- nodes with a root are an obligation of the line: the root is 1 exactly at values whose segment violates the line, whatever the other words are
abbrev pub IsOf : Parts → Meaning → Set → Line → List Node → ℕ → Type 0
IsOf d m set line nodes root = (e : Naming) → RootIs1 nodes root e ↔ Violates d m set line e
