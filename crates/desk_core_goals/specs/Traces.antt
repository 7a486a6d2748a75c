-- What is shown of decided lines.
use Rattle.std.specs.Prelude.{◌≡◌, ◌++◌, Bool, true, false, List, length, Option, Some, None}
use Rattle.vlog_tree.specs.declared.module.Module.{Module}
use Rattle.set_tree.specs.declared.line.Line.{Line}
use Rattle.set_tree.specs.declared.line.Line.TheVariants.{Base, Step, Reset, Operation, End, Split, SameEnd, Choose, Hand, Determine}
use Rattle.set_tree.specs.Formulas.{meaning_of}
use Rattle.set_tree.specs.Runs.{trace_of}
use Rattle.elab_step_design.specs.SetDesigns.{CycleFrom, design_from}
use Rattle.word_dag.specs.Nodes.{Naming, Parts}
use Rattle.word_dag.specs.Names.{naming_from}
use Rattle.unroll_binding.specs.Binding.{Pair}
use Rattle.replay.specs.declared.shown.Shown.{Shown}
use Rattle.replay.specs.Segments.{AreViolatingCycles, ShowsSegment, first_values}
use Rattle.replay.specs.Windows.{ShowsNamedWindows, ShowsWindows, declared_names}
use Rattle.job_pool.specs.declared.evidence.Evidence.{Evidence}
use Rattle.job_pool.specs.declared.evidence.Evidence.TheVariants as e

abbrev pub is_on_design : Line → Bool
is_on_design (Base i) = true
is_on_design (Step i) = true
is_on_design Reset = true
is_on_design (Operation p) = true
is_on_design (End p) = false
is_on_design (Split p) = false
is_on_design (SameEnd p) = false
is_on_design (Choose p q) = false
is_on_design (Hand p q) = false
is_on_design (Determine p) = false

-- a segment, or windows, which the values name and which violate the line
abbrev pub ShowsLine : Pair → Line → Naming → Shown → Type 0
ShowsLine b (Base i) values shown = ShowsSegment b.design (meaning_of b.set) b.set (Base i) values shown
ShowsLine b (Step i) values shown = ShowsSegment b.design (meaning_of b.set) b.set (Step i) values shown
ShowsLine b Reset values shown = ShowsSegment b.design (meaning_of b.set) b.set Reset values shown
ShowsLine b (Operation p) values shown = ShowsSegment b.design (meaning_of b.set) b.set (Operation p) values shown
ShowsLine b (End p) values shown = ShowsWindows b.set (End p) shown × ShowsNamedWindows b.set (End p) values shown
ShowsLine b (Split p) values shown = ShowsWindows b.set (Split p) shown × ShowsNamedWindows b.set (Split p) values shown
ShowsLine b (SameEnd p) values shown = ShowsWindows b.set (SameEnd p) shown × ShowsNamedWindows b.set (SameEnd p) values shown
ShowsLine b (Choose p q) values shown = ShowsWindows b.set (Choose p q) shown × ShowsNamedWindows b.set (Choose p q) values shown
ShowsLine b (Hand p q) values shown = ShowsWindows b.set (Hand p q) shown × ShowsNamedWindows b.set (Hand p q) values shown
ShowsLine b (Determine p) values shown = ShowsWindows b.set (Determine p) shown × ShowsNamedWindows b.set (Determine p) values shown

-- a counterexample where values refute the line, and none otherwise
abbrev pub IsTraceOf : Pair → Line → Parts → Evidence → Option Shown → Type 0
IsTraceOf b line ob (e.Derivation steps) o = o ≡ None
IsTraceOf b line ob (e.Values us) None = ⊥
IsTraceOf b line ob (e.Values us) (Some shown) = ShowsLine b line (naming_from ob.nodes us.items) shown
IsTraceOf b line ob (e.Chain steps) o = o ≡ None

-- What is shown is a segment of modules that violates the line: the values of the registers in its first cycle, and its rows
pub record ShowsModules (ms : List Module) (b : Pair) (line : Line) (shown : Shown) : Type 0 where
  pub resets : List (CycleFrom ms b.set.block)
  pub cycles : List (CycleFrom ms b.set.block)
  pub violating : AreViolatingCycles (design_from ms b.set.block b.set) (meaning_of b.set) b.set line resets cycles
  pub start : shown.start ≡ first_values b.design (resets ++ cycles)
  pub before : shown.before ≡ length resets
  pub names : shown.first.names ≡ declared_names b.set
  pub rows : shown.first.rows ≡ trace_of (design_from ms b.set.block b.set) (resets ++ cycles)
  pub second : shown.second ≡ None
