-- What decided lines say of modules.
use Rattle.std.specs.Prelude.{◌≡◌, ◌↔◌, ℕ, true, List}
use Rattle.std.specs.List.{AllZip}
use Rattle.vlog_tree.specs.declared.module.Module.{Module}
use Rattle.vlog_tree_runs.specs.declared.flat.Flat.{Flat}
use Rattle.elab_flat_laws.specs.Flattened.{KeepsRuns}
use Rattle.set_tree.specs.declared.line.Line.{Line}
use Rattle.set_tree.specs.declared.set.Set.{Set}
use Rattle.set_tree.specs.Formulas.{meaning_of}
use Rattle.set_tree.specs.Structure.{IsSound}
use Rattle.elab_step_design.specs.Designs.{HasRunsOf}
use Rattle.word_dag.specs.declared.ob.Named.{Named}
use Rattle.word_dag.specs.Nodes.{Naming}
use Rattle.twin_tests_laws.specs.Lines.{RootIs1}
use Rattle.unroll_binding.specs.Binding.{Pair}
use Rattle.unroll_laws.specs.Promises.{HoldsInRuns, SignsOff}
use Rattle.desk_core_reports.specs.declared.book.Line.{Line as Told}
use Rattle.desk_core_commands.specs.declared.which.Which.{Which}
use Rattle.desk_core_reports.specs.Reports.{is_complete}
use Rattle.desk_core_goals.specs.Decided.{AreAsked, IsDecidedOn, IsLineOf, ProvesDesignLines}
use Rattle.desk_core_goals.specs.Obligations.{IsObOf}

-- modules are from their top a module without instances whose runs the design has: the verdicts are right of the modules
abbrev pub DecidedOfModules : Type 0
DecidedOfModules =
    (budget : ℕ) (ms : List Module) (f : Flat) (b : Pair) → KeepsRuns ms b.set.block f → HasRunsOf f b.design →
    (lines : List Line) (ds : List Told) → AllZip (IsDecidedOn budget b) lines ds → AllZip (IsLineOf budget ms b) lines ds

-- Where each line on the design is among the lines that were asked for and is proved, every constrained run of the modules from reset satisfies the
-- set. Where all lines were asked for, and are proved, the set is complete too
pub record Promises (ms : List Module) (set : Set) (which : Which) (lines : List Line) (ds : List Told) : Type 0 where
  pub satisfied : ProvesDesignLines set lines ds → HoldsInRuns ms set.block set
  pub signed_off : is_complete which ds ≡ true → SignsOff ms set.block set

abbrev pub ProvedLinesPromise : Type 0
ProvedLinesPromise =
    (budget : ℕ) (ms : List Module) (b : Pair) → IsSound (meaning_of b.set) b.set →
    (which : Which) (lines : List Line) (ds : List Told) → AreAsked which b.set lines → AllZip (IsLineOf budget ms b) lines ds → Promises ms b.set which lines ds

-- values of its free words make its root 1
abbrev pub CanBe1 : Named → Type 0
CanBe1 x = (e : Naming) × RootIs1 x.ob.nodes x.ob.root e

-- of two obligations of one line both can be 1, or none
abbrev pub ObligationsAgree : Type 0
ObligationsAgree = (b : Pair) (line : Line) (x y : Named) → IsObOf b line x → IsObOf b line y → CanBe1 x ↔ CanBe1 y
