-- Cycles of a design that are carried into another one's, keeping what follows, reset and rows, carry what is met.
use Rattle.std.proofs.Common.{◌≡◌, List, map, ap, ◌∙◌, refl}
use Rattle.vlog_tree.specs.declared.module.Module.{Module}
use Rattle.vlog_tree_runs.specs.declared.flat.Flat.{Flat}
use Rattle.vlog_tree_runs.specs.Places.{Name}
use Rattle.elab_flat_laws.specs.Flattened.{KeepsRuns}
use Rattle.set_tree.specs.declared.set.Set.{Set}
use Rattle.set_tree.specs.Meaning.{Meaning}
use Rattle.set_tree.specs.Parts.{assumed, largest_window, window_of}
use Rattle.set_tree.specs.Runs.{Design}
use Rattle.elab_step_design.specs.SetDesigns.{CycleFrom, design_from}
use Rattle.elab_step_design.specs.Designs.{HasRunsOf, Parts}
use Rattle.elab_step_design.specs.Laws.{DesignCycle, word_design}
use Rattle.unroll_laws.proofs.Carried.{reset_segment, segment, steps_to_modules, to_modules, trace}
use Rattle.meet_lines.specs.declared.line.MeetLine.{MeetLine}
use Rattle.meet_lines.specs.declared.line.MeetLine.TheVariants.{Reset, Operation}
use Rattle.meet_lines.specs.Laws.{MetLinesAreTheModules}
use Rattle.meet_lines.specs.Lines.{AreMeetingCycles, IsMet}

carried : {A B : Type 0} (d : Design A) (e : Design B) (to : A → B) → ((a b : A) → d.follows a b → e.follows (to a) (to b)) → ((a : A) → e.is_reset (to a) ≡ d.is_reset a) → ((a : A) → e.row (to a) ≡ d.row a) →
    (m : Meaning) (set : Set) (line : MeetLine) → IsMet d m set line → IsMet e m set line
carried d e to follows resets rows m set Reset (rs, cs, h) = (map to rs, map to cs, reset_segment d e to follows resets rows m set (largest_window set) rs cs h)
carried d e to follows resets rows m set (Operation p) (cs, h, assumes) =
    (map to cs, segment d e to follows resets rows m set (window_of set p) cs h, ap (λ zs. assumed m set p zs) (trace d e to follows resets rows cs) ∙ assumes)

-- carried cycles meet the line that they met
pub meeting : {A B : Type 0} (d : Design A) (e : Design B) (to : A → B) → ((a b : A) → d.follows a b → e.follows (to a) (to b)) → ((a : A) → e.is_reset (to a) ≡ d.is_reset a) → ((a : A) → e.row (to a) ≡ d.row a) →
    (m : Meaning) (set : Set) (line : MeetLine) (rs cs : List A) → AreMeetingCycles d m set line rs cs → AreMeetingCycles e m set line (map to rs) (map to cs)
meeting d e to follows resets rows m set Reset rs cs h = reset_segment d e to follows resets rows m set (largest_window set) rs cs h
meeting d e to follows resets rows m set (Operation p) rs cs (none, h, assumes) =
    (ap (map to) none, segment d e to follows resets rows m set (window_of set p) cs h, ap (λ zs. assumed m set p zs) (trace d e to follows resets rows cs) ∙ assumes)

-- ---- a design of words, and the modules

abbrev to_design : (ms : List Module) (top : Name) (f : Flat) (d : Parts) → KeepsRuns ms top f → HasRunsOf f d → CycleFrom ms top → DesignCycle d
to_design ms top f d k h c = (c.0, (h.cycle c.0).0 ((k.cycle c.0).1 c.1))

pub met_lines_are_the_modules : MetLinesAreTheModules
met_lines_are_the_modules ms top f d m set k h line = (
  carried (word_design d set) (design_from ms top set) (to_modules ms top f d k h)
      (steps_to_modules ms top f d set k h) (λ a. refl) (λ a. refl) m set line,
  carried (design_from ms top set) (word_design d set) (to_design ms top f d k h)
      (λ a b step. (h.follows a.0 b.0 ((k.cycle a.0).1 a.1) ((k.cycle b.0).1 b.1)).0 ((k.follows a.0 b.0).1 step)) (λ a. refl) (λ a. refl) m set line,
)
