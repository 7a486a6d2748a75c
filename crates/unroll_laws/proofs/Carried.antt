-- Cycles of a design that are carried into another one's, keeping what follows, reset and rows, carry violations.
use Rattle.std.proofs.Common.{◌≡◌, ℕ, suc, Bool, true, false, List, [], ◌∷◌, ◌++◌, length, drop, map, sym, ap, ◌∙◌, refl, subst}
use Rattle.std.specs.List.{All}
use Rattle.std.proofs.lemmas.List.Elements.{All-map, All-weaker}
use Rattle.vlog_tree.specs.declared.module.Module.{Module}
use Rattle.vlog_tree_runs.specs.declared.flat.Flat.{Flat}
use Rattle.vlog_tree_runs.specs.Places.{Name}
use Rattle.elab_flat_laws.specs.Flattened.{KeepsRuns}
use Rattle.set_tree.specs.declared.line.Line.{Line}
use Rattle.set_tree.specs.declared.line.Line.TheVariants.{Base, Step, Reset, Operation, End, Split, SameEnd, Choose, Hand, Determine}
use Rattle.set_tree.specs.declared.set.Set.{Set}
use Rattle.set_tree.specs.Meaning.{Meaning, holds}
use Rattle.set_tree.specs.Parts.{window_of, assumed, committed}
use Rattle.set_tree.specs.Lines.{IsWindow}
use Rattle.set_tree.specs.Report.{IsViolated}
use Rattle.set_tree.specs.Runs.{Design, GoesOnTo, IsRun, trace_of, IsRunFromReset, MeetsInvariants, IsSegment, IsResetSegment}
use Rattle.elab_step_design.specs.SetDesigns.{CycleFrom, design_from}
use Rattle.elab_step_design.specs.Designs.{HasRunsOf, Parts}
use Rattle.elab_step_design.specs.Laws.{DesignCycle, word_design}
use Rattle.unroll_laws.specs.Promises.{LinesAreTheModules}

module _ {A B : Type 0} (d : Design A) (e : Design B) (to : A → B) (follows : (a b : A) → d.follows a b → e.follows (to a) (to b))
    (resets : (a : A) → e.is_reset (to a) ≡ d.is_reset a) (rows : (a : A) → e.row (to a) ≡ d.row a) where
  goes_on : (a : A) (cs : List A) → GoesOnTo d a cs → GoesOnTo e (to a) (map to cs)
  goes_on a [] h = tt
  goes_on a (b ∷ cs) h = follows a b h

  run : (cs : List A) → IsRun d cs → IsRun e (map to cs)
  run [] h = tt
  run (a ∷ cs) h = (goes_on a cs h.0, run cs h.1)

  pub trace : (cs : List A) → trace_of e (map to cs) ≡ trace_of d cs
  trace [] = refl
  trace (a ∷ cs) = λ r. rows a r ∷ trace cs r

  levels : (t : Bool) (cs : List A) → All (λ c. d.is_reset c ≡ t) cs → All (λ c. e.is_reset c ≡ t) (map to cs)
  levels t cs h = All-map (λ c. e.is_reset c ≡ t) to cs (All-weaker (λ c. d.is_reset c ≡ t) (λ c. e.is_reset (to c) ≡ t) (λ a k. resets a ∙ k) cs h)

  pub map_append : (xs ys : List A) → map to (xs ++ ys) ≡ map to xs ++ map to ys
  map_append [] ys = refl
  map_append (x ∷ xs) ys = ap (λ zs. to x ∷ zs) (map_append xs ys)

  pub size : (cs : List A) → length (map to cs) ≡ length cs
  size [] = refl
  size (a ∷ cs) = ap (λ n. suc n) (size cs)

  pub segment : (m : Meaning) (set : Set) (end : ℕ) (cs : List A) → IsSegment d m set end cs → IsSegment e m set end (map to cs)
  segment m set end cs h = record {
    run = run cs h.run;
    inactive = levels false cs h.inactive;
    window = subst (λ zs. IsWindow m set end zs) (sym (trace cs)) h.window;
    invariants = subst (λ zs. MeetsInvariants m set zs) (sym (trace cs)) h.invariants;
  }

  pub from_reset : (set : Set) (rs cs : List A) → IsRunFromReset d set rs cs → IsRunFromReset e set (map to rs) (map to cs)
  from_reset set rs cs h = record {
    run = subst (λ zs. IsRun e zs) (map_append rs cs) (run (rs ++ cs) h.run);
    count = size rs ∙ h.count;
    active = levels true rs h.active;
    inactive = levels false cs h.inactive;
  }

  pub reset_segment : (m : Meaning) (set : Set) (end : ℕ) (rs cs : List A) → IsResetSegment d m set end rs cs → IsResetSegment e m set end (map to rs) (map to cs)
  reset_segment m set end rs cs h = record {
    from_reset = from_reset set rs cs h.from_reset;
    window = subst (λ zs. IsWindow m set end zs) (sym (trace cs)) h.window;
  }

  pub carried : (m : Meaning) (set : Set) (line : Line) → IsViolated d m set line → IsViolated e m set line
  carried m set (Base i) (rule, rs, cs, there, h) =
      (rule, map to rs, map to cs, there, record { segment = reset_segment m set 0 rs cs h.segment; broken = ap (λ zs. holds m rule.formula zs) (trace cs) ∙ h.broken })
  carried m set (Step i) (rule, cs, there, h) =
      (rule, map to cs, there, record { segment = segment m set 1 cs h.segment; broken = ap (λ zs. holds m rule.formula (drop 1 zs)) (trace cs) ∙ h.broken })
  carried m set Reset (rs, cs, h) =
      (map to rs, map to cs, record { segment = reset_segment m set (window_of set 0) rs cs h.segment; broken = ap (λ zs. committed m set 0 zs) (trace cs) ∙ h.broken })
  carried m set (Operation p) (cs, h) = (
    map to cs,
    record {
      segment = segment m set (window_of set p) cs h.segment;
      assumes = ap (λ zs. assumed m set p zs) (trace cs) ∙ h.assumes;
      broken = ap (λ zs. committed m set p zs) (trace cs) ∙ h.broken;
    },
  )
  carried m set (End p) h = h
  carried m set (Split p) h = h
  carried m set (SameEnd p) h = h
  carried m set (Choose p q) h = h
  carried m set (Hand p q) h = h
  carried m set (Determine p) h = h

-- ---- a design of words, and the modules

abbrev pub to_modules : (ms : List Module) (top : Name) (f : Flat) (d : Parts) → KeepsRuns ms top f → HasRunsOf f d → DesignCycle d → CycleFrom ms top
to_modules ms top f d k h c = (c.0, (k.cycle c.0).0 ((h.cycle c.0).1 c.1))

abbrev to_design : (ms : List Module) (top : Name) (f : Flat) (d : Parts) → KeepsRuns ms top f → HasRunsOf f d → CycleFrom ms top → DesignCycle d
to_design ms top f d k h c = (c.0, (h.cycle c.0).0 ((k.cycle c.0).1 c.1))

pub steps_to_modules : (ms : List Module) (top : Name) (f : Flat) (d : Parts) (set : Set) (k : KeepsRuns ms top f) (h : HasRunsOf f d) → (a b : DesignCycle d) → (word_design d set).follows a b
    → (design_from ms top set).follows (to_modules ms top f d k h a) (to_modules ms top f d k h b)
steps_to_modules ms top f d set k h a b step = (k.follows a.0 b.0).0 ((h.follows a.0 b.0 ((h.cycle a.0).1 a.1) ((h.cycle b.0).1 b.1)).1 step)

pub lines_are_the_modules : LinesAreTheModules
lines_are_the_modules ms top f d m set k h line = (
  carried (word_design d set) (design_from ms top set) (to_modules ms top f d k h)
      (steps_to_modules ms top f d set k h) (λ a. refl) (λ a. refl) m set line,
  carried (design_from ms top set) (word_design d set) (to_design ms top f d k h)
      (λ a b step. (h.follows a.0 b.0 ((k.cycle a.0).1 a.1) ((k.cycle b.0).1 b.1)).0 ((k.follows a.0 b.0).1 step)) (λ a. refl) (λ a. refl) m set line,
)
