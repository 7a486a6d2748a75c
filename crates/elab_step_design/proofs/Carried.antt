-- A design whose cycles are carried into another one's, keeping what follows, reset and rows, violates no line that the other doesn't.
use Rattle.std.proofs.Common.{◌≡◌, ℕ, suc, Bool, true, false, List, [], ◌∷◌, ◌++◌, length, drop, map, sym, ap, ◌∙◌, refl, subst}
use Rattle.std.specs.List.{All}
use Rattle.std.proofs.lemmas.List.Elements.{All-map, All-weaker}
use Rattle.vlog_tree.specs.declared.module.Module.{Module}
use Rattle.vlog_tree_runs.specs.declared.flat.Flat.{Flat}
use Rattle.vlog_tree_runs.specs.Places.{Name}
use Rattle.elab_flat_laws.specs.Flattened.{KeepsRuns}
use Rattle.set_tree.specs.declared.set.Set.{Set}
use Rattle.set_tree.specs.Meaning.{Meaning, holds}
use Rattle.set_tree.specs.Parts.{window_of, assumed, committed}
use Rattle.set_tree.specs.Lines.{IsWindow}
use Rattle.set_tree.specs.Runs.{Design, GoesOnTo, IsRun, trace_of, IsRunFromReset, MeetsInvariants, IsSegment, IsResetSegment, AreDesignLinesValid, RunsSatisfy}
use Rattle.set_tree.specs.Traces.{IsConstrained, Satisfies}
use Rattle.elab_step_design.specs.SetDesigns.{CycleFrom, FlatCycle, design_from, flat_design}

module _ {A B : Type 0} (d : Design A) (e : Design B) (to : A → B) (follows : (a b : A) → d.follows a b → e.follows (to a) (to b))
    (resets : (a : A) → e.is_reset (to a) ≡ d.is_reset a) (rows : (a : A) → e.row (to a) ≡ d.row a) where
  goes_on : (a : A) (cs : List A) → GoesOnTo d a cs → GoesOnTo e (to a) (map to cs)
  goes_on a [] h = tt
  goes_on a (b ∷ cs) h = follows a b h

  run : (cs : List A) → IsRun d cs → IsRun e (map to cs)
  run [] h = tt
  run (a ∷ cs) h = (goes_on a cs h.0, run cs h.1)

  trace : (cs : List A) → trace_of e (map to cs) ≡ trace_of d cs
  trace [] = refl
  trace (a ∷ cs) = λ r. rows a r ∷ trace cs r

  levels : (t : Bool) (cs : List A) → All (λ c. d.is_reset c ≡ t) cs → All (λ c. e.is_reset c ≡ t) (map to cs)
  levels t cs h = All-map (λ c. e.is_reset c ≡ t) to cs (All-weaker (λ c. d.is_reset c ≡ t) (λ c. e.is_reset (to c) ≡ t) (λ a k. resets a ∙ k) cs h)

  map_append : (xs ys : List A) → map to (xs ++ ys) ≡ map to xs ++ map to ys
  map_append [] ys = refl
  map_append (x ∷ xs) ys = ap (λ zs. to x ∷ zs) (map_append xs ys)

  size : (cs : List A) → length (map to cs) ≡ length cs
  size [] = refl
  size (a ∷ cs) = ap (λ n. suc n) (size cs)

  from_reset : (set : Set) (rs cs : List A) → IsRunFromReset d set rs cs → IsRunFromReset e set (map to rs) (map to cs)
  from_reset set rs cs h = record {
    run = subst (λ zs. IsRun e zs) (map_append rs cs) (run (rs ++ cs) h.run);
    count = size rs ∙ h.count;
    active = levels true rs h.active;
    inactive = levels false cs h.inactive;
  }

  segment : (m : Meaning) (set : Set) (end : ℕ) (cs : List A) → IsSegment d m set end cs → IsSegment e m set end (map to cs)
  segment m set end cs h = record {
    run = run cs h.run;
    inactive = levels false cs h.inactive;
    window = subst (λ zs. IsWindow m set end zs) (sym (trace cs)) h.window;
    invariants = subst (λ zs. MeetsInvariants m set zs) (sym (trace cs)) h.invariants;
  }

  reset_segment : (m : Meaning) (set : Set) (end : ℕ) (rs cs : List A) → IsResetSegment d m set end rs cs → IsResetSegment e m set end (map to rs) (map to cs)
  reset_segment m set end rs cs h = record {
    from_reset = from_reset set rs cs h.from_reset;
    window = subst (λ zs. IsWindow m set end zs) (sym (trace cs)) h.window;
  }

  pub lines : (m : Meaning) (set : Set) → AreDesignLinesValid e m set → AreDesignLinesValid d m set
  lines m set v = record {
    base = λ rule rs cs k h. v.base rule (map to rs) (map to cs) k
        (record { segment = reset_segment m set 0 rs cs h.segment; broken = ap (λ zs. holds m rule.formula zs) (trace cs) ∙ h.broken });
    step = λ rule cs k h. v.step rule (map to cs) k
        (record { segment = segment m set 1 cs h.segment; broken = ap (λ zs. holds m rule.formula (drop 1 zs)) (trace cs) ∙ h.broken });
    reset = λ rs cs h. v.reset (map to rs) (map to cs)
        (record { segment = reset_segment m set (window_of set 0) rs cs h.segment; broken = ap (λ zs. committed m set 0 zs) (trace cs) ∙ h.broken });
    operations = λ p cs k h. v.operations p (map to cs) k
        (record {
          segment = segment m set (window_of set p) cs h.segment;
          assumes = ap (λ zs. assumed m set p zs) (trace cs) ∙ h.assumes;
          broken = ap (λ zs. committed m set p zs) (trace cs) ∙ h.broken;
        });
  }

  pub runs : (m : Meaning) (set : Set) → RunsSatisfy e m set → RunsSatisfy d m set
  runs m set v rs cs h k =
      subst (λ zs. Satisfies m set zs) (trace cs)
      (v (map to rs) (map to cs) (from_reset set rs cs h) (subst (λ zs. IsConstrained m set zs) (sym (trace cs)) k))

-- ---- a module without instances, and a list of modules

abbrev to_flat : (ms : List Module) (top : Name) (f : Flat) → KeepsRuns ms top f → CycleFrom ms top → FlatCycle f
to_flat ms top f k c = (c.0, (k.cycle c.0).1 c.1)

abbrev to_list : (ms : List Module) (top : Name) (f : Flat) → KeepsRuns ms top f → FlatCycle f → CycleFrom ms top
to_list ms top f k c = (c.0, (k.cycle c.0).0 c.1)

pub lines_same : (ms : List Module) (top : Name) (f : Flat) (m : Meaning) (set : Set) → KeepsRuns ms top f →
    (AreDesignLinesValid (flat_design f set) m set → AreDesignLinesValid (design_from ms top set) m set)
    × (AreDesignLinesValid (design_from ms top set) m set → AreDesignLinesValid (flat_design f set) m set)
lines_same ms top f m set k = (
  lines (design_from ms top set) (flat_design f set) (to_flat ms top f k) (λ a b h. (k.follows a.0 b.0).1 h) (λ a. refl) (λ a. refl) m set,
  lines (flat_design f set) (design_from ms top set) (to_list ms top f k) (λ a b h. (k.follows a.0 b.0).0 h) (λ a. refl) (λ a. refl) m set,
)

pub runs_same : (ms : List Module) (top : Name) (f : Flat) (m : Meaning) (set : Set) → KeepsRuns ms top f →
    (RunsSatisfy (flat_design f set) m set → RunsSatisfy (design_from ms top set) m set)
    × (RunsSatisfy (design_from ms top set) m set → RunsSatisfy (flat_design f set) m set)
runs_same ms top f m set k = (
  runs (design_from ms top set) (flat_design f set) (to_flat ms top f k) (λ a b h. (k.follows a.0 b.0).1 h) (λ a. refl) (λ a. refl) m set,
  runs (flat_design f set) (design_from ms top set) (to_list ms top f k) (λ a b h. (k.follows a.0 b.0).0 h) (λ a. refl) (λ a. refl) m set,
)
