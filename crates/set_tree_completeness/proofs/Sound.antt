use Rattle.std.proofs.Common.{◌≡◌, ℕ, zero, suc, ◌+◌, ◌<◌, true, false, List, [], ◌∷◌, ◌++◌, take, drop, length, ◌∙◌, ap, subst, arith, length-drop}
use Rattle.std.proofs.lemmas.List.{drop-drop, take-map, drop-map}
use Rattle.std.proofs.lemmas.List.Elements.{All-take, All-drop}
use Rattle.std.proofs.lemmas.Bool.{true_from_ne_false}
use Rattle.set_tree.specs.declared.set.Set.{Set}
use Rattle.set_tree.specs.Meaning.{Row, Meaning, ReadsWithin, holds}
use Rattle.set_tree.specs.Parts.{window_of, assumed, committed}
use Rattle.set_tree.specs.Traces.{IsConstrained, Satisfies}
use Rattle.set_tree.specs.Lines.{IsWindow}
use Rattle.set_tree.specs.Structure.{KeepsOffsets}
use Rattle.set_tree.specs.Runs.{Design, GoesOnTo, IsRun, trace_of, IsRunFromReset, MeetsInvariants, IsSegment, IsResetSegment, AreDesignLinesValid, RunsSatisfy}
use Rattle.set_tree_completeness.proofs.Windows.{holds_seen, constrained-drop, window_front, assumed_seen, committed_seen}

module _ {Cycle : Type 0} (d : Design Cycle) where
  run-drop : (n : ℕ) (cs : List Cycle) → IsRun d cs → IsRun d (drop n cs)
  run-drop zero cs run = run
  run-drop (suc n) [] run = tt
  run-drop (suc n) (c ∷ cs) run = run-drop n cs run.1

  goes_on_to-take : (c : Cycle) (n : ℕ) (cs : List Cycle) → GoesOnTo d c cs → GoesOnTo d c (take n cs)
  goes_on_to-take c zero cs h = tt
  goes_on_to-take c (suc n) [] h = tt
  goes_on_to-take c (suc n) (e ∷ cs) h = h

  run-take : (n : ℕ) (cs : List Cycle) → IsRun d cs → IsRun d (take n cs)
  run-take zero cs run = tt
  run-take (suc n) [] run = tt
  run-take (suc n) (c ∷ cs) run = (goes_on_to-take c n cs run.0, run-take n cs run.1)

  run-right : (rs cs : List Cycle) → IsRun d (rs ++ cs) → IsRun d cs
  run-right [] cs run = run
  run-right (r ∷ rs) cs run = run-right rs cs run.1

  run-front : (rs : List Cycle) (n : ℕ) (cs : List Cycle) → IsRun d (rs ++ cs) → IsRun d (rs ++ take n cs)
  run-front [] n cs run = run-take n cs run
  run-front (r ∷ []) n cs run = (goes_on_to-take r n cs run.0, run-front [] n cs run.1)
  run-front (r ∷ s ∷ rs) n cs run = (run.0, run-front (s ∷ rs) n cs run.1)

module _ {Cycle : Type 0} (d : Design Cycle) (m : Meaning) (reads : ReadsWithin m) (set : Set) (offsets : KeepsOffsets m set) (valid : AreDesignLinesValid d m set) (resets cycles : List Cycle) (run : IsRunFromReset d set resets cycles) (constrained : IsConstrained m set (trace_of d cycles)) where
  -- the first end + 1 cycles after reset are a reset segment
  reset_segment : (end : ℕ) → end < length (trace_of d cycles) → IsResetSegment d m set end resets (take (end + 1) cycles)
  reset_segment end fits = record {
    from_reset = record {
      run = run-front d resets (end + 1) cycles run.run;
      count = run.count;
      active = run.active;
      inactive = All-take (λ c. d.is_reset c ≡ false) (end + 1) cycles run.inactive;
    };
    window = subst (IsWindow m set end) (take-map d.row (end + 1) cycles) (window_front m reads set end (trace_of d cycles) constrained fits);
  }

  -- where the invariants hold at t, the end + 1 cycles from there are a segment
  segment : (t end : ℕ) → t + end < length (trace_of d cycles) → MeetsInvariants m set (drop t (trace_of d cycles)) → IsSegment d m set end (take (end + 1) (drop t cycles))
  segment t end fits meets =
      let shown : take (end + 1) (drop t (trace_of d cycles)) ≡ trace_of d (take (end + 1) (drop t cycles)) = ap (take (end + 1)) (drop-map d.row t cycles) ∙ take-map d.row (end + 1) (drop t cycles) in
      record {
        run = run-take d (end + 1) (drop t cycles) (run-drop d t cycles (run-right d resets cycles run.run));
        inactive = All-take (λ c. d.is_reset c ≡ false) (end + 1) (drop t cycles) (All-drop (λ c. d.is_reset c ≡ false) t cycles run.inactive);
        window = subst (IsWindow m set end) shown (window_front m reads set end (drop t (trace_of d cycles)) (constrained-drop m set t (trace_of d cycles) constrained) (omega (arith, length-drop t (trace_of d cycles))));
        invariants = λ rule member.
            let own = offsets.invariants rule member in
            subst (λ (rs : List Row). holds m rule.formula rs ≡ true) shown (holds_seen m reads rule.formula 0 end (drop t (trace_of d cycles)) (omega arith) ∙ meets rule member);
      }

  -- the invariants hold in every cycle: at 0 by `base`, and one cycle further by `step`
  invariants_hold : (t : ℕ) → t < length (trace_of d cycles) → MeetsInvariants m set (drop t (trace_of d cycles))
  invariants_hold zero fits rule member =
      let own = offsets.invariants rule member in
      true_from_ne_false _ (λ broken. valid.base rule resets (take 1 cycles) member (record {
        segment = reset_segment 0 fits;
        broken = subst (λ (rs : List Row). holds m rule.formula rs ≡ false) (take-map d.row 1 cycles) (holds_seen m reads rule.formula 0 0 (trace_of d cycles) (omega arith) ∙ broken);
      }))
  invariants_hold (suc t) fits rule member =
      let own = offsets.invariants rule member in
      let shown : take 2 (drop t (trace_of d cycles)) ≡ trace_of d (take 2 (drop t cycles)) = ap (take 2) (drop-map d.row t cycles) ∙ take-map d.row 2 (drop t cycles) in
      let one_on : t + 1 ≡ suc t = omega arith in
      let next : drop 1 (drop t (trace_of d cycles)) ≡ drop (suc t) (trace_of d cycles) = drop-drop 1 t (trace_of d cycles) ∙ ap (λ (i : ℕ). drop i (trace_of d cycles)) one_on in
      true_from_ne_false _ (λ broken. valid.step rule (take 2 (drop t cycles)) member (record {
        segment = segment t 1 (omega arith) (invariants_hold t (omega arith));
        broken = subst (λ (rs : List Row). holds m rule.formula (drop 1 rs) ≡ false) shown (holds_seen m reads rule.formula 1 1 (drop t (trace_of d cycles)) (omega arith) ∙ (ap (holds m rule.formula) next ∙ broken));
      }))

  -- a run from reset meets the reset commitment, and each operation's wherever it is assumed
  pub satisfied : Satisfies m set (trace_of d cycles)
  satisfied = record {
    reset = λ fits. true_from_ne_false _ (λ broken. valid.reset resets (take (window_of set 0 + 1) cycles) (record {
      segment = reset_segment (window_of set 0) fits;
      broken = subst (λ (rs : List Row). committed m set 0 rs ≡ false) (take-map d.row (window_of set 0 + 1) cycles) (committed_seen m reads set offsets 0 0 (window_of set 0) (trace_of d cycles) (omega arith) (omega arith) ∙ broken);
    }));
    operations = λ p t operation fits assumes. true_from_ne_false _ (λ broken.
        let w = window_of set p in
        let shown : take (w + 1) (drop t (trace_of d cycles)) ≡ trace_of d (take (w + 1) (drop t cycles)) = ap (take (w + 1)) (drop-map d.row t cycles) ∙ take-map d.row (w + 1) (drop t cycles) in
        valid.operations p (take (w + 1) (drop t cycles)) operation (record {
          segment = segment t w fits (invariants_hold t (omega arith));
          assumes = subst (λ (rs : List Row). assumed m set p rs ≡ true) shown (assumed_seen m reads set offsets p 0 w (drop t (trace_of d cycles)) operation.1 (omega arith) ∙ assumes);
          broken = subst (λ (rs : List Row). committed m set p rs ≡ false) shown (committed_seen m reads set offsets p 0 w (drop t (trace_of d cycles)) operation.1 (omega arith) ∙ broken);
        }));
  }

pub runs_satisfy : {Cycle : Type 0} (d : Design Cycle) (m : Meaning) → ReadsWithin m → (set : Set) → KeepsOffsets m set → AreDesignLinesValid d m set → RunsSatisfy d m set
runs_satisfy d m reads set offsets valid resets cycles run constrained = satisfied d m reads set offsets valid resets cycles run constrained
