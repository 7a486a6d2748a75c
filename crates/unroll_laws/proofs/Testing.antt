-- Each line's test holds exactly where the line is violated.
use Rattle.std.proofs.Common.{◌≡◌, ℕ, zero, suc, ◌+◌, Bool, true, false, not, List, [], ◌∷◌, ◌++◌, length, drop, Option, Some, None, refl, sym, ap, ◌∙◌, subst, arith}
use Rattle.std.specs.Prelude.{◌&&◌, slice_get}
use Rattle.std.proofs.lemmas.List.{length-map}
use Rattle.set_tree.specs.declared.line.Line.{Line}
use Rattle.set_tree.specs.declared.line.Line.TheVariants.{Base, Step, Reset, Operation, End, Split, SameEnd, Choose, Hand, Determine}
use Rattle.set_tree.specs.declared.set.Rule.{Rule}
use Rattle.set_tree.specs.declared.set.Set.{Set}
use Rattle.set_tree.specs.Lines.{IsWindow}
use Rattle.set_tree.specs.Meaning.{Row, Meaning, holds}
use Rattle.set_tree.specs.Parts.{window_of, assumed, committed}
use Rattle.set_tree.specs.Runs.{IsResetSegment, IsSegment, MeetsInvariants, trace_of}
use Rattle.word_core.specs.Words.{Bits, flag}
use Rattle.word_dag.specs.Nodes.{Naming}
use Rattle.elab_step_design.specs.Designs.{Parts, IsDesign}
use Rattle.elab_step_design.specs.Laws.{DesignCycle, word_design}
use Rattle.unroll_binding.specs.Binding.{Fits}
use Rattle.twin_tests_laws.specs.Tests.{meets_constraints}
use Rattle.twin_tests_laws.proofs.Testing.{all_in, all_made, both_of, met_in, met_made, of_both, of_turned, turned}
use Rattle.unroll_laws.specs.Segments.{IsNamedBy}
use Rattle.unroll_laws.specs.Lines.{Violates}
use Rattle.unroll_laws.specs.Laws.{IsNamedRun, TestIsExact, TestsAreOfLines}
use Rattle.unroll_laws.specs.Tests.{fails, line_test, meets_invariants, rows_from, segment_rows}
use Rattle.unroll_laws.proofs.Running.{rows_are_of_runs}

-- an invariant that fails
fails_in : (m : Meaning) (o : Option Rule) (rows : List Row) → fails m o rows ≡ true → (rule : Rule) × (o ≡ Some rule) × (holds m rule.formula rows ≡ false)
fails_in m None rows h = absurd cc
fails_in m (Some rule) rows h = (rule, refl, turned (holds m rule.formula rows) h)

fails_made : (m : Meaning) (o : Option Rule) (rows : List Row) (rule : Rule) → o ≡ Some rule → holds m rule.formula rows ≡ false → fails m o rows ≡ true
fails_made m o rows rule is h = rw is (of_turned (holds m rule.formula rows) h)

pub length-rows : (d : Parts) (set : Set) (k : ℕ) (e : Naming) (i n : ℕ) → length (rows_from d set k e i n) ≡ n
length-rows d set k e i zero = refl
length-rows d set k e i (suc n) = ap suc (length-rows d set k e (suc i) n)

module _ (d : Parts) (m : Meaning) (set : Set) (h : IsDesign d) (fits : Fits d set) (e : Naming) where
  abbrev Segment : Type 0
  Segment = List (DesignCycle d)

  abbrev trace : Segment → List Row
  trace cycles = trace_of (word_design d set) cycles

  pub invariants_in : (rows : List Row) → meets_invariants m set rows ≡ true → MeetsInvariants m set rows
  invariants_in rows met rule member = all_in (λ (rule : Rule). holds m rule.formula rows) set.invariants rule met member

  pub invariants_made : (rows : List Row) → MeetsInvariants m set rows → meets_invariants m set rows ≡ true
  invariants_made rows met = all_made (λ (rule : Rule). holds m rule.formula rows) set.invariants met

  pub window_in : (k end : ℕ) → meets_constraints m set (segment_rows d set k e end) ≡ true → IsWindow m set end (segment_rows d set k e end)
  window_in k end met = record {
    size = length-rows d set k e k (end + 1);
    constrained = record { trace = (rows_are_of_runs d set h fits).trace k e end; met = met_in m set (segment_rows d set k e end) met };
  }

  -- a run that the values name, with the rows of a window, is a segment
  pub is_segment : (end : ℕ) (resets cycles : Segment) → IsNamedRun d set 0 e resets cycles → IsWindow m set end (trace cycles) → MeetsInvariants m set (trace cycles) → IsSegment (word_design d set) m set end cycles × IsNamedBy d set 0 e cycles
  is_segment end [] cycles run window invariants = (record { run = run.run; inactive = run.inactive; window = window; invariants = invariants }, run.named)
  is_segment end (c ∷ resets) cycles run window invariants = absurd (let count = run.count in omega (arith, count))

  pub is_reset_segment : (end : ℕ) (resets cycles : Segment) → IsNamedRun d set set.cycles e resets cycles → IsWindow m set end (trace cycles) → IsResetSegment (word_design d set) m set end resets cycles
  is_reset_segment end resets cycles run window =
      record { from_reset = record { run = run.run; count = run.count; active = run.active; inactive = run.inactive }; window = window }

  pub named_segment : (end : ℕ) (cycles : Segment) → IsNamedBy d set 0 e cycles → IsSegment (word_design d set) m set end cycles → trace cycles ≡ segment_rows d set 0 e end
  named_segment end cycles named segment =
      (rows_are_of_runs d set h fits).only 0 e end [] cycles (record { run = segment.run; count = refl; active = λ i c lt. absurd (omega (arith, lt)); inactive = segment.inactive; named = named }) (sym (length-map cycles (word_design d set).row) ∙ segment.window.size)

  pub named_reset_segment : (end : ℕ) (resets cycles : Segment) → IsNamedBy d set set.cycles e (resets ++ cycles) → IsResetSegment (word_design d set) m set end resets cycles → trace cycles ≡ segment_rows d set set.cycles e end
  named_reset_segment end resets cycles named segment =
      let run = segment.from_reset in
      (rows_are_of_runs d set h fits).only set.cycles e end resets cycles (record { run = run.run; count = run.count; active = run.active; inactive = run.inactive; named = named }) (sym (length-map cycles (word_design d set).row) ∙ segment.window.size)

  base_in : (i : ℕ) → line_test d m set (Base i) e ≡ true → Violates d m set (Base i) e
  base_in i t =
      let rows = segment_rows d set set.cycles e 0 in
      let parts = both_of (meets_constraints m set rows) (fails m (slice_get set.invariants i) rows) t in
      let bad = fails_in m (slice_get set.invariants i) rows parts.1 in
      let run = (rows_are_of_runs d set h fits).some set.cycles e 0 in
      let window : IsWindow m set 0 (trace run.1) = subst (IsWindow m set 0) (sym run.3) (window_in set.cycles 0 parts.0) in
      (bad.0, run.0, run.1, bad.1, run.2.named, record { segment = is_reset_segment 0 run.0 run.1 run.2 window; broken = ap (λ (rs : List Row). holds m bad.0.formula rs) run.3 ∙ bad.2 })

  base_made : (i : ℕ) → Violates d m set (Base i) e → line_test d m set (Base i) e ≡ true
  base_made i v =
      let rows = segment_rows d set set.cycles e 0 in
      let same = named_reset_segment 0 v.1 v.2 v.4 v.5.segment in
      let met = subst (λ (rs : List Row). meets_constraints m set rs ≡ true) same (met_made m set (trace v.2) v.5.segment.window.constrained.met) in
      of_both _ _ met (fails_made m (slice_get set.invariants i) rows v.0 v.3 (ap (λ (rs : List Row). holds m v.0.formula rs) (sym same) ∙ v.5.broken))

  step_in : (i : ℕ) → line_test d m set (Step i) e ≡ true → Violates d m set (Step i) e
  step_in i t =
      let rows = segment_rows d set 0 e 1 in
      let last = both_of (meets_constraints m set rows && meets_invariants m set rows) (fails m (slice_get set.invariants i) (drop 1 rows)) t in
      let parts = both_of (meets_constraints m set rows) (meets_invariants m set rows) last.0 in
      let bad = fails_in m (slice_get set.invariants i) (drop 1 rows) last.1 in
      let run = (rows_are_of_runs d set h fits).some 0 e 1 in
      let window : IsWindow m set 1 (trace run.1) = subst (IsWindow m set 1) (sym run.3) (window_in 0 1 parts.0) in
      let invariants : MeetsInvariants m set (trace run.1) = subst (MeetsInvariants m set) (sym run.3) (invariants_in rows parts.1) in
      let segment = is_segment 1 run.0 run.1 run.2 window invariants in
      (bad.0, run.1, bad.1, segment.1, record { segment = segment.0; broken = ap (λ (rs : List Row). holds m bad.0.formula (drop 1 rs)) run.3 ∙ bad.2 })

  step_made : (i : ℕ) → Violates d m set (Step i) e → line_test d m set (Step i) e ≡ true
  step_made i v =
      let rows = segment_rows d set 0 e 1 in
      let same = named_segment 1 v.1 v.3 v.4.segment in
      let met = subst (λ (rs : List Row). meets_constraints m set rs ≡ true) same (met_made m set (trace v.1) v.4.segment.window.constrained.met) in
      let invariants = subst (λ (rs : List Row). meets_invariants m set rs ≡ true) same (invariants_made (trace v.1) v.4.segment.invariants) in
      of_both _ _ (of_both _ _ met invariants) (fails_made m (slice_get set.invariants i) (drop 1 rows) v.0 v.2 (ap (λ (rs : List Row). holds m v.0.formula (drop 1 rs)) (sym same) ∙ v.4.broken))

  reset_in : line_test d m set Reset e ≡ true → Violates d m set Reset e
  reset_in t =
      let end = window_of set 0 in
      let rows = segment_rows d set set.cycles e end in
      let parts = both_of (meets_constraints m set rows) (not (committed m set 0 rows)) t in
      let run = (rows_are_of_runs d set h fits).some set.cycles e end in
      let window : IsWindow m set end (trace run.1) = subst (IsWindow m set end) (sym run.3) (window_in set.cycles end parts.0) in
      (run.0, run.1, run.2.named, record { segment = is_reset_segment end run.0 run.1 run.2 window; broken = ap (λ (rs : List Row). committed m set 0 rs) run.3 ∙ turned _ parts.1 })

  reset_made : Violates d m set Reset e → line_test d m set Reset e ≡ true
  reset_made v =
      let same = named_reset_segment (window_of set 0) v.0 v.1 v.2 v.3.segment in
      let met = subst (λ (rs : List Row). meets_constraints m set rs ≡ true) same (met_made m set (trace v.1) v.3.segment.window.constrained.met) in
      of_both _ _ met (of_turned _ (ap (λ (rs : List Row). committed m set 0 rs) (sym same) ∙ v.3.broken))

  operation_in : (p : ℕ) → line_test d m set (Operation p) e ≡ true → Violates d m set (Operation p) e
  operation_in p t =
      let end = window_of set p in
      let rows = segment_rows d set 0 e end in
      let last = both_of (meets_constraints m set rows && meets_invariants m set rows && assumed m set p rows) (not (committed m set p rows)) t in
      let middle = both_of (meets_constraints m set rows && meets_invariants m set rows) (assumed m set p rows) last.0 in
      let parts = both_of (meets_constraints m set rows) (meets_invariants m set rows) middle.0 in
      let run = (rows_are_of_runs d set h fits).some 0 e end in
      let window : IsWindow m set end (trace run.1) = subst (IsWindow m set end) (sym run.3) (window_in 0 end parts.0) in
      let invariants : MeetsInvariants m set (trace run.1) = subst (MeetsInvariants m set) (sym run.3) (invariants_in rows parts.1) in
      let segment = is_segment end run.0 run.1 run.2 window invariants in (
        run.1,
        segment.1,
        record {
          segment = segment.0;
          assumes = ap (λ (rs : List Row). assumed m set p rs) run.3 ∙ middle.1;
          broken = ap (λ (rs : List Row). committed m set p rs) run.3 ∙ turned _ last.1;
        },
      )

  operation_made : (p : ℕ) → Violates d m set (Operation p) e → line_test d m set (Operation p) e ≡ true
  operation_made p v =
      let same = named_segment (window_of set p) v.0 v.1 v.2.segment in
      let met = subst (λ (rs : List Row). meets_constraints m set rs ≡ true) same (met_made m set (trace v.0) v.2.segment.window.constrained.met) in
      let invariants = subst (λ (rs : List Row). meets_invariants m set rs ≡ true) same (invariants_made (trace v.0) v.2.segment.invariants) in
      let assumes = ap (λ (rs : List Row). assumed m set p rs) (sym same) ∙ v.2.assumes in
      of_both _ _ (of_both _ _ (of_both _ _ met invariants) assumes) (of_turned _ (ap (λ (rs : List Row). committed m set p rs) (sym same) ∙ v.2.broken))

pub test_is_exact : (d : Parts) (m : Meaning) (set : Set) → IsDesign d → Fits d set → (line : Line) → TestIsExact d m set line
test_is_exact d m set h fits (Base i) e = (base_in d m set h fits e i, base_made d m set h fits e i)
test_is_exact d m set h fits (Step i) e = (step_in d m set h fits e i, step_made d m set h fits e i)
test_is_exact d m set h fits Reset e = (reset_in d m set h fits e, reset_made d m set h fits e)
test_is_exact d m set h fits (Operation p) e = (operation_in d m set h fits e p, operation_made d m set h fits e p)
test_is_exact d m set h fits (End p) e = (λ t. absurd cc, λ v. absurd v)
test_is_exact d m set h fits (Split p) e = (λ t. absurd cc, λ v. absurd v)
test_is_exact d m set h fits (SameEnd p) e = (λ t. absurd cc, λ v. absurd v)
test_is_exact d m set h fits (Choose p q) e = (λ t. absurd cc, λ v. absurd v)
test_is_exact d m set h fits (Hand p q) e = (λ t. absurd cc, λ v. absurd v)
test_is_exact d m set h fits (Determine p) e = (λ t. absurd cc, λ v. absurd v)

flag_is : (b : Bool) → (flag b).value ≡ 1 → b ≡ true
flag_is true is = refl
flag_is false is = absurd (let clash : 0 ≡ 1 = is in omega (arith, clash))

pub tests_are_of_lines : (d : Parts) (m : Meaning) (set : Set) → IsDesign d → Fits d set → (line : Line) → TestsAreOfLines d m set line
tests_are_of_lines d m set h fits line nodes root test e =
    let exact = test_is_exact d m set h fits line e in (
      λ one. exact.0 (flag_is (line_test d m set line e) (sym (ap (λ (w : Bits). w.value) (test e)) ∙ one)),
      λ v. ap (λ (w : Bits). w.value) (test e ∙ ap flag (exact.1 v)),
    )
