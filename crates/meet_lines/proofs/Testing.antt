-- Each line's test holds exactly where the segment that the values name meets the line.
use Rattle.std.proofs.Common.{◌≡◌, ℕ, Bool, true, false, List, [], ◌++◌, length, refl, sym, ap, ◌∙◌, subst, arith}
use Rattle.std.specs.Prelude.{◌&&◌}
use Rattle.set_tree.specs.declared.set.Set.{Set}
use Rattle.set_tree.specs.Lines.{IsWindow}
use Rattle.set_tree.specs.Meaning.{Row, Meaning}
use Rattle.set_tree.specs.Parts.{assumed, largest_window, window_of}
use Rattle.set_tree.specs.Runs.{MeetsInvariants, trace_of}
use Rattle.word_core.specs.Words.{Bits, flag}
use Rattle.word_dag.specs.Nodes.{Naming}
use Rattle.elab_step_design.specs.Designs.{Parts, IsDesign}
use Rattle.elab_step_design.specs.Laws.{DesignCycle, word_design}
use Rattle.unroll_binding.specs.Binding.{Fits}
use Rattle.twin_tests_laws.specs.Tests.{meets_constraints}
use Rattle.twin_tests_laws.proofs.Testing.{both_of, met_made, of_both}
use Rattle.unroll_laws.specs.Segments.{IsNamedBy}
use Rattle.unroll_laws.specs.Tests.{meets_invariants, segment_rows}
use Rattle.unroll_laws.proofs.Named.{are_named}
use Rattle.unroll_laws.proofs.Running.{rows_are_of_runs}
use Rattle.unroll_laws.proofs.Testing.{invariants_in, invariants_made, is_reset_segment, is_segment, named_reset_segment, named_segment, window_in}
use Rattle.meet_lines.specs.declared.line.MeetLine.{MeetLine}
use Rattle.meet_lines.specs.declared.line.MeetLine.TheVariants.{Reset, Operation}
use Rattle.meet_lines.specs.Laws.{MetLinesHaveValues, ObligationsDecide, TestIsExact, TestsAreOfLines, ValuesMeetLines}
use Rattle.meet_lines.specs.Lines.{Meets}
use Rattle.meet_lines.specs.Tests.{meet_test}

module _ (d : Parts) (m : Meaning) (set : Set) (h : IsDesign d) (fits : Fits d set) (e : Naming) where
  abbrev trace : List (DesignCycle d) → List Row
  trace cycles = trace_of (word_design d set) cycles

  reset_in : meet_test d m set Reset e ≡ true → Meets d m set Reset e
  reset_in t =
      let end = largest_window set in
      let run = (rows_are_of_runs d set h fits).some set.cycles e end in
      let window : IsWindow m set end (trace run.1) = subst (IsWindow m set end) (sym run.3) (window_in d m set h fits e set.cycles end t) in
      let named : IsNamedBy d set (length run.0) e (run.0 ++ run.1) = subst (λ k. IsNamedBy d set k e (run.0 ++ run.1)) (sym run.2.count) run.2.named in
      (run.0, run.1, named, is_reset_segment d m set h fits e end run.0 run.1 run.2 window)

  reset_made : Meets d m set Reset e → meet_test d m set Reset e ≡ true
  reset_made (resets, cycles, named, segment) =
      let counted : IsNamedBy d set set.cycles e (resets ++ cycles) = subst (λ k. IsNamedBy d set k e (resets ++ cycles)) segment.from_reset.count named in
      let same = named_reset_segment d m set h fits e (largest_window set) resets cycles counted segment in
      subst (λ (rows : List Row). meets_constraints m set rows ≡ true) same (met_made m set (trace cycles) segment.window.constrained.met)

  operation_in : (p : ℕ) → meet_test d m set (Operation p) e ≡ true → Meets d m set (Operation p) e
  operation_in p t =
      let end = window_of set p in
      let rows = segment_rows d set 0 e end in
      let last = both_of (meets_constraints m set rows && meets_invariants m set rows) (assumed m set p rows) t in
      let parts = both_of (meets_constraints m set rows) (meets_invariants m set rows) last.0 in
      let run = (rows_are_of_runs d set h fits).some 0 e end in
      let window : IsWindow m set end (trace run.1) = subst (IsWindow m set end) (sym run.3) (window_in d m set h fits e 0 end parts.0) in
      let invariants : MeetsInvariants m set (trace run.1) = subst (MeetsInvariants m set) (sym run.3) (invariants_in d m set h fits e rows parts.1) in
      let segment = is_segment d m set h fits e end run.0 run.1 run.2 window invariants in
      ([], run.1, segment.1, (refl, segment.0, ap (λ (rs : List Row). assumed m set p rs) run.3 ∙ last.1))

  operation_made : (p : ℕ) → Meets d m set (Operation p) e → meet_test d m set (Operation p) e ≡ true
  operation_made p (resets, cycles, named, (none, segment, assumes)) =
      let alone : IsNamedBy d set 0 e cycles = subst (λ (rs : List (DesignCycle d)). IsNamedBy d set (length rs) e (rs ++ cycles)) none named in
      let same = named_segment d m set h fits e (window_of set p) cycles alone segment in
      let met = subst (λ (rs : List Row). meets_constraints m set rs ≡ true) same (met_made m set (trace cycles) segment.window.constrained.met) in
      let invariants = subst (λ (rs : List Row). meets_invariants m set rs ≡ true) same (invariants_made d m set h fits e (trace cycles) segment.invariants) in
      of_both _ _ (of_both _ _ met invariants) (ap (λ (rs : List Row). assumed m set p rs) (sym same) ∙ assumes)

pub test_is_exact : (d : Parts) (m : Meaning) (set : Set) → IsDesign d → Fits d set → (line : MeetLine) → TestIsExact d m set line
test_is_exact d m set h fits Reset e = (reset_in d m set h fits e, reset_made d m set h fits e)
test_is_exact d m set h fits (Operation p) e = (operation_in d m set h fits e p, operation_made d m set h fits e p)

flag_is : (b : Bool) → (flag b).value ≡ 1 → b ≡ true
flag_is true is = refl
flag_is false is = absurd (let clash : 0 ≡ 1 = is in omega (arith, clash))

pub tests_are_of_lines : (d : Parts) (m : Meaning) (set : Set) → IsDesign d → Fits d set → (line : MeetLine) → TestsAreOfLines d m set line
tests_are_of_lines d m set h fits line nodes root test e =
    let exact = test_is_exact d m set h fits line e in (
      λ one. exact.0 (flag_is (meet_test d m set line e) (sym (ap (λ (w : Bits). w.value) (test e)) ∙ one)),
      λ v. ap (λ (w : Bits). w.value) (test e ∙ ap flag (exact.1 v)),
    )

pub met_lines_have_values : (d : Parts) (m : Meaning) (set : Set) → IsDesign d → MetLinesHaveValues d m set
met_lines_have_values d m set h Reset (resets, cycles, segment) = let e = are_named d h set (length resets) (resets ++ cycles) in (e.0, (resets, cycles, e.1, segment))
met_lines_have_values d m set h (Operation p) (cycles, segment, assumes) = let e = are_named d h set 0 cycles in (e.0, ([], cycles, e.1, (refl, segment, assumes)))

pub values_meet_lines : (d : Parts) (m : Meaning) (set : Set) → ValuesMeetLines d m set
values_meet_lines d m set Reset e (resets, cycles, named, segment) = (resets, cycles, segment)
values_meet_lines d m set (Operation p) e (resets, cycles, named, (none, segment, assumes)) = (cycles, segment, assumes)

pub obligations_decide : (d : Parts) (m : Meaning) (set : Set) → IsDesign d → ObligationsDecide d m set
obligations_decide d m set h line nodes root of = (
  λ met. let values = met_lines_have_values d m set h line met in (values.0, (of values.0).1 values.1),
  λ values. values_meet_lines d m set line values.0 ((of values.0).0 values.1),
)
