-- Each run is named by some values, and so is each segment that violates a line.
use Rattle.std.proofs.Common.{◌≡◌, ℕ, zero, suc, ◌+◌, ◌^◌, ◌%◌, List, [], ◌∷◌, ◌++◌, sym, ap, ◌∙◌, arith}
use Rattle.std.specs.Prelude.{pos, nat_abs, ◌+ℤ◌, ◌-ℤ◌}
use Rattle.std.proofs.lemmas.Int.{ints}
use Rattle.set_tree.specs.declared.line.Line.TheVariants.{Base, Step, Reset, Operation, End, Split, SameEnd, Choose, Hand, Determine}
use Rattle.set_tree.specs.declared.set.Set.{Set}
use Rattle.set_tree.specs.Meaning.{Meaning}
use Rattle.vlog_tree_runs.specs.Places.{Name}
use Rattle.word_dag.specs.Nodes.{Naming}
use Rattle.elab_step_design.specs.Designs.{Parts, IsDesign, source}
use Rattle.elab_step_design.specs.Laws.{DesignCycle}
use Rattle.unroll_laws.specs.Segments.{cycle_number, HasNamedInputs, HasNamedRegisters, IsNamedBy}
use Rattle.unroll_laws.specs.Laws.{RunsHaveValues, ViolationsHaveValues, ValuesAreViolations}
use Rattle.unroll_laws.proofs.Holding.{input_source, register_source}
use Rattle.unroll_laws.proofs.Sources.{cycle_fits}

module _ (d : Parts) where
  -- the value of a name in the cycle at a position
  abbrev value_at : List (DesignCycle d) → ℕ → Name → ℕ
  value_at [] i x = 0
  value_at (c ∷ cycles) zero x = c.0 x
  value_at (c ∷ cycles) (suc i) x = value_at cycles i x

  -- the values that the cycles have
  abbrev naming_of : ℕ → List (DesignCycle d) → Naming
  naming_of k cycles x side t = value_at cycles (nat_abs (t +ℤ pos k)) x

  position : (k i : ℕ) → nat_abs (cycle_number k i +ℤ pos k) ≡ i
  position k i = let back : pos i -ℤ pos k +ℤ pos k ≡ pos i = omega (arith, ints) in ap nat_abs back

  module _ (h : IsDesign d) (set : Set) (k : ℕ) where
    -- the naming has the values of these cycles from a position on
    abbrev Gives : Naming → ℕ → List (DesignCycle d) → Type 0
    Gives e i cycles = (j : ℕ) (x : Name) → e x 0 (cycle_number k (i + j)) ≡ value_at cycles j x

    named_inputs : (e : Naming) (i : ℕ) (cycles : List (DesignCycle d)) → Gives e i cycles → HasNamedInputs d set k e i cycles
    named_inputs e i [] gives = tt
    named_inputs e i (c ∷ cycles) gives =
        let start : i ≡ i + 0 = omega arith in (
          λ n m differ. cycle_fits d h c.0 c.1 n (input_source d n m) ∙ ap (λ u. u % 2 ^ n.width) (sym (gives 0 n.name) ∙ ap (λ j. e n.name 0 (cycle_number k j)) (sym start)),
          named_inputs e (suc i) cycles (λ j x. let next : suc i + j ≡ i + suc j = omega arith in ap (λ l. e x 0 (cycle_number k l)) next ∙ gives (suc j) x),
        )

    named_registers : (e : Naming) (cycles : List (DesignCycle d)) → Gives e 0 cycles → HasNamedRegisters d k e cycles
    named_registers e [] gives = tt
    named_registers e (c ∷ cycles) gives = λ r m.
        let start : 0 ≡ 0 + 0 = omega arith in
        cycle_fits d h c.0 c.1 (source r) (register_source d r m) ∙ ap (λ u. u % 2 ^ r.width) (sym (gives 0 r.name) ∙ ap (λ j. e r.name 0 (cycle_number k j)) (sym start))

    pub are_named : (cycles : List (DesignCycle d)) → (e : Naming) × IsNamedBy d set k e cycles
    are_named cycles =
        let e = naming_of k cycles in
        let gives : Gives e 0 cycles = λ j x. let start : 0 + j ≡ j = omega arith in ap (λ i. value_at cycles i x) (position k (0 + j) ∙ start) in
        (e, record { registers = named_registers e cycles gives; inputs = named_inputs e 0 cycles gives })

pub runs_have_values : (d : Parts) (set : Set) → IsDesign d → RunsHaveValues d set
runs_have_values d set h k cycles = are_named d h set k cycles

pub violations_have_values : (d : Parts) (m : Meaning) (set : Set) → IsDesign d → ViolationsHaveValues d m set
violations_have_values d m set h (Base i) is v = let e = are_named d h set set.cycles (v.1 ++ v.2) in (e.0, (v.0, v.1, v.2, v.3, e.1, v.4))
violations_have_values d m set h (Step i) is v = let e = are_named d h set 0 v.1 in (e.0, (v.0, v.1, v.2, e.1, v.3))
violations_have_values d m set h Reset is v = let e = are_named d h set set.cycles (v.0 ++ v.1) in (e.0, (v.0, v.1, e.1, v.2))
violations_have_values d m set h (Operation p) is v = let e = are_named d h set 0 v.0 in (e.0, (v.0, e.1, v.1))
violations_have_values d m set h (End p) is v = absurd is
violations_have_values d m set h (Split p) is v = absurd is
violations_have_values d m set h (SameEnd p) is v = absurd is
violations_have_values d m set h (Choose p q) is v = absurd is
violations_have_values d m set h (Hand p q) is v = absurd is
violations_have_values d m set h (Determine p) is v = absurd is

pub values_are_violations : (d : Parts) (m : Meaning) (set : Set) → ValuesAreViolations d m set
values_are_violations d m set (Base i) is e v = (v.0, v.1, v.2, v.3, v.5)
values_are_violations d m set (Step i) is e v = (v.0, v.1, v.2, v.4)
values_are_violations d m set Reset is e v = (v.0, v.1, v.3)
values_are_violations d m set (Operation p) is e v = (v.0, v.2)
values_are_violations d m set (End p) is e v = absurd is
values_are_violations d m set (Split p) is e v = absurd is
values_are_violations d m set (SameEnd p) is e v = absurd is
values_are_violations d m set (Choose p q) is e v = absurd is
values_are_violations d m set (Hand p q) is e v = absurd is
values_are_violations d m set (Determine p) is e v = absurd is
