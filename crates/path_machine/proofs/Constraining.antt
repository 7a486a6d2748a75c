-- Constraints that fail.
use Rattle.std.proofs.Common.{◌≡◌, ℕ, suc, ◌+◌, ◌-◌, ◌<◌, ◌≤◌, Bool, true, false, not, List, [], ◌∷◌, length, drop, get_or, refl, sym, ap, ◌∙◌, subst, arith, length-drop, inl, inr}
use Rattle.std.specs.Prelude.{nat_lt}
use Rattle.std.specs.List.{All, Contains, list_any}
use Rattle.std.proofs.lemmas.Bool.{and_from, and_parts, cases_Bool, cases_lt, lt-ltb, ltb-true, not-true}
use Rattle.std.proofs.lemmas.List.Folds.{list_any_at}
use Rattle.set_tree.specs.declared.set.Rule.{Rule}
use Rattle.set_tree.specs.declared.set.Set.{Set}
use Rattle.set_tree.specs.Meaning.{Meaning, Row, holds}
use Rattle.set_tree_structure.specs.Condition.{IsFormula}
use Rattle.twin_tests.specs.Reading.{HasStructure}
use Rattle.twin_tests.proofs.Loops.{member_is}
use Rattle.twin_tests.proofs.Readings.{constraints_formed}
use Rattle.path_machine.specs.Unmet.{FailsAt, fails}

pub rule_formed : (set own : Set) (xs : List Rule) (k : ℕ) (x : Rule) → own ≡ set → xs ≡ own.constraints → HasStructure set → x ≡ get_or xs k x → k < length xs → IsFormula set x.formula
rule_formed set own xs k x same all s is lt =
    let these : xs ≡ set.constraints = all ∙ ap (λ (s : Set). s.constraints) same in
    member_is (λ (r : Rule). IsFormula set r.formula) xs k x is lt (subst (λ (ys : List Rule). All (λ (r : Rule). IsFormula set r.formula) ys) (sym these) (constraints_formed set s))

-- one that passes a test
some_passes : {X : Type 0} (p : X → Bool) (xs : List X) → list_any p xs ≡ true → (x : X) × Contains xs x × (p x ≡ true)
some_passes p [] is = absurd cc
some_passes p (x ∷ xs) is = elim (cases_Bool (p x)) [
  | inl hit ↦ (x, (0, omega arith, refl), hit)
  | inr miss ↦
      let rest = some_passes p xs (rw miss at is) in
      (rest.0, (suc rest.1.0, (let lt = rest.1.1 in omega (arith, lt)), rest.1.2), rest.2)
]

module _ (m : Meaning) (set : Set) (rows later : List Row) (t : ℕ) (is : later ≡ drop t rows) where
  abbrev test : Rule → Bool
  test rule = fails m rule.formula later

  pub fails_there : list_any test set.constraints ≡ true → FailsAt m set rows t
  fails_there hit =
      let one = some_passes test set.constraints hit in
      let both = and_parts (nat_lt (m.largest one.0.formula) (length later)) (not (holds m one.0.formula later)) one.2 in
      let below = ltb-true (m.largest one.0.formula) (length later) both.0 in
      let long : length later ≡ length rows - t = ap (λ (rs : List Row). length rs) is ∙ length-drop t rows in
      record {
        rule = one.0;
        among = one.1;
        fits = omega (arith, below, long);
        fails = subst (λ (rs : List Row). holds m one.0.formula rs ≡ false) is (not-true (holds m one.0.formula later) both.1);
      }

  pub none_there : list_any test set.constraints ≡ false → FailsAt m set rows t → ⊥
  none_there miss f =
      let long : length later ≡ length rows - t = ap (λ (rs : List Row). length rs) is ∙ length-drop t rows in
      let room = f.fits in
      let below : nat_lt (m.largest f.rule.formula) (length later) ≡ true = lt-ltb (m.largest f.rule.formula) (length later) (omega (arith, room, long)) in
      let broken : not (holds m f.rule.formula later) ≡ true = ap not (ap (λ (rs : List Row). holds m f.rule.formula rs) is ∙ f.fails) in
      let here : test f.rule ≡ true = and_from (nat_lt (m.largest f.rule.formula) (length later)) (not (holds m f.rule.formula later)) below broken in
      let hit = list_any_at test set.constraints f.among.0 f.rule f.among.1 (ap test f.among.2 ∙ here) in
      absurd (let no : true ≡ false = sym hit ∙ miss in cc)

-- none fails up to this cycle
pub none_more : (m : Meaning) (set : Set) (rows : List Row) (t : ℕ) → ((s : ℕ) → s < t → FailsAt m set rows s → ⊥) → (FailsAt m set rows t → ⊥) → (s : ℕ) → s < t + 1 → FailsAt m set rows s → ⊥
none_more m set rows t before here s lt f = elim (cases_lt s t) [
  | inl less ↦ before s less f
  | inr more ↦ here (subst (λ k. FailsAt m set rows k) (let e : s ≡ t = omega (arith, lt, more) in e) f)
]

-- none fails at all
pub none_unmet : (m : Meaning) (set : Set) (rows : List Row) (t : ℕ) → length rows ≤ t → ((s : ℕ) → s < t → FailsAt m set rows s → ⊥) → (s : ℕ) → FailsAt m set rows s → ⊥
none_unmet m set rows t most before s f = let room = f.fits in before s (omega (arith, most, room)) f
