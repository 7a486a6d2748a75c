-- Where a property ends.
use Rattle.std.proofs.Common.{◌≡◌, ℕ, zero, suc, ◌+◌, ◌-◌, ◌<◌, ◌≤◌, Bool, true, false, not, List, drop, refl, sym, ap, ◌∙◌, subst, arith, Option, Some, None, inl, inr}
use Rattle.std.specs.Prelude.{◌&&◌, ◌||◌, ◌==◌}
use Rattle.std.proofs.lemmas.Bool.{cases_Bool, cases_lt, eqb-true, eq-eqb}
use Rattle.vlog_tree.specs.declared.expr.Expr.{Expr}
use Rattle.set_tree.specs.declared.set.Length.{Length}
use Rattle.set_tree.specs.declared.set.Set.{Set}
use Rattle.set_tree.specs.Meaning.{Row, Meaning, holds, all_hold}
use Rattle.set_tree.specs.Parts.{property_at, assumed, first_offset, end_until}
use Rattle.twin_tests_laws.specs.Tests.{any_from, is_number}

-- the assumption of an operation
pub assumed_later : (m : Meaning) (set : Set) (p : ℕ) (rows : List Row) → 0 < p → all_hold m (property_at set p).assume rows ≡ assumed m set p rows
assumed_later m set zero rows lt = absurd (omega arith)
assumed_later m set (suc i) rows lt = refl

-- one more of the numbers from n on
pub any_more : (n k : ℕ) (p : ℕ → Bool) → (any_from n k p || p (n + k)) ≡ any_from n (k + 1) p
any_more n k p = let next : k + 1 ≡ suc k = omega arith in rw next (at n k)
  where
    joined : (a b c : Bool) → ((a || b) || c) ≡ (a || (b || c))
    joined true b c = refl
    joined false b c = refl

    none : (a : Bool) → a ≡ (a || false)
    none true = refl
    none false = refl

    at : (n k : ℕ) → (any_from n k p || p (n + k)) ≡ any_from n (suc k) p
    at n zero = let here : n + 0 ≡ n = omega arith in rw here (none (p n))
    at n (suc k) =
        let here : n + suc k ≡ suc n + k = omega arith in
        joined (p n) (any_from (suc n) k p) (p (n + suc k)) ∙ ap (λ (b : Bool). p n || b) (ap (λ (j : ℕ). any_from (suc n) k p || p j) here ∙ at (suc n) k)

pub any_none : (n k : ℕ) (p : ℕ → Bool) → k ≡ 0 → false ≡ any_from n k p
any_none n k p is = rw is refl

pub any_same : (n k j : ℕ) (p : ℕ → Bool) → k ≡ j → any_from n k p ≡ any_from n j p
any_same n k j p is = ap (λ (i : ℕ). any_from n i p) is

pub any_next : (n t : ℕ) (p : ℕ → Bool) → n ≤ t → (any_from n (t - n) p || p t) ≡ any_from n (t + 1 - n) p
any_next n t p le =
    let place : n + (t - n) ≡ t = omega arith in
    let count : t - n + 1 ≡ t + 1 - n = omega arith in
    ap (λ (j : ℕ). any_from n (t - n) p || p j) (sym place) ∙ (any_more n (t - n) p ∙ ap (λ (k : ℕ). any_from n k p) count)

module _ (m : Meaning) (e : Expr) (rows : List Row) where
  later_offset : (n k i : ℕ) → i < n → is_number (first_offset m e rows n k) i ≡ false
  later_offset n zero i lt = refl
  later_offset n (suc k) i lt = elim (cases_Bool (holds m e (drop n rows))) [
    | inl hit ↦ rw hit (elim (cases_Bool (n == i)) [ inl same ↦ absurd (let is : n ≡ i = eqb-true n i same in omega (arith, is, lt)) | inr other ↦ other ])
    | inr miss ↦ rw miss (later_offset (suc n) k i (omega arith))
  ]

  other_number : (n i : ℕ) → n < i → (n == i) ≡ false
  other_number n i lt = elim (cases_Bool (n == i)) [ inl same ↦ absurd (let is : n ≡ i = eqb-true n i same in omega (arith, is, lt)) | inr other ↦ other ]

  -- the first of the offsets from n on at which the formula holds is i
  pub first_is : (n k i : ℕ) → n ≤ i → i < n + k → (not (any_from n (i - n) (λ t. holds m e (drop t rows))) && holds m e (drop i rows)) ≡ is_number (first_offset m e rows n k) i
  first_is n zero i low high = absurd (omega arith)
  first_is n (suc k) i low high = elim (cases_lt n i) [
    | inl more ↦
        let gap : i - n ≡ suc (i - suc n) = omega arith in
        rw gap (elim (cases_Bool (holds m e (drop n rows))) [ inl hit ↦ rw hit (sym (other_number n i more)) | inr miss ↦ rw miss (first_is (suc n) k i more (omega arith)) ])
    | inr less ↦
        let is : i ≡ n = omega arith in
        let gap : n - n ≡ 0 = omega arith in
        rw is (rw gap (elim (cases_Bool (holds m e (drop n rows))) [ inl hit ↦ rw hit (sym (eq-eqb n n refl)) | inr miss ↦ rw miss (sym (later_offset (suc n) k n (omega arith))) ]))
  ]

-- a fixed length ends there alone
pub fixed_end : (m : Meaning) (span : Length) (until : Option Expr) (rows : List Row) (n : ℕ) → until ≡ None → span.low ≡ n → true ≡ is_number (end_until m span until rows) n
fixed_end m span None rows n is low = sym (eq-eqb span.low n low)
fixed_end m span (Some e) rows n is low = absurd (let clash : Some e ≡ None = is in cc)

pub until_end : (m : Meaning) (span : Length) (until : Option Expr) (e : Expr) (rows : List Row) (n : ℕ) → until ≡ Some e → span.low ≤ n → n ≤ span.high → (not (any_from span.low (n - span.low) (λ t. holds m e (drop t rows))) && holds m e (drop n rows)) ≡ is_number (end_until m span until rows) n
until_end m span None e rows n is low high = absurd (let clash : None ≡ Some e = is in cc)
until_end m span (Some x) e rows n is low high =
    let same : x ≡ e = cc in
    subst (λ (y : Expr). (not (any_from span.low (n - span.low) (λ t. holds m e (drop t rows))) && holds m e (drop n rows)) ≡ is_number (end_until m span (Some y) rows) n) (sym same) (first_is m e rows span.low (suc span.high - span.low) n low (omega arith))

pub until_end_at : (m : Meaning) (span : Length) (until : Option Expr) (e : Expr) (rows : List Row) (n low : ℕ) → low ≡ span.low → until ≡ Some e → span.low ≤ n → n ≤ span.high → (not (any_from low (n - low) (λ t. holds m e (drop t rows))) && holds m e (drop n rows)) ≡ is_number (end_until m span until rows) n
until_end_at m span until e rows n low is some least most =
    subst (λ (l : ℕ). (not (any_from l (n - l) (λ t. holds m e (drop t rows))) && holds m e (drop n rows)) ≡ is_number (end_until m span until rows) n) (sym is) (until_end m span until e rows n some least most)
