-- The comparison of two words, bit by bit.
use Rattle.std.proofs.Common.{◌≡◌, ℕ, suc, ◌+◌, ◌*◌, Bool, true, false, List, [], ◌∷◌, length, refl, sym, ap, ◌∙◌, arith}
use Rattle.std.specs.Prelude.{not, ◌&&◌, ◌==◌}
use Rattle.std.proofs.lemmas.Bool.Decides.{nat_tests}
use Rattle.clause_check.specs.declared.literal.Lit.{Lit}
use Rattle.cnf_build.specs.Literals.{plus, holds}
use Rattle.cnf_build.specs.Gates.{Runs, xor}
use Rattle.cnf_build.specs.Circuits.{bit, number, equal_from}

same_both : (m n : ℕ) (k : ℕ) → (k + 2 * m == k + 2 * n) ≡ (m == n)
same_both m n k = grind (arith, nat_tests)

odd_even : (m n : ℕ) → (1 + 2 * m == 0 + 2 * n) ≡ false
odd_even m n = grind (arith, nat_tests)

even_odd : (m n : ℕ) → (0 + 2 * m == 1 + 2 * n) ≡ false
even_odd m n = grind (arith, nat_tests)

eq_step : (a b : Bool) (m n : ℕ) → (not (xor a b) && (m == n)) ≡ (bit a + 2 * m == bit b + 2 * n)
eq_step true true m n = sym (same_both m n 1)
eq_step true false m n = sym (odd_even m n)
eq_step false true m n = sym (even_odd m n)
eq_step false false m n = sym (same_both m n 0)

and_assoc : (a b c : Bool) → ((a && b) && c) ≡ (a && (b && c))
and_assoc true b c = refl
and_assoc false b c = refl

and_true : (a : Bool) → (a && true) ≡ a
and_true true = refl
and_true false = refl

pub equal_compares : (s : ℕ → Bool) (n : ℕ) (acc : Lit) (xs ys : List Lit) → length xs ≡ length ys → Runs s n (equal_from n acc xs ys).gates → holds s (equal_from n acc xs ys).lit ≡ (holds s acc && (number s xs == number s ys))
equal_compares s n acc [] [] e r = sym (and_true (holds s acc))
equal_compares s n acc [] (y ∷ ys) e r = absurd (omega arith)
equal_compares s n acc (x ∷ xs) [] e r = absurd (omega arith)
equal_compares s n acc (x ∷ xs) (y ∷ ys) e r =
    let here : s (suc n) ≡ (holds s acc && not (xor (holds s x) (holds s y))) = r.1.0 ∙ ap (λ b. holds s acc && not b) r.0 in
    equal_compares s (suc (suc n)) (plus (suc n)) xs ys (omega arith) r.1.1 ∙ ap (λ b. b && (number s xs == number s ys)) here ∙ and_assoc (holds s acc) (not (xor (holds s x) (holds s y))) (number s xs == number s ys) ∙ ap (λ b. holds s acc && b) (eq_step (holds s x) (holds s y) (number s xs) (number s ys))
