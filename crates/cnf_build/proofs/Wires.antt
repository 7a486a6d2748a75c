-- Operations that only rearrange literals.
use Rattle.std.proofs.Common.{◌≡◌, ℕ, zero, suc, ◌+◌, ◌-◌, ◌*◌, ◌/◌, ◌%◌, ◌^◌, ◌<◌, ◌≤◌, Bool, true, false, List, ◌++◌, length, take, drop, refl, sym, ap, ◌∙◌, arith, length-drop}
use Rattle.std.specs.Prelude.{not, replicate, if◌then◌else◌, ◌==◌}
use Rattle.std.proofs.Math.Nat.{pow-zero}
use Rattle.std.proofs.lemmas.Nat.{pow-add, pow_pos}
use Rattle.std.proofs.lemmas.Bool.Decides.{nat_tests}
use Rattle.clause_check.specs.declared.literal.Lit.{Lit}
use Rattle.cnf_build.specs.Literals.{holds}
use Rattle.cnf_build.specs.Circuits.{bit, number, true_lit, false_lit, const_lits, top_of}
use Rattle.cnf_build.proofs.Numbers.{twice, number-append, number-none, bit-lt}
use Rattle.cnf_build.proofs.Moves.{number-take, number-drop}
use Rattle.cnf_build.proofs.Comparisons.{double_mod, number-top_of}

pub number-const_lits : (s : ℕ → Bool) (w v : ℕ) → s 0 ≡ true → number s (const_lits w v) ≡ v % 2 ^ w
number-const_lits s zero v h = omega (arith, pow-zero 2)
number-const_lits s (suc w) v h =
    let low : bit (holds s (if v % 2 == 1 then true_lit else false_lit)) ≡ v % 2 = by_test (v % 2 == 1) (v % 2) refl (omega arith) in
    let whole : v % 2 + 2 * (v / 2) ≡ v = omega arith in
    let double : v % 2 + 2 * ((v / 2) % 2 ^ w) ≡ (v % 2 + 2 * (v / 2)) % (2 * 2 ^ w) = double_mod (v % 2) (v / 2) (2 ^ w) (omega arith) (pow_pos w) in
    let ends : (v % 2 + 2 * (v / 2)) % (2 * 2 ^ w) ≡ v % 2 ^ suc w = ap (λ k. k % (2 * 2 ^ w)) whole ∙ ap (λ k. v % k) (sym (twice w)) in
    omega (arith, low, number-const_lits s w (v / 2) h, double, ends)
  where
    by_test : (t : Bool) (m : ℕ) → t ≡ (m == 1) → m < 2 → bit (holds s (if t then true_lit else false_lit)) ≡ m
    by_test true m e lt = let one : m ≡ 1 = grind (arith, nat_tests) in ap bit h ∙ sym one
    by_test false m e lt = let none : m ≡ 0 = grind (arith, nat_tests) in ap (λ b. bit (not b)) h ∙ sym none

pub length-const_lits : (w v : ℕ) → length (const_lits w v) ≡ w
length-const_lits zero v = refl
length-const_lits (suc w) v = ap suc (length-const_lits w (v / 2))

pub number-slice : (s : ℕ → Bool) (lo w : ℕ) (xs : List Lit) → lo + w ≤ length xs → number s (take w (drop lo xs)) ≡ number s xs / 2 ^ lo % 2 ^ w
number-slice s lo w xs le = let long : w ≤ length (drop lo xs) = omega (arith, length-drop lo xs) in number-take s w (drop lo xs) long ∙ ap (λ k. k % 2 ^ w) (number-drop s lo xs)

pub number-zext : (s : ℕ → Bool) (k : ℕ) (xs : List Lit) → s 0 ≡ true → number s (xs ++ replicate k false_lit) ≡ number s xs
number-zext s k xs h =
    omega (arith, number-append s xs (replicate k false_lit), ap (λ j. 2 ^ length xs * j) (number-none s k h))

number-ones : (s : ℕ → Bool) (k : ℕ) (l : Lit) → number s (replicate k l) + bit (holds s l) ≡ bit (holds s l) * 2 ^ k
number-ones s zero l = omega (arith, pow-zero 2)
number-ones s (suc k) l = omega (arith, number-ones s k l, ap (λ j. bit (holds s l) * j) (twice k))

pub number-sext : (s : ℕ → Bool) (k : ℕ) (xs : List Lit) → 0 < length xs → number s (xs ++ replicate k (top_of xs)) ≡ number s xs + number s xs / 2 ^ (length xs - 1) * (2 ^ (length xs + k) - 2 ^ length xs)
number-sext s k xs p =
    let t = top_of xs in
    let w = length xs in
    by_top (bit (holds s t)) (number s (replicate k t)) (number s xs) (number s (xs ++ replicate k t)) (2 ^ w) (2 ^ k) (2 ^ (w + k)) (bit-lt (holds s t)) (number-append s xs (replicate k t)) (number-ones s k t) (pow-add 2 w k) ∙ ap (λ j. number s xs + j * (2 ^ (w + k) - 2 ^ w)) (number-top_of s xs p)
  where
    by_top : (b m x r v u p : ℕ) → b < 2 → r ≡ x + v * m → m + b ≡ b * u → p ≡ v * u → r ≡ x + b * (p - v)
    by_top zero m x r v u p lt e f g = let none : m ≡ 0 = omega arith in omega (arith, ap (λ j. v * j) none)
    by_top (suc zero) m x r v u p lt e f g = let up : m + 1 ≡ u = omega arith in omega (arith, ap (λ j. v * j) up)
    by_top (suc (suc b)) m x r v u p lt e f g = absurd (omega arith)
