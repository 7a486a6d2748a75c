-- The number of a list of literals: joined, cut, negated.
use Rattle.std.proofs.Common.{◌≡◌, ℕ, zero, suc, ◌+◌, ◌*◌, ◌^◌, ◌<◌, ◌≤◌, Bool, true, false, List, [], ◌∷◌, ◌++◌, length, take, drop, refl, ap, arith}
use Rattle.std.specs.Prelude.{not, map, replicate, if◌then◌else◌}
use Rattle.std.proofs.Math.Nat.{pow-suc, pow-zero}
use Rattle.clause_check.specs.declared.literal.Lit.{Lit}
use Rattle.clause_check.specs.Clauses.{negated}
use Rattle.cnf_build.specs.Literals.{holds}
use Rattle.cnf_build.specs.Circuits.{bit, number, false_lit}

-- 2 ^ (k + 1), for omega
pub twice : (k : ℕ) → 2 ^ suc k ≡ 2 * 2 ^ k
twice k = omega (arith, pow-suc 2 k)

pub bit-lt : (b : Bool) → bit b < 2
bit-lt true = omega arith
bit-lt false = omega arith

pub number-append : (s : ℕ → Bool) (xs ys : List Lit) → number s (xs ++ ys) ≡ number s xs + 2 ^ length xs * number s ys
number-append s [] ys = omega (arith, pow-zero 2)
number-append s (x ∷ xs) ys =
    let tw = ap (λ k. k * number s ys) (twice (length xs)) in
    omega (arith, number-append s xs ys, tw)

pub number-lt : (s : ℕ → Bool) (xs : List Lit) → number s xs < 2 ^ length xs
number-lt s [] = omega (arith, pow-zero 2)
number-lt s (x ∷ xs) = omega (arith, number-lt s xs, twice (length xs), bit-lt (holds s x))

pub holds-negated : (s : ℕ → Bool) (l : Lit) → holds s (negated l) ≡ not (holds s l)
holds-negated s l = by_sign l.negative (s l.var)
  where
    by_sign : (b v : Bool) → (if not b then not v else v) ≡ not (if b then not v else v)
    by_sign true true = refl
    by_sign true false = refl
    by_sign false true = refl
    by_sign false false = refl

pub bit-not : (b : Bool) → bit (not b) + bit b ≡ 1
bit-not true = refl
bit-not false = refl

pub number-negated : (s : ℕ → Bool) (xs : List Lit) → number s (map negated xs) + number s xs + 1 ≡ 2 ^ length xs
number-negated s [] = omega (arith, pow-zero 2)
number-negated s (x ∷ xs) =
    omega (arith, number-negated s xs, twice (length xs), bit-not (holds s x), ap bit (holds-negated s x))

pub number-none : (s : ℕ → Bool) (k : ℕ) → s 0 ≡ true → number s (replicate k false_lit) ≡ 0
number-none s zero h = refl
number-none s (suc k) h = let off : bit (not (s 0)) ≡ 0 = ap (λ b. bit (not b)) h in omega (arith, number-none s k h, off)

pub number-cut : (s : ℕ → Bool) (k : ℕ) (xs : List Lit) → k ≤ length xs → number s xs ≡ number s (take k xs) + 2 ^ k * number s (drop k xs)
number-cut s zero xs le = omega (arith, pow-zero 2)
number-cut s (suc k) [] le = omega arith
number-cut s (suc k) (x ∷ xs) le =
    let tw = ap (λ n. n * number s (drop k xs)) (twice k) in
    omega (arith, number-cut s k xs (omega arith), tw)
