-- Adders add.
use Rattle.std.proofs.Common.{◌≡◌, ℕ, suc, ◌+◌, ◌*◌, ◌^◌, Bool, true, false, List, [], ◌∷◌, length, refl, ap, arith}
use Rattle.std.specs.Prelude.{not, ◌&&◌}
use Rattle.std.proofs.Math.Nat.{pow-zero}
use Rattle.clause_check.specs.declared.literal.Lit.{Lit}
use Rattle.cnf_build.specs.Literals.{minus, holds}
use Rattle.cnf_build.specs.Gates.{Runs, xor}
use Rattle.cnf_build.specs.Circuits.{bit, number, adder}
use Rattle.cnf_build.proofs.Numbers.{twice}

-- one bit of a sum
full : (a b c : Bool) → bit (xor (xor a b) c) + 2 * bit (not (not (a && b) && not (xor a b && c))) ≡ bit a + bit b + bit c
full true true true = refl
full true true false = refl
full true false true = refl
full true false false = refl
full false true true = refl
full false true false = refl
full false false true = refl
full false false false = refl

full_bit : (a b c x sum both through none : Bool) → x ≡ xor a b → sum ≡ xor x c → both ≡ (a && b) → through ≡ (x && c) → none ≡ (not both && not through) → bit sum + 2 * bit (not none) ≡ bit a + bit b + bit c
full_bit a b c x sum both through none ex es eb et en =
    rw (en, eb, et, es, ex) (full a b c)

pub adder_adds : (s : ℕ → Bool) (n : ℕ) (c : Lit) (xs ys : List Lit) → length xs ≡ length ys → Runs s n (adder n c xs ys).gates → number s (adder n c xs ys).lits + 2 ^ length xs * bit (holds s (adder n c xs ys).carry) ≡ number s xs + number s ys + bit (holds s c)
adder_adds s n c [] [] e r = omega (arith, pow-zero 2)
adder_adds s n c [] (y ∷ ys) e r = omega arith
adder_adds s n c (x ∷ xs) [] e r = omega arith
adder_adds s n c (x ∷ xs) (y ∷ ys) e r =
    let out = suc (suc (suc (suc n))) in
    let one = full_bit (holds s x) (holds s y) (holds s c) (s n) (s (suc n)) (s (suc (suc n))) (s (suc (suc (suc n)))) (s out) r.0 r.1.0 r.1.1.0 r.1.1.1.0 r.1.1.1.1.0 in
    let rest = adder_adds s (suc out) (minus out) xs ys (omega arith) r.1.1.1.1.1 in
    let tw = ap (λ k. k * bit (holds s (adder (suc out) (minus out) xs ys).carry)) (twice (length xs)) in
    omega (arith, one, rest, tw)

pub length-adder : (n : ℕ) (c : Lit) (xs ys : List Lit) → length xs ≡ length ys → length (adder n c xs ys).lits ≡ length xs
length-adder n c [] ys e = refl
length-adder n c (x ∷ xs) [] e = omega arith
length-adder n c (x ∷ xs) (y ∷ ys) e = let rest = length-adder (suc (suc (suc (suc (suc n))))) (minus (suc (suc (suc (suc n))))) xs ys (omega arith) in omega arith
