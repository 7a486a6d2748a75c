-- A gate for each bit.
use Rattle.std.proofs.Common.{◌≡◌, ℕ, suc, ◌+◌, ◌*◌, ◌^◌, Bool, true, false, List, [], ◌∷◌, length, refl, ap, ◌∙◌, arith, bit_and, bit_or}
use Rattle.std.specs.Prelude.{not, ◌&&◌, map, if◌then◌else◌, replicate, bit_xor}
use Rattle.std.proofs.lemmas.Nat.{and_block, or_block, xor_block}
use Rattle.clause_check.specs.declared.literal.Lit.{Lit}
use Rattle.clause_check.specs.Clauses.{negated}
use Rattle.cnf_build.specs.Literals.{holds}
use Rattle.cnf_build.specs.declared.gates.Gate.{Gate}
use Rattle.cnf_build.specs.declared.gates.Gate.TheVariants.{And, Xor, Mux}
use Rattle.cnf_build.specs.Gates.{Runs, xor}
use Rattle.cnf_build.specs.Circuits.{bit, number, row_lits, zip_gates, nor_gate}
use Rattle.cnf_build.proofs.Numbers.{holds-negated, bit-lt}

pub length-row_lits : (n : ℕ) (gs : List Gate) → length (row_lits n gs) ≡ length gs
length-row_lits n [] = refl
length-row_lits n (g ∷ gs) = ap suc (length-row_lits (suc n) gs)

pub length-zip_gates : (f : Lit → Lit → Gate) (xs ys : List Lit) → length xs ≡ length ys → length (zip_gates f xs ys) ≡ length xs
length-zip_gates f [] ys e = refl
length-zip_gates f (x ∷ xs) [] e = omega arith
length-zip_gates f (x ∷ xs) (y ∷ ys) e = ap suc (length-zip_gates f xs ys (omega arith))

-- a word from its lowest bit and the others
and_step : (a b : Bool) (m n : ℕ) → bit (a && b) + 2 * bit_and m n ≡ bit_and (bit a + 2 * m) (bit b + 2 * n)
and_step a b m n =
    let ea : bit a + 2 * m ≡ m * 2 ^ 1 + bit a = omega arith in
    let eb : bit b + 2 * n ≡ n * 2 ^ 1 + bit b = omega arith in
    rw (ea, eb, and_block 1 m n (bit a) (bit b) (bit-lt a) (bit-lt b)) (omega (arith, low a b))
  where
    low : (p q : Bool) → bit_and (bit p) (bit q) ≡ bit (p && q)
    low true true = refl
    low true false = refl
    low false true = refl
    low false false = refl

or_step : (a b : Bool) (m n : ℕ) → bit (not (not a && not b)) + 2 * bit_or m n ≡ bit_or (bit a + 2 * m) (bit b + 2 * n)
or_step a b m n =
    let ea : bit a + 2 * m ≡ m * 2 ^ 1 + bit a = omega arith in
    let eb : bit b + 2 * n ≡ n * 2 ^ 1 + bit b = omega arith in
    rw (ea, eb, or_block 1 m n (bit a) (bit b) (bit-lt a) (bit-lt b)) (omega (arith, low a b))
  where
    low : (p q : Bool) → bit_or (bit p) (bit q) ≡ bit (not (not p && not q))
    low true true = refl
    low true false = refl
    low false true = refl
    low false false = refl

xor_step : (a b : Bool) (m n : ℕ) → bit (xor a b) + 2 * bit_xor m n ≡ bit_xor (bit a + 2 * m) (bit b + 2 * n)
xor_step a b m n =
    let ea : bit a + 2 * m ≡ m * 2 ^ 1 + bit a = omega arith in
    let eb : bit b + 2 * n ≡ n * 2 ^ 1 + bit b = omega arith in
    rw (ea, eb, xor_block 1 m n (bit a) (bit b) (bit-lt a) (bit-lt b)) (omega (arith, low a b))
  where
    low : (p q : Bool) → bit_xor (bit p) (bit q) ≡ bit (xor p q)
    low true true = refl
    low true false = refl
    low false true = refl
    low false false = refl

pub and_ands : (s : ℕ → Bool) (n : ℕ) (xs ys : List Lit) → length xs ≡ length ys → Runs s n (zip_gates And xs ys) → number s (row_lits n (zip_gates And xs ys)) ≡ bit_and (number s xs) (number s ys)
and_ands s n [] [] e r = refl
and_ands s n [] (y ∷ ys) e r = omega arith
and_ands s n (x ∷ xs) [] e r = omega arith
and_ands s n (x ∷ xs) (y ∷ ys) e r =
    rw (r.0, and_ands s (suc n) xs ys (omega arith) r.1) (and_step (holds s x) (holds s y) (number s xs) (number s ys))

pub xor_xors : (s : ℕ → Bool) (n : ℕ) (xs ys : List Lit) → length xs ≡ length ys → Runs s n (zip_gates Xor xs ys) → number s (row_lits n (zip_gates Xor xs ys)) ≡ bit_xor (number s xs) (number s ys)
xor_xors s n [] [] e r = refl
xor_xors s n [] (y ∷ ys) e r = omega arith
xor_xors s n (x ∷ xs) [] e r = omega arith
xor_xors s n (x ∷ xs) (y ∷ ys) e r =
    rw (r.0, xor_xors s (suc n) xs ys (omega arith) r.1) (xor_step (holds s x) (holds s y) (number s xs) (number s ys))

pub or_ors : (s : ℕ → Bool) (n : ℕ) (xs ys : List Lit) → length xs ≡ length ys → Runs s n (zip_gates nor_gate xs ys) → number s (map negated (row_lits n (zip_gates nor_gate xs ys))) ≡ bit_or (number s xs) (number s ys)
or_ors s n [] [] e r = refl
or_ors s n [] (y ∷ ys) e r = omega arith
or_ors s n (x ∷ xs) [] e r = omega arith
or_ors s n (x ∷ xs) (y ∷ ys) e r =
    let value : s n ≡ (not (holds s x) && not (holds s y)) = r.0 ∙ ap (λ b. b && holds s (negated y)) (holds-negated s x) ∙ ap (λ b. not (holds s x) && b) (holds-negated s y) in
    rw (value, or_ors s (suc n) xs ys (omega arith) r.1) (or_step (holds s x) (holds s y) (number s xs) (number s ys))

pub mux_picks : (s : ℕ → Bool) (n : ℕ) (c : Lit) (xs ys : List Lit) → length xs ≡ length ys → Runs s n (zip_gates (Mux c) xs ys) → number s (row_lits n (zip_gates (Mux c) xs ys)) ≡ (if holds s c then number s xs else number s ys)
mux_picks s n c [] [] e r = same (holds s c)
  where
    same : (b : Bool) → number s [] ≡ (if b then number s [] else number s [])
    same true = refl
    same false = refl
mux_picks s n c [] (y ∷ ys) e r = omega arith
mux_picks s n c (x ∷ xs) [] e r = omega arith
mux_picks s n c (x ∷ xs) (y ∷ ys) e r =
    rw (r.0, mux_picks s (suc n) c xs ys (omega arith) r.1) (step (holds s c) (holds s x) (holds s y) (number s xs) (number s ys))
  where
    step : (b p q : Bool) (m k : ℕ) → bit (if b then p else q) + 2 * (if b then m else k) ≡ (if b then bit p + 2 * m else (bit q + 2 * k))
    step true p q m k = refl
    step false p q m k = refl

-- a word and-ed with one bit
pub part_is : (s : ℕ → Bool) (n : ℕ) (xs : List Lit) (b : Lit) → Runs s n (zip_gates And xs (replicate (length xs) b)) → number s (row_lits n (zip_gates And xs (replicate (length xs) b))) ≡ bit (holds s b) * number s xs
part_is s n [] b r = omega arith
part_is s n (x ∷ xs) b r =
    let low : bit (holds s x && holds s b) ≡ bit (holds s b) * bit (holds s x) = step (holds s x) (holds s b) in
    let here : bit (s n) ≡ bit (holds s x && holds s b) = ap bit r.0 in
    omega (arith, low, here, part_is s (suc n) xs b r.1)
  where
    step : (p q : Bool) → bit (p && q) ≡ bit q * bit p
    step true true = refl
    step true false = refl
    step false true = refl
    step false false = refl
