-- Differences and comparisons by the carry.
use Rattle.std.proofs.Common.{◌≡◌, ℕ, suc, ◌+◌, ◌-◌, ◌*◌, ◌/◌, ◌%◌, ◌^◌, ◌<◌, ◌≤◌, Bool, true, false, List, [], ◌∷◌, length, refl, sym, ap, ◌∙◌, subst, arith, nat_lt}
use Rattle.std.specs.Prelude.{not, map}
use Rattle.std.proofs.Math.Nat.{mod-eq_of_lt, add-mul-mod_self_left}
use Rattle.std.proofs.lemmas.Nat.{pow_pos, shr-shr}
use Rattle.std.proofs.lemmas.Bool.Decides.{nat_tests}
use Rattle.clause_check.specs.declared.literal.Lit.{Lit}
use Rattle.clause_check.specs.Clauses.{negated}
use Rattle.cnf_build.specs.Literals.{holds}
use Rattle.cnf_build.specs.Gates.{Runs}
use Rattle.cnf_build.specs.Circuits.{bit, number, adder, subtractor, true_lit, top_turned, top_of}
use Rattle.cnf_build.proofs.Numbers.{twice, number-lt, number-negated, bit-lt, holds-negated}
use Rattle.cnf_build.proofs.Adders.{adder_adds, length-adder}

pub length-negated : (xs : List Lit) → length (map negated xs) ≡ length xs
length-negated [] = refl
length-negated (x ∷ xs) = ap suc (length-negated xs)

-- a difference and the carry that goes out: the carry says that nothing was borrowed
pub difference : (s : ℕ → Bool) (n : ℕ) (xs ys : List Lit) → s 0 ≡ true → length xs ≡ length ys → Runs s n (subtractor n xs ys).gates → number s (subtractor n xs ys).lits + 2 ^ length xs * bit (holds s (subtractor n xs ys).carry) ≡ number s xs + (2 ^ length xs - number s ys)
difference s n xs ys h e r =
    let on : bit (s 0) ≡ 1 = ap bit h in
    let same : 2 ^ length xs ≡ 2 ^ length ys = ap (λ k. 2 ^ k) e in
    let long : length xs ≡ length (map negated ys) = e ∙ sym (length-negated ys) in
    omega (arith, adder_adds s n true_lit xs (map negated ys) long r, number-negated s ys, on, same)

pub length-subtractor : (n : ℕ) (xs ys : List Lit) → length xs ≡ length ys → length (subtractor n xs ys).lits ≡ length xs
length-subtractor n xs ys e = length-adder n true_lit xs (map negated ys) (e ∙ sym (length-negated ys))

less_by_carry : (a b d w : ℕ) (c : Bool) → a < w → b < w → d < w → d + w * bit c ≡ a + (w - b) → not c ≡ nat_lt a b
less_by_carry a b d w true p q r e = let h : b ≤ a = omega arith in grind (arith, nat_tests)
less_by_carry a b d w false p q r e = let h : a < b = omega arith in grind (arith, nat_tests)

pub subtracts : (s : ℕ → Bool) (n : ℕ) (xs ys : List Lit) → s 0 ≡ true → length xs ≡ length ys → Runs s n (subtractor n xs ys).gates → number s (subtractor n xs ys).lits ≡ (number s xs + (2 ^ length xs - number s ys)) % 2 ^ length xs
subtracts s n xs ys h e r =
    let d = subtractor n xs ys in
    let small : number s d.lits < 2 ^ length xs = subst (λ k. number s d.lits < 2 ^ k) (length-subtractor n xs ys e) (number-lt s d.lits) in
    sym (ap (λ k. k % 2 ^ length xs) (sym (difference s n xs ys h e r)) ∙ add-mul-mod_self_left (number s d.lits) (2 ^ length xs) (bit (holds s d.carry)) ∙ mod-eq_of_lt small)

pub borrows : (s : ℕ → Bool) (n : ℕ) (xs ys : List Lit) → s 0 ≡ true → length xs ≡ length ys → Runs s n (subtractor n xs ys).gates → holds s (negated (subtractor n xs ys).carry) ≡ nat_lt (number s xs) (number s ys)
borrows s n xs ys h e r =
    let d = subtractor n xs ys in
    let small : number s d.lits < 2 ^ length xs = subst (λ k. number s d.lits < 2 ^ k) (length-subtractor n xs ys e) (number-lt s d.lits) in
    let right : number s ys < 2 ^ length xs = subst (λ k. number s ys < 2 ^ k) (sym e) (number-lt s ys) in
    holds-negated s d.carry ∙ less_by_carry (number s xs) (number s ys) (number s d.lits) (2 ^ length xs) (holds s d.carry) (number-lt s xs) right small (difference s n xs ys h e r)

pub adds_mod : (s : ℕ → Bool) (n : ℕ) (c : Lit) (xs ys : List Lit) → length xs ≡ length ys → holds s c ≡ false → Runs s n (adder n c xs ys).gates → number s (adder n c xs ys).lits ≡ (number s xs + number s ys) % 2 ^ length xs
adds_mod s n c xs ys e off r =
    let d = adder n c xs ys in
    let small : number s d.lits < 2 ^ length xs = subst (λ k. number s d.lits < 2 ^ k) (length-adder n c xs ys e) (number-lt s d.lits) in
    let none : bit (holds s c) ≡ 0 = ap bit off in
    let sum : number s xs + number s ys ≡ number s d.lits + 2 ^ length xs * bit (holds s d.carry) = omega (arith, adder_adds s n c xs ys e r, none) in
    sym (ap (λ k. k % 2 ^ length xs) sum ∙ add-mul-mod_self_left (number s d.lits) (2 ^ length xs) (bit (holds s d.carry)) ∙ mod-eq_of_lt small)

-- twice a remainder
pub double_mod : (b x m : ℕ) → b < 2 → 0 < m → b + 2 * (x % m) ≡ (b + 2 * x) % (2 * m)
double_mod b x m p q =
    let r = x % m in
    let small : b + 2 * r < 2 * m = omega arith in
    let split : b + 2 * x ≡ (b + 2 * r) + (2 * m) * (x / m) = omega arith in
    sym (ap (λ k. k % (2 * m)) split ∙ add-mul-mod_self_left (b + 2 * r) (2 * m) (x / m) ∙ mod-eq_of_lt small)

pub length-top_turned : (xs : List Lit) → length (top_turned xs) ≡ length xs
length-top_turned [] = refl
length-top_turned (x ∷ []) = refl
length-top_turned (x ∷ y ∷ xs) = ap suc (length-top_turned (y ∷ xs))

turned_bit : (b : Bool) → bit (not b) ≡ (bit b + 1) % 2
turned_bit true = refl
turned_bit false = refl

pub number-top_turned : (s : ℕ → Bool) (xs : List Lit) → 0 < length xs → number s (top_turned xs) ≡ (number s xs + 2 ^ (length xs - 1)) % 2 ^ length xs
number-top_turned s [] p = absurd (omega arith)
number-top_turned s (x ∷ []) p =
    let one : bit (holds s (negated x)) + 2 * 0 ≡ (bit (holds s x) + 1) % 2 = omega (arith, ap bit (holds-negated s x), turned_bit (holds s x)) in
    let same : (bit (holds s x) + 1) % 2 ≡ (bit (holds s x) + 2 * 0 + 1) % 2 = ap (λ k. k % 2) (omega arith) in
    one ∙ same
number-top_turned s (x ∷ y ∷ xs) p =
    let w = length xs in
    let low = number s (y ∷ xs) in
    let rest = number-top_turned s (y ∷ xs) (omega arith) in
    let one : suc w - 1 ≡ w = omega arith in
    let two : suc (suc w) - 1 ≡ suc w = omega arith in
    let rest' : number s (top_turned (y ∷ xs)) ≡ (low + 2 ^ w) % 2 ^ suc w = rest ∙ ap (λ k. (low + 2 ^ k) % 2 ^ suc w) one in
    let double = double_mod (bit (holds s x)) (low + 2 ^ w) (2 ^ suc w) (bit-lt (holds s x)) (pow_pos (suc w)) in
    let inner : bit (holds s x) + 2 * (low + 2 ^ w) ≡ bit (holds s x) + 2 * low + 2 ^ (suc (suc w) - 1) = omega (arith, twice w, ap (λ k. 2 ^ k) two) in
    let outer : 2 * 2 ^ suc w ≡ 2 ^ suc (suc w) = sym (twice (suc w)) in
    ap (λ k. bit (holds s x) + 2 * k) rest' ∙ double ∙ ap (λ k. k % (2 * 2 ^ suc w)) inner ∙ ap (λ k. (bit (holds s x) + 2 * low + 2 ^ (suc (suc w) - 1)) % k) outer

-- the top bit is the number's high half
pub number-top_of : (s : ℕ → Bool) (xs : List Lit) → 0 < length xs → bit (holds s (top_of xs)) ≡ number s xs / 2 ^ (length xs - 1)
number-top_of s [] p = absurd (omega arith)
number-top_of s (x ∷ []) p = omega arith
number-top_of s (x ∷ y ∷ xs) p =
    let w = length xs in
    let low = number s (y ∷ xs) in
    let rest = number-top_of s (y ∷ xs) (omega arith) in
    let one : suc w - 1 ≡ w = omega arith in
    let two : suc (suc w) - 1 ≡ suc w = omega arith in
    let rest' : bit (holds s (top_of (y ∷ xs))) ≡ low / 2 ^ w = rest ∙ ap (λ k. low / 2 ^ k) one in
    rest' ∙ halved (bit (holds s x)) low w (bit-lt (holds s x)) ∙ ap (λ k. (bit (holds s x) + 2 * low) / 2 ^ k) (sym two)
  where
    halved : (b l w : ℕ) → b < 2 → l / 2 ^ w ≡ (b + 2 * l) / 2 ^ suc w
    halved b l w p =
        let half : (b + 2 * l) / 2 ≡ l = omega arith in
        ap (λ k. k / 2 ^ w) (sym half) ∙ shr-shr (b + 2 * l) 1 w ∙ ap (λ k. (b + 2 * l) / 2 ^ k) (omega arith)
