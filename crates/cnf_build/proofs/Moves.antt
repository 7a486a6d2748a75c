-- Words moved by a number of bits.
use Rattle.std.proofs.Common.{◌≡◌, ℕ, zero, suc, ◌+◌, ◌-◌, ◌*◌, ◌/◌, ◌%◌, ◌^◌, ◌<◌, ◌≤◌, min, Bool, true, false, List, [], ◌∷◌, ◌++◌, length, take, drop, refl, sym, ap, ◌∙◌, subst, arith, inl, inr, length-append, length-take, length-drop, length-take-le}
use Rattle.std.specs.Prelude.{not, map, replicate, ◌⊎◌}
use Rattle.std.proofs.Math.Nat.{div-eq_of_lt, pow-le-pow_right, mul-mod_left}
use Rattle.std.proofs.lemmas.List.{length-replicate}
use Rattle.std.proofs.lemmas.Nat.{mul-le, pow-add, pow_pos, shr_high, mod_low}
use Rattle.clause_check.specs.declared.literal.Lit.{Lit}
use Rattle.clause_check.specs.Clauses.{negated}
use Rattle.cnf_build.specs.Literals.{holds}
use Rattle.cnf_build.specs.Circuits.{bit, number, false_lit, moved_up, moved_down}
use Rattle.cnf_build.proofs.Numbers.{number-append, number-lt, number-none, number-cut, holds-negated}

le_or_lt : (m n : ℕ) → (m ≤ n) ⊎ (n < m)
le_or_lt m n = grind arith

pub number-drop : (s : ℕ → Bool) (k : ℕ) (xs : List Lit) → number s (drop k xs) ≡ number s xs / 2 ^ k
number-drop s k xs = elim (le_or_lt k (length xs)) [ inl le ↦ within le | inr lt ↦ past lt ]
  where
    within : k ≤ length xs → number s (drop k xs) ≡ number s xs / 2 ^ k
    within le =
        let small : number s (take k xs) < 2 ^ k = subst (λ n. number s (take k xs) < 2 ^ n) (length-take-le k xs le) (number-lt s (take k xs)) in
        let cut : number s xs ≡ number s (drop k xs) * 2 ^ k + number s (take k xs) = omega (arith, number-cut s k xs le) in
        rw cut (sym (shr_high (number s (drop k xs)) k (number s (take k xs)) small))

    gone : (j : ℕ) (ys : List Lit) → length ys < j → number s (drop j ys) ≡ 0
    gone zero ys lt = absurd (omega arith)
    gone (suc j) [] lt = refl
    gone (suc j) (y ∷ ys) lt = gone j ys (omega arith)

    past : length xs < k → number s (drop k xs) ≡ number s xs / 2 ^ k
    past lt =
        let grows : 2 ^ length xs ≤ 2 ^ k = pow-le-pow_right (omega arith) (omega arith) in
        gone k xs lt ∙ sym (div-eq_of_lt (omega (arith, number-lt s xs)))

pub number-take : (s : ℕ → Bool) (k : ℕ) (xs : List Lit) → k ≤ length xs → number s (take k xs) ≡ number s xs % 2 ^ k
number-take s k xs le =
    let small : number s (take k xs) < 2 ^ k = subst (λ n. number s (take k xs) < 2 ^ n) (length-take-le k xs le) (number-lt s (take k xs)) in
    let cut : number s xs ≡ number s (drop k xs) * 2 ^ k + number s (take k xs) = omega (arith, number-cut s k xs le) in
    rw cut (sym (mod_low (number s (drop k xs)) k (number s (take k xs)) small))

pub length-moved_up : (k : ℕ) (xs : List Lit) → length (moved_up k xs) ≡ length xs
length-moved_up k xs =
    omega (arith, length-append (replicate (min k (length xs)) false_lit) (take (length xs - k) xs), length-replicate (min k (length xs)) false_lit, length-take (length xs - k) xs)

pub length-moved_down : (k : ℕ) (fill : Lit) (xs : List Lit) → length (moved_down k fill xs) ≡ length xs
length-moved_down k fill xs =
    omega (arith, length-append (drop k xs) (replicate (min k (length xs)) fill), length-replicate (min k (length xs)) fill, length-drop k xs)

pub number-moved_up : (s : ℕ → Bool) (k : ℕ) (xs : List Lit) → s 0 ≡ true → number s (moved_up k xs) ≡ number s xs * 2 ^ k % 2 ^ length xs
number-moved_up s k xs h = elim (le_or_lt k (length xs)) [ inl le ↦ within le | inr lt ↦ past lt ]
  where
    joined : number s (moved_up k xs) ≡ 2 ^ min k (length xs) * number s (take (length xs - k) xs)
    joined =
        let app = number-append s (replicate (min k (length xs)) false_lit) (take (length xs - k) xs) in
        let none = number-none s (min k (length xs)) h in
        let len = length-replicate (min k (length xs)) false_lit in
        let app' = subst (λ n. number s (moved_up k xs) ≡ number s (replicate (min k (length xs)) false_lit) + 2 ^ n * number s (take (length xs - k) xs)) len app in
        omega (arith, app', none)

    within : k ≤ length xs → number s (moved_up k xs) ≡ number s xs * 2 ^ k % 2 ^ length xs
    within le =
        let m = length xs - k in
        let low = number s (take m xs) in
        let high = number s (drop m xs) in
        let mle : m ≤ length xs = omega arith in
        let small : low < 2 ^ m = subst (λ n. low < 2 ^ n) (length-take-le m xs mle) (number-lt s (take m xs)) in
        let pow : 2 ^ length xs ≡ 2 ^ m * 2 ^ k = subst (λ n. 2 ^ n ≡ 2 ^ m * 2 ^ k) (omega arith) (pow-add 2 m k) in
        let cut = number-cut s m xs mle in
        let split : number s xs * 2 ^ k ≡ high * 2 ^ length xs + low * 2 ^ k = omega (arith, ap (λ n. n * 2 ^ k) cut, ap (λ n. high * n) pow) in
        let p = pow_pos k in
        let fits : low * 2 ^ k < 2 ^ length xs = let q : suc low * 2 ^ k ≤ 2 ^ m * 2 ^ k = mul-le (suc low) (2 ^ k) (2 ^ m) (2 ^ k) small (omega arith) in omega (arith, pow) in
        let to : number s (moved_up k xs) ≡ low * 2 ^ k = let e : min k (length xs) ≡ k = omega arith in subst (λ n. number s (moved_up k xs) ≡ low * 2 ^ n) e (omega (arith, joined)) in
        to ∙ sym (ap (λ n. n % 2 ^ length xs) split ∙ mod_low high (length xs) (low * 2 ^ k) fits)

    past : length xs < k → number s (moved_up k xs) ≡ number s xs * 2 ^ k % 2 ^ length xs
    past lt =
        let none : length xs - k ≡ 0 = omega arith in
        let cut : take (length xs - k) xs ≡ [] = ap (λ n. take n xs) none in
        let empty : number s (take (length xs - k) xs) ≡ 0 = ap (number s) cut in
        let pow : 2 ^ k ≡ 2 ^ (k - length xs) * 2 ^ length xs = subst (λ n. 2 ^ n ≡ 2 ^ (k - length xs) * 2 ^ length xs) (omega arith) (pow-add 2 (k - length xs) (length xs)) in
        let times : number s xs * 2 ^ k ≡ (number s xs * 2 ^ (k - length xs)) * 2 ^ length xs = omega (arith, ap (λ n. number s xs * n) pow) in
        let zeros : number s (moved_up k xs) ≡ 0 = omega (arith, joined, ap (λ n. 2 ^ min k (length xs) * n) empty) in
        zeros ∙ sym (ap (λ n. n % 2 ^ length xs) times ∙ mul-mod_left (number s xs * 2 ^ (k - length xs)) (2 ^ length xs))

pub number-moved_down : (s : ℕ → Bool) (k : ℕ) (fill : Lit) (xs : List Lit) → holds s fill ≡ false → number s (moved_down k fill xs) ≡ number s xs / 2 ^ k
number-moved_down s k fill xs off =
    let app = number-append s (drop k xs) (replicate (min k (length xs)) fill) in
    let none : number s (replicate (min k (length xs)) fill) ≡ 0 = zeros (min k (length xs)) in
    omega (arith, app, ap (λ n. 2 ^ length (drop k xs) * n) none, number-drop s k xs)
  where
    zeros : (j : ℕ) → number s (replicate j fill) ≡ 0
    zeros zero = refl
    zeros (suc j) = let z : bit (holds s fill) ≡ 0 = ap bit off in omega (arith, zeros j, z)

-- the number of the negated word
pub rest_of : (ℕ → Bool) → List Lit → ℕ
rest_of s xs = number s (map negated xs)

map-drop : (k : ℕ) (xs : List Lit) → map negated (drop k xs) ≡ drop k (map negated xs)
map-drop zero xs = refl
map-drop (suc k) [] = refl
map-drop (suc k) (x ∷ xs) = map-drop k xs

map-replicate : (k : ℕ) (l : Lit) → map negated (replicate k l) ≡ replicate k (negated l)
map-replicate zero l = refl
map-replicate (suc k) l = ap (λ r. negated l ∷ r) (map-replicate k l)

map-append : (xs ys : List Lit) → map negated (xs ++ ys) ≡ map negated xs ++ map negated ys
map-append [] ys = refl
map-append (x ∷ xs) ys = ap (λ r. negated x ∷ r) (map-append xs ys)

length-negated : (xs : List Lit) → length (map negated xs) ≡ length xs
length-negated [] = refl
length-negated (x ∷ xs) = ap suc (length-negated xs)

-- ones come in where the word moves down: its negation moves down with zeros
pub negated-moved_down : (s : ℕ → Bool) (k : ℕ) (fill : Lit) (xs : List Lit) → holds s fill ≡ true → number s (map negated (moved_down k fill xs)) ≡ number s (map negated xs) / 2 ^ k
negated-moved_down s k fill xs on =
    ap (number s) same ∙ number-moved_down s k (negated fill) (map negated xs) (holds-negated s fill ∙ ap not on)
  where
    same : map negated (moved_down k fill xs) ≡ moved_down k (negated fill) (map negated xs)
    same =
        map-append (drop k xs) (replicate (min k (length xs)) fill) ∙ ap (λ r. r ++ map negated (replicate (min k (length xs)) fill)) (map-drop k xs) ∙ ap (λ r. drop k (map negated xs) ++ r) (map-replicate (min k (length xs)) fill ∙ ap (λ n. replicate (min k n) (negated fill)) (sym (length-negated xs)))
