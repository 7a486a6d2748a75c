-- Numbers of so many bits, and their top bit.
use Rattle.std.proofs.Common.{◌≡◌, ℕ, ◌+◌, ◌-◌, ◌*◌, ◌/◌, ◌%◌, ◌^◌, ◌<◌, ◌≤◌, Bool, true, false, inl, inr, ◌⊎◌, ⊎_elim, ◌∙◌, refl, subst, arith}
use Rattle.std.specs.Prelude.{nat_le, if◌then◌else◌}
use Rattle.std.proofs.Math.Nat.{div-eq_of_lt, mod-eq_of_lt, mul-add-mod_self_right}
use Rattle.std.proofs.lemmas.Nat.{pow-add, div-mul-add}
use Rattle.std.proofs.lemmas.Bool.{leb-true, leb-false}

pub bool_cases : (b : Bool) → (b ≡ true) ⊎ (b ≡ false)
bool_cases true = inl refl
bool_cases false = inr refl

-- 2 ^ n is twice 2 ^ (n - 1)
pub twice : (n : ℕ) → 0 < n → 2 ^ n ≡ 2 ^ (n - 1) + 2 ^ (n - 1)
twice n p =
    let e : (n - 1) + 1 ≡ n = omega arith in
    let h : 2 ^ ((n - 1) + 1) ≡ 2 ^ (n - 1) * 2 ^ 1 = pow-add 2 (n - 1) 1 in
    let h' : 2 ^ n ≡ 2 ^ (n - 1) * 2 ^ 1 = subst (λ k. 2 ^ k ≡ 2 ^ (n - 1) * 2 ^ 1) e h in
    omega arith

-- the top bit of a number below 2 * h, as a quotient
quotient_one : (x h : ℕ) → h ≤ x → x < h + h → x / h ≡ 1
quotient_one x h le lt =
    let e : 1 * h + (x - h) ≡ x = omega arith in
    subst (λ k. k / h ≡ 1) e (div-mul-add 1 h (x - h) (omega arith))

pub top_bit : (x h : ℕ) → x < h + h → x / h ≡ (if nat_le h x then 1 else 0)
top_bit x h lt =
    ⊎_elim
    (λ (e : nat_le h x ≡ true). rw e (quotient_one x h (leb-true h x e) lt))
    (λ (e : nat_le h x ≡ false). rw e (div-eq_of_lt (leb-false h x e)))
    (bool_cases (nat_le h x))

-- so many bits come in, or none
pub top_times : (x h k : ℕ) → x < h + h → x / h * k ≡ (if nat_le h x then k else 0)
top_times x h k lt = rw (top_bit x h lt) (times (nat_le h x) k)
  where
    times : (b : Bool) (k : ℕ) → (if b then 1 else 0) * k ≡ (if b then k else 0)
    times true k = omega arith
    times false k = omega arith

pub low_of : (x h : ℕ) → x < h → (x + h) % (h + h) ≡ x + h
low_of x h lt = mod-eq_of_lt (omega arith)

pub high_of : (x h : ℕ) → h ≤ x → x < h + h → (x + h) % (h + h) ≡ x - h
high_of x h le lt =
    let e : 1 * (h + h) + (x - h) ≡ x + h = omega arith in
    let small : x - h < h + h = omega arith in
    subst (λ k. k % (h + h) ≡ x - h) e (mul-add-mod_self_right 1 (h + h) (x - h) ∙ mod-eq_of_lt small)
