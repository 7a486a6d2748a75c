-- Digits put one behind the other.
use Rattle.std.proofs.Common.{◌≡◌, ℕ, ◌+◌, ◌*◌, ◌%◌, ◌^◌, ◌<◌, ◌≤◌, ◌==◌, Bool, true, false, List, [], ◌∷◌, length, get_or, drop, if◌then◌else◌, refl, sym, ◌⊎◌, inl, inr, arith, drop-cons, add-one}
use Rattle.std.specs.Prelude.{fold, nat_lt, Some, None}
use Rattle.std.proofs.Math.ListN.{drop_of_length-le}
use Rattle.std.proofs.Math.Nat.{le_trans, mod-eq_of_lt}
use Rattle.std.proofs.lemmas.Bool.{lt-ltb, le-ltb, ltb-true, ltb-false}
use Rattle.std.proofs.Math.Nat.{pow-le-pow_right}
use Rattle.vlog_read_lex.specs.declared.class.Base.{Base}
use Rattle.vlog_read_lex.specs.declared.class.Base.TheVariants as base
use Rattle.vlog_read_lex.specs.Numbers.{put_digit, radix, digit_value, fit}

-- one digit more
pub fold-next : (f : ℕ → ℕ → ℕ) (made : ℕ) (ds : List ℕ) (i : ℕ) → i < length ds
    → fold f made (drop i ds) ≡ fold f (f made (get_or ds i 0)) (drop (i + 1) ds)
fold-next f made ds i lt = rw (drop-cons ds i 0, add-one) refl

pub fold-end : (f : ℕ → ℕ → ℕ) (made : ℕ) (ds : List ℕ) (i : ℕ) → length ds ≤ i → fold f made (drop i ds) ≡ made
fold-end f made ds i le = rw (drop_of_length-le ds le) refl

times_grows : (base : Base) (made d : ℕ) → made ≤ made * radix base + d
times_grows base.Two made d = omega arith
times_grows base.Eight made d = omega arith
times_grows base.Ten made d = omega arith
times_grows base.Sixteen made d = omega arith

put_grows : (base : Base) (made d : ℕ) → made ≤ put_digit base made d
put_grows base made d =
    elim (d == 95) as (λ v. made ≤ (if v then made else made * radix base + digit_value d)) [
      | true ↦ omega arith
      | false ↦ times_grows base made (digit_value d)
    ]

-- more digits make no less
pub fold-grows : (base : Base) (made : ℕ) (ds : List ℕ) → made ≤ fold (put_digit base) made ds
fold-grows base made [] = omega arith
fold-grows base made (d ∷ ds) = le_trans (put_grows base made d) (fold-grows base (put_digit base made d) ds)

pub fit_low : (n : ℕ) → n < 2 ^ 64 → fit n ≡ Some n
unfolding fit
fit_low n h = let t : nat_lt n (2 ^ 64) ≡ true = lt-ltb n (2 ^ 64) h in rw t refl

pub fit_high : (n : ℕ) → 2 ^ 64 ≤ n → fit n ≡ None
unfolding fit
fit_high n h = let t : nat_lt n (2 ^ 64) ≡ false = le-ltb n (2 ^ 64) h in rw t refl

pub lt_or_le : (n m : ℕ) (b : Bool) → nat_lt n m ≡ b → (n < m) ⊎ (m ≤ n)
lt_or_le n m true h = inl (ltb-true n m h)
lt_or_le n m false h = inr (ltb-false n m h)

pub fit_some : (n m : ℕ) → fit n ≡ Some m → n ≡ m
fit_some n m e = elim (lt_or_le n (2 ^ 64) (nat_lt n (2 ^ 64)) refl) [ inl h ↦ let f = fit_low n h in cc | inr h ↦ let f = fit_high n h in cc ]

pub fit_none : (n : ℕ) → fit n ≡ None → 2 ^ 64 ≤ n
fit_none n e = elim (lt_or_le n (2 ^ 64) (nat_lt n (2 ^ 64)) refl) [ inl h ↦ let f = fit_low n h in cc | inr h ↦ h ]

pub cut_whole : (n k : ℕ) → n < 2 ^ 64 → 64 ≤ k → n ≡ n % 2 ^ k
cut_whole n k lt le = sym (mod-eq_of_lt (let p : 2 ^ 64 ≤ 2 ^ k = pow-le-pow_right (omega arith) le in omega (arith, p)))

pub fit_small : (n m : ℕ) → fit n ≡ Some m → m < 2 ^ 64
fit_small n m e =
    elim (lt_or_le n (2 ^ 64) (nat_lt n (2 ^ 64)) refl) [
      | inl h ↦ let s : n ≡ m = fit_some n m e in omega (arith, h, s)
      | inr h ↦ let f = fit_high n h in cc
    ]
