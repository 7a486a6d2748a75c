-- Which bits an assignment writes.
use Rattle.std.proofs.Common.{arith, ◌≡◌, ◌≢◌, ℕ, zero, suc, ◌+◌, ◌-◌, ◌*◌, ◌/◌, ◌%◌, ◌^◌, ◌<◌, ◌≤◌, Bool, true, false, nat_lt, sym, ap, ◌∙◌, refl, ◌⊎◌, inl, inr, ⊎_elim, subst}
use Rattle.std.specs.Prelude.{pos, negsuc, nat_le, ◌+ℤ◌}
use Rattle.std.specs.Int.{bit_at}
use Rattle.std.proofs.lemmas.Nat.Bits.{bit_at_cat_low, bit_at_cat_high, same_from_bits, bit_at_lowest, bit_at-suc}
use Rattle.std.proofs.lemmas.Bool.{lt-ltb, ltb-true, ltb-false, le-leb}
use Rattle.std.proofs.Math.Nat.{pow-suc, div-add-mod, mod-lt, mod-eq_of_lt, mul-le-mul_right, div-div-eq-div-mul}
use Rattle.std.proofs.lemmas.Nat.{pow-add}
use Rattle.vlog_tree_runs.specs.Places.{with_bit, write_bit, write_bits}

bool_cases : (b : Bool) → (b ≡ true) ⊎ (b ≡ false)
bool_cases true = inl refl
bool_cases false = inr refl

positive : (k : ℕ) → 0 < 2 ^ k
positive zero = omega (arith)
positive (suc k) = omega (arith, pow-suc 2 k, positive k)

-- a number is its upper and its lower bits
parts : (x k : ℕ) → x ≡ x / 2 ^ k * 2 ^ k + x % 2 ^ k
parts x k = omega (arith, div-add-mod x (2 ^ k))

low_bit : (x k j : ℕ) → j < k → bit_at (x % 2 ^ k) j ≡ bit_at x j
low_bit x k j l = sym (ap (λ z. bit_at z j) (parts x k) ∙ bit_at_cat_low (x / 2 ^ k) k (x % 2 ^ k) j l)

high_bit : (x k j : ℕ) → k ≤ j → bit_at (x / 2 ^ k) (j - k) ≡ bit_at x j
high_bit x k j l = sym (ap (λ z. bit_at z j) (parts x k) ∙ bit_at_cat_high (x / 2 ^ k) k (x % 2 ^ k) j (mod-lt x (positive k)) l)

-- ---- one bit

next_power : (b : ℕ) → 2 ^ (b + 1) ≡ 2 * 2 ^ b
next_power b = let e : b + 1 ≡ suc b = omega arith in ap (λ k. 2 ^ k) e ∙ omega (arith, pow-suc 2 b)

shape_of : (q t p r : ℕ) → r + t * p + q * (2 * p) ≡ (q * 2 + t) * p + r
shape_of q t p r = grind arith

shape : (b t x : ℕ) → with_bit b t x ≡ (x / 2 ^ (b + 1) * 2 + t) * 2 ^ b + x % 2 ^ b
shape b t x = ap (λ k. x % 2 ^ b + t * 2 ^ b + x / 2 ^ (b + 1) * k) (next_power b) ∙ shape_of (x / 2 ^ (b + 1)) t (2 ^ b) (x % 2 ^ b)

below_bit : (b t x j : ℕ) → j < b → bit_at (with_bit b t x) j ≡ bit_at x j
below_bit b t x j l =
    ap (λ z. bit_at z j) (shape b t x) ∙ (bit_at_cat_low (x / 2 ^ (b + 1) * 2 + t) b (x % 2 ^ b) j l ∙ low_bit x b j l)

from_bit : (b t x j : ℕ) → b ≤ j → bit_at (with_bit b t x) j ≡ bit_at (x / 2 ^ (b + 1) * 2 + t) (j - b)
from_bit b t x j l = ap (λ z. bit_at z j) (shape b t x) ∙ bit_at_cat_high (x / 2 ^ (b + 1) * 2 + t) b (x % 2 ^ b) j (mod-lt x (positive b)) l

two_is : (q t : ℕ) → q * 2 + t ≡ q * 2 ^ 1 + t
two_is q t = omega arith

at_bit : (b t x : ℕ) → t < 2 → bit_at (with_bit b t x) b ≡ t
at_bit b t x l =
    let z : b - b ≡ 0 = omega arith in
    from_bit b t x b (omega arith)
    ∙ (ap (λ k. bit_at (x / 2 ^ (b + 1) * 2 + t) k) z
    ∙ (ap (λ n. bit_at n 0) (two_is (x / 2 ^ (b + 1)) t)
    ∙ (bit_at_cat_low (x / 2 ^ (b + 1)) 1 t 0 (omega arith) ∙ (bit_at_lowest t ∙ mod-eq_of_lt l))))

above_bit : (b t x j : ℕ) → t < 2 → b < j → bit_at (with_bit b t x) j ≡ bit_at x j
above_bit b t x j l h =
    let e : j - b - 1 ≡ j - (b + 1) = omega arith in
    from_bit b t x j (omega (arith, h))
    ∙ (ap (λ n. bit_at n (j - b)) (two_is (x / 2 ^ (b + 1)) t)
    ∙ (bit_at_cat_high (x / 2 ^ (b + 1)) 1 t (j - b) (omega (arith, l)) (omega (arith, h))
    ∙ (ap (λ k. bit_at (x / 2 ^ (b + 1)) k) e ∙ high_bit x (b + 1) j (omega (arith, h)))))

-- ---- one bit of a signal of so many

bit_written : (size b t x : ℕ) → b < size → write_bit size (pos b) t x ≡ with_bit b t x
bit_written size b t x l = rw (lt-ltb b size l) refl

bit_unwritten : (size b t x : ℕ) → size ≤ b → write_bit size (pos b) t x ≡ x
bit_unwritten size b t x l = rw (not_less b size l) refl
  where
    not_less : (b size : ℕ) → size ≤ b → nat_lt b size ≡ false
    not_less b size l = ⊎_elim (λ (e : nat_lt b size ≡ true). let h = ltb-true b size e in absurd (omega (arith, l, h))) (λ e. e) (bool_cases (nat_lt b size))

pub step_same : (size b t x : ℕ) → t < 2 → b < size → bit_at (write_bit size (pos b) t x) b ≡ t
step_same size b t x l h = ap (λ z. bit_at z b) (bit_written size b t x h) ∙ at_bit b t x l

pub step_other : (size b t x j : ℕ) → t < 2 → j ≢ b → bit_at (write_bit size (pos b) t x) j ≡ bit_at x j
step_other size b t x j l n =
    ⊎_elim
    (λ (h : b < size). ap (λ z. bit_at z j) (bit_written size b t x h)
    ∙ ⊎_elim (λ (k : j < b). below_bit b t x j k) (λ (k : b < j). above_bit b t x j l k) (apart j b n))
    (λ (h : size ≤ b). ap (λ z. bit_at z j) (bit_unwritten size b t x h)) (less_or b size)
  where
    less_or : (b size : ℕ) → (b < size) ⊎ (size ≤ b)
    less_or b size = ⊎_elim (λ (e : nat_lt b size ≡ true). inl (ltb-true b size e)) (λ (e : nat_lt b size ≡ false). inr (ltb-false b size e)) (bool_cases (nat_lt b size))

    apart : (j b : ℕ) → j ≢ b → (j < b) ⊎ (b < j)
    apart j b n = ⊎_elim (λ h. inl h) (λ (h : b ≤ j). inr (omega (arith, h, n))) (less_or j b)

step_out : (size b t x j : ℕ) → t < 2 → size ≤ j → bit_at (write_bit size (pos b) t x) j ≡ bit_at x j
step_out size b t x j l h =
    ⊎_elim
    (λ (e : nat_lt b size ≡ true). let k = ltb-true b size e in step_other size b t x j l (λ (i : j ≡ b). omega (arith, h, k, i)))
    (λ (e : nat_lt b size ≡ false). ap (λ z. bit_at z j) (bit_unwritten size b t x (ltb-false b size e)))
    (bool_cases (nat_lt b size))

half : (t : ℕ) → t % 2 < 2
half t = mod-lt t (omega arith)

-- ---- several bits

pub others : (size a n t x j : ℕ) → (j < a) ⊎ ((a + n ≤ j) ⊎ (size ≤ j)) → bit_at (write_bits size (pos a) n t x) j ≡ bit_at x j
others size a zero t x j h = refl
others size a (suc n) t x j h =
    ⊎_elim
    (λ (l : j < a). others size (a + 1) n (t / 2) (write_bit size (pos a) (t % 2) x) j (inl (omega (arith, l)))
    ∙ step_other size a (t % 2) x j (half t) (λ (i : j ≡ a). omega (arith, l, i)))
    (λ k. ⊎_elim
    (λ (l : a + suc n ≤ j). others size (a + 1) n (t / 2) (write_bit size (pos a) (t % 2) x) j (inr (inl (omega (arith, l))))
    ∙ step_other size a (t % 2) x j (half t) (λ (i : j ≡ a). omega (arith, l, i)))
    (λ (l : size ≤ j). others size (a + 1) n (t / 2) (write_bit size (pos a) (t % 2) x) j (inr (inr l)) ∙ step_out size a (t % 2) x j (half t) l)
    k)
    h

pub inside : (size a n t x j : ℕ) → a ≤ j → j < a + n → j < size → bit_at (write_bits size (pos a) n t x) j ≡ bit_at t (j - a)
inside size a zero t x j l m h = absurd (omega (arith, l, m))
inside size a (suc n) t x j l m h =
    ⊎_elim
    (λ (i : j ≡ a).
    let s : a < size = omega (arith, h, i) in
    let z : 0 ≡ j - a = omega (arith, i) in
    subst (λ k. bit_at (write_bits size (pos a) (suc n) t x) k ≡ bit_at t (j - a)) (sym i)
    (others size (a + 1) n (t / 2) (write_bit size (pos a) (t % 2) x) a (inl (omega arith))
    ∙ (step_same size a (t % 2) x (half t) s ∙ (sym (bit_at_lowest t) ∙ ap (λ k. bit_at t k) z))))
    (λ (k : a < j).
    let e : suc (j - (a + 1)) ≡ j - a = omega (arith, k) in
    inside size (a + 1) n (t / 2) (write_bit size (pos a) (t % 2) x) j (omega (arith, k)) (omega (arith, m)) h
    ∙ (sym (bit_at-suc t (j - (a + 1))) ∙ ap (λ i. bit_at t i) e))
    (same_or j a l)
  where
    same_or : (j a : ℕ) → a ≤ j → (j ≡ a) ⊎ (a < j)
    same_or j a l = ⊎_elim (λ (e : nat_lt a j ≡ true). inr (ltb-true a j e)) (λ (e : nat_lt a j ≡ false). inl (let h = ltb-false a j e in omega (arith, l, h))) (bool_cases (nat_lt a j))

-- ---- in one piece

lower : (t x n a : ℕ) → t % 2 ^ n * 2 ^ a + x % 2 ^ a < 2 ^ (a + n)
lower t x n a =
    let p = mod-lt t (positive n) in
    let q = mod-lt x (positive a) in
    let m : (t % 2 ^ n + 1) * 2 ^ a ≤ 2 ^ n * 2 ^ a = mul-le-mul_right (2 ^ a) (omega (arith, p)) in
    let s : (t % 2 ^ n + 1) * 2 ^ a ≡ t % 2 ^ n * 2 ^ a + 2 ^ a = one_more (t % 2 ^ n) (2 ^ a) in
    let e : 2 ^ (a + n) ≡ 2 ^ n * 2 ^ a = pow-add 2 a n ∙ turned (2 ^ a) (2 ^ n) in
    omega (arith, q, m, s, e)
  where
    one_more : (k p : ℕ) → (k + 1) * p ≡ k * p + p
    one_more k p = grind arith

    turned : (p q : ℕ) → p * q ≡ q * p
    turned p q = grind arith

less_or : (j b : ℕ) → (j < b) ⊎ (b ≤ j)
less_or j b = ⊎_elim (λ (e : nat_lt j b ≡ true). inl (ltb-true j b e)) (λ (e : nat_lt j b ≡ false). inr (ltb-false j b e)) (bool_cases (nat_lt j b))

piece_bit : (size a n t x j : ℕ) → a + n ≤ size →
    bit_at (write_bits size (pos a) n t x) j ≡ bit_at (x / 2 ^ (a + n) * 2 ^ (a + n) + (t % 2 ^ n * 2 ^ a + x % 2 ^ a)) j
piece_bit size a n t x j fits =
    ⊎_elim
    (λ (l : j < a).
    others size a n t x j (inl l)
    ∙ sym (bit_at_cat_low (x / 2 ^ (a + n)) (a + n) (t % 2 ^ n * 2 ^ a + x % 2 ^ a) j (omega (arith, l))
    ∙ (bit_at_cat_low (t % 2 ^ n) a (x % 2 ^ a) j l ∙ low_bit x a j l)))
    (λ (l : a ≤ j). ⊎_elim
    (λ (m : j < a + n).
    inside size a n t x j l m (omega (arith, m, fits))
    ∙ sym (bit_at_cat_low (x / 2 ^ (a + n)) (a + n) (t % 2 ^ n * 2 ^ a + x % 2 ^ a) j m
    ∙ (bit_at_cat_high (t % 2 ^ n) a (x % 2 ^ a) j (mod-lt x (positive a)) l ∙ low_bit t n (j - a) (omega (arith, l, m)))))
    (λ (m : a + n ≤ j).
    others size a n t x j (inr (inl m))
    ∙ sym (bit_at_cat_high (x / 2 ^ (a + n)) (a + n) (t % 2 ^ n * 2 ^ a + x % 2 ^ a) j (lower t x n a) m ∙ high_bit x (a + n) j m))
    (less_or j (a + n)))
    (less_or j a)

pub piece : (size a n t x : ℕ) → a + n ≤ size → write_bits size (pos a) n t x ≡ x / 2 ^ (a + n) * 2 ^ (a + n) + (t % 2 ^ n * 2 ^ a + x % 2 ^ a)
piece size a n t x fits =
    same_from_bits (write_bits size (pos a) n t x) (x / 2 ^ (a + n) * 2 ^ (a + n) + (t % 2 ^ n * 2 ^ a + x % 2 ^ a)) (λ j. piece_bit size a n t x j fits)

-- ---- below the first bit

pub below : (size a n t x : ℕ) → write_bits size (negsuc a) n t x ≡ write_bits size (pos 0) (n - (a + 1)) (t / 2 ^ (a + 1)) x
below size a zero t x = let e : zero ≡ zero - (a + 1) = omega arith in ap (λ k. write_bits size (pos 0) k (t / 2 ^ (a + 1)) x) e
below size zero (suc n) t x =
    let e : n ≡ suc n - (zero + 1) = omega arith in
    let d : t / 2 ≡ t / 2 ^ (zero + 1) = refl in
    λ r. write_bits size (pos 0) (e r) (d r) x
below size (suc b) (suc n) t x =
    let e : n - (b + 1) ≡ suc n - (suc b + 1) = omega arith in
    let k : 2 * 2 ^ (b + 1) ≡ 2 ^ (suc b + 1) = sym (next_power (suc b) ∙ ap (λ m. 2 * 2 ^ m) (the_same b)) in
    let d : t / 2 / 2 ^ (b + 1) ≡ t / 2 ^ (suc b + 1) = div-div-eq-div-mul t 2 (2 ^ (b + 1)) ∙ ap (λ m. t / m) k in
    ap (λ i. write_bits size i n (t / 2) x) (up b) ∙ (below size b n (t / 2) x ∙ (λ r. write_bits size (pos 0) (e r) (d r) x))
  where
    the_same : (b : ℕ) → suc b ≡ b + 1
    the_same b = omega arith

    up : (b : ℕ) → negsuc (suc b) +ℤ pos 1 ≡ negsuc b
    up b = let h : nat_le 2 (suc (suc b)) ≡ true = le-leb 2 (suc (suc b)) (omega arith) in rw h (ap negsuc (omega arith))
