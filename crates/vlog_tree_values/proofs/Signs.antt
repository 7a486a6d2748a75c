-- What operators make of words, as vlog_tree's definition says it of numbers.
use Rattle.std.proofs.Common.{◌≡◌, ℕ, ◌+◌, ◌-◌, ◌*◌, ◌/◌, ◌%◌, ◌^◌, ◌<◌, ◌≤◌, not, Bool, true, false, sym, ap, ◌∙◌, refl, subst, arith}
use Rattle.std.specs.Prelude.{nat_le, nat_lt, nat_eq, if◌then◌else◌, ℤ, pos, negsuc, int_lt, int_le}
use Rattle.std.proofs.Math.Pow.{pow_mono}
use Rattle.std.proofs.lemmas.Bool.{leb-true, leb-false}
use Rattle.std.proofs.lemmas.Bool.Decides.{nat_tests}
use Rattle.word_core.specs.Words.{Bits, IsWord, turned, reach, shr_of, sar_of, sext_of, zext_of}
use Rattle.vlog_tree.specs.Value.{is_negative, extend, integer}
use Rattle.vlog_tree_values.proofs.Numbers.{twice, top_bit, top_times, low_of, high_of}

-- a word below twice its top bit
below_twice : (n x : ℕ) → 0 < n → x < 2 ^ n → x < 2 ^ (n - 1) + 2 ^ (n - 1)
below_twice n x p lt = omega (arith, twice n p)

-- ---- differences

pub sub_is : (n x y : ℕ) → y < 2 ^ n → (x + (2 ^ n - y)) % 2 ^ n ≡ (x + 2 ^ n - y) % 2 ^ n
sub_is n x y lt =
    let e : x + (2 ^ n - y) ≡ x + 2 ^ n - y = omega arith in
    ap (λ k. k % 2 ^ n) e

-- ---- extension

more : (b : Bool) (x p q : ℕ) → p ≤ q → x + (if b then (q - p) else 0) ≡ (if b then x + q - p else x)
more true x p q le = omega arith
more false x p q le = omega arith

pub extend_number : (n m x : ℕ) → 0 < n → x < 2 ^ n → n ≤ m → x + x / 2 ^ (n - 1) * (2 ^ m - 2 ^ n) ≡ extend true n m x
extend_number n m x p lt le =
    rw (top_times x (2 ^ (n - 1)) (2 ^ m - 2 ^ n) (below_twice n x p lt)) (more (nat_le (2 ^ (n - 1)) x) x (2 ^ n) (2 ^ m) (pow_mono le))

pub extend_is : (s : Bool) (a : Bits) (m : ℕ) → IsWord a → a.width ≤ m → (if s then sext_of a m else zext_of a m) ≡ record { width = m; value = extend s a.width m a.value }
extend_is true a m w le = ap (λ v. let r : Bits = record { width = m; value = v } in r) (extend_number a.width m a.value w.some w.fits le)
extend_is false a m w le = refl

-- ---- shifts

pub sar_is : (a b : Bits) → IsWord a → sar_of a b ≡ record { width = a.width; value = a.value / 2 ^ reach a b + (if is_negative true a.width a.value then 2 ^ a.width - 2 ^ (a.width - reach a b) else 0) }
sar_is a b w =
    let e = top_times a.value (2 ^ (a.width - 1)) (2 ^ a.width - 2 ^ (a.width - reach a b)) (below_twice a.width a.value w.some w.fits) in
    ap (λ v. let r : Bits = record { width = a.width; value = a.value / 2 ^ reach a b + v } in r) e

pub shr_is : (a b : Bits) → shr_of a b ≡ record { width = a.width; value = a.value / 2 ^ reach a b + 0 }
shr_is a b =
    let e : a.value / 2 ^ reach a b ≡ a.value / 2 ^ reach a b + 0 = omega arith in
    ap (λ v. let r : Bits = record { width = a.width; value = v } in r) e

-- ---- order

order : (b c : Bool) (x y h p s t : ℕ) → nat_le h x ≡ b → nat_le h y ≡ c → p ≡ h + h → x < p → y < p → s ≡ (x + h) % p → t ≡ (y + h) % p →
    nat_lt s t ≡ int_lt (if b then negsuc (p - 1 - x) else pos x) (if c then negsuc (p - 1 - y) else pos y)
order true true x y h p s t b c e lx ly is it =
    let hx = leb-true h x b in
    let hy = leb-true h y c in
    let s' : s ≡ x - h = is ∙ ap (λ k. (x + h) % k) e ∙ high_of x h hx (omega arith) in
    let t' : t ≡ y - h = it ∙ ap (λ k. (y + h) % k) e ∙ high_of y h hy (omega arith) in
    grind (arith, nat_tests)
order true false x y h p s t b c e lx ly is it =
    let hx = leb-true h x b in
    let hy = leb-false h y c in
    let s' : s ≡ x - h = is ∙ ap (λ k. (x + h) % k) e ∙ high_of x h hx (omega arith) in
    let t' : t ≡ y + h = it ∙ ap (λ k. (y + h) % k) e ∙ low_of y h hy in
    grind (arith, nat_tests)
order false true x y h p s t b c e lx ly is it =
    let hx = leb-false h x b in
    let hy = leb-true h y c in
    let s' : s ≡ x + h = is ∙ ap (λ k. (x + h) % k) e ∙ low_of x h hx in
    let t' : t ≡ y - h = it ∙ ap (λ k. (y + h) % k) e ∙ high_of y h hy (omega arith) in
    grind (arith, nat_tests)
order false false x y h p s t b c e lx ly is it =
    let hx = leb-false h x b in
    let hy = leb-false h y c in
    let s' : s ≡ x + h = is ∙ ap (λ k. (x + h) % k) e ∙ low_of x h hx in
    let t' : t ≡ y + h = it ∙ ap (λ k. (y + h) % k) e ∙ low_of y h hy in
    grind (arith, nat_tests)

pub signed_less : (a b : Bits) → a.width ≡ b.width → IsWord a → IsWord b → nat_lt (turned a) (turned b) ≡ int_lt (integer true a.width a.value) (integer true b.width b.value)
signed_less a b e v w =
    let fits : b.value < 2 ^ a.width = subst (λ n. b.value < 2 ^ n) (sym e) w.fits in
    let h = order (nat_le (2 ^ (a.width - 1)) a.value) (nat_le (2 ^ (a.width - 1)) b.value) a.value b.value (2 ^ (a.width - 1)) (2 ^ a.width)
    ((a.value + 2 ^ (a.width - 1)) % 2 ^ a.width) ((b.value + 2 ^ (a.width - 1)) % 2 ^ a.width) refl refl (twice a.width v.some) v.fits fits refl refl in
    subst (λ n. nat_lt ((a.value + 2 ^ (a.width - 1)) % 2 ^ a.width) ((b.value + 2 ^ (n - 1)) % 2 ^ n) ≡ int_lt (integer true a.width a.value) (integer true n b.value)) e h

pub le_is : (i j : ℤ) → int_le i j ≡ not (int_lt j i)
le_is (pos a) (pos b) = grind (arith, nat_tests)
le_is (pos a) (negsuc b) = refl
le_is (negsuc a) (pos b) = refl
le_is (negsuc a) (negsuc b) = grind (arith, nat_tests)

-- ---- the top bit

pub top_test : (n x r : ℕ) → 0 < n → x < 2 ^ n → r ≡ x / 2 ^ (n - 1) % 2 ^ 1 → nat_eq r 1 ≡ nat_le (2 ^ (n - 1)) x
top_test n x r p lt is =
    let e : r ≡ (if nat_le (2 ^ (n - 1)) x then 1 else 0) % 2 ^ 1 = is ∙ ap (λ k. k % 2 ^ 1) (top_bit x (2 ^ (n - 1)) (below_twice n x p lt)) in
    rw e (test (nat_le (2 ^ (n - 1)) x))
  where
    test : (b : Bool) → nat_eq ((if b then 1 else 0) % 2 ^ 1) 1 ≡ b
    test true = refl
    test false = refl
