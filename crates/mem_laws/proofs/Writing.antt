-- What is written of a number: its lowest bits, and nothing past the end of a signal.
use Rattle.std.proofs.Common.{◌≡◌, ℕ, suc, zero, ◌+◌, ◌-◌, ◌*◌, ◌/◌, ◌%◌, ◌^◌, ◌≤◌, Bool, true, false, nat_lt, List, [], ◌∷◌, ◌++◌, sym, ap, ◌∙◌, refl, arith, add-one}
use Rattle.std.specs.Prelude.{if◌then◌else◌, pos, negsuc, ℤ, ◌+ℤ◌}
use Rattle.std.specs.Str.{bytes_eq}
use Rattle.std.proofs.Math.Nat.{div-one}
use Rattle.std.proofs.Math.Pow.{mod-mod-pow}
use Rattle.std.proofs.lemmas.Bool.{le-ltb}
use Rattle.std.proofs.lemmas.Nat.{field_of, mod-pow-add, shr-shr, shr_split}
use Rattle.vlog_tree_runs.specs.Places.{Name, Cycle, Piece, total, with_bit, write_bit, write_bits, put, give}

-- ---- numbers

-- the k bits from s on, cut off before or after
pub cut_field : (x n k s : ℕ) → k + s ≤ n → x % 2 ^ n / 2 ^ s % 2 ^ k ≡ x / 2 ^ s % 2 ^ k
cut_field x n k s l =
    let more : ℕ = n - (k + s) in
    let e : n ≡ (more + k) + s = omega arith in
    ap (λ z. x % 2 ^ z / 2 ^ s % 2 ^ k) e ∙ (ap (λ z. z % 2 ^ k) (field_of x (more + k) s) ∙ mod-mod-pow (x / 2 ^ s) more k)

first_bit : (t n : ℕ) → t % 2 ^ (suc n) % 2 ≡ t % 2
first_bit t n = ap (λ z. t % 2 ^ z % 2) (sym (add-one n)) ∙ mod-mod-pow t n 1

other_bits : (t n : ℕ) → t % 2 ^ (suc n) / 2 ≡ t / 2 % 2 ^ n
other_bits t n = ap (λ z. t % 2 ^ z / 2) (sym (add-one n)) ∙ field_of t n 1

-- ---- bits

-- only the n lowest bits of a number are written
pub lowest_written : (size : ℕ) (i : ℤ) (n t x : ℕ) → write_bits size i n t x ≡ write_bits size i n (t % 2 ^ n) x
lowest_written size i zero t x = refl
lowest_written size i (suc n) t x =
    lowest_written size (i +ℤ pos 1) n (t / 2) (write_bit size i (t % 2) x)
    ∙ (λ r. write_bits size (i +ℤ pos 1) n (t / 2 % 2 ^ n) (write_bit size i (sym (first_bit t n) r) x))
    ∙ (λ r. write_bits size (i +ℤ pos 1) n (sym (other_bits t n) r) (write_bit size i (t % 2 ^ (suc n) % 2) x))

no_bit : (i : ℤ) (t x : ℕ) → write_bit 0 i t x ≡ x
no_bit (pos b) t x = ap (λ (l : Bool). if l then with_bit b t x else x) (le-ltb b 0 (omega arith))
no_bit (negsuc b) t x = refl

-- a signal without bits stays
pub nothing_written : (i : ℤ) (n t x : ℕ) → write_bits 0 i n t x ≡ x
nothing_written i zero t x = refl
nothing_written i (suc n) t x = ap (write_bits 0 (i +ℤ pos 1) n (t / 2)) (no_bit i (t % 2) x) ∙ nothing_written (i +ℤ pos 1) n (t / 2) x

-- a bit that is written as it was
same_bit : (i x : ℕ) → with_bit i (x / 2 ^ i % 2) x ≡ x
same_bit i x =
    let e : 1 + i ≡ i + 1 = omega arith in
    let low : x % 2 ^ (i + 1) ≡ x / 2 ^ i % 2 * 2 ^ i + x % 2 ^ i = ap (λ k. x % 2 ^ k) (sym e) ∙ mod-pow-add x 1 i in
    let whole : x / 2 ^ (i + 1) * 2 ^ (i + 1) + x % 2 ^ (i + 1) ≡ x = shr_split x (i + 1) in
    turned (x % 2 ^ i) (x / 2 ^ i % 2 * 2 ^ i) (x / 2 ^ (i + 1) * 2 ^ (i + 1)) ∙ (ap (λ k. x / 2 ^ (i + 1) * 2 ^ (i + 1) + k) (sym low) ∙ whole)
  where
    turned : (a b c : ℕ) → a + b + c ≡ c + (b + a)
    turned a b c = omega arith

same_written : (size i t x : ℕ) → t ≡ x / 2 ^ i % 2 → write_bit size (pos i) t x ≡ x
same_written size i t x e = by (nat_lt i size)
  where
    by : (l : Bool) → (if l then with_bit i t x else x) ≡ x
    by true = ap (λ u. with_bit i u x) e ∙ same_bit i x
    by false = refl

-- a number that has these bits stays
pub own_written : (size i n t x : ℕ) → t % 2 ^ n ≡ x / 2 ^ i % 2 ^ n → write_bits size (pos i) n t x ≡ x
own_written size i zero t x h = refl
own_written size i (suc n) t x h =
    let bit : t % 2 ≡ x / 2 ^ i % 2 = sym (first_bit t n) ∙ (ap (λ k. k % 2) h ∙ first_bit (x / 2 ^ i) n) in
    let others : t / 2 % 2 ^ n ≡ x / 2 ^ (i + 1) % 2 ^ n =
    sym (other_bits t n) ∙ (ap (λ k. k / 2) h ∙ (other_bits (x / 2 ^ i) n ∙ ap (λ k. k % 2 ^ n) (shr-shr x i 1))) in
    ap (write_bits size (pos (i + 1)) n (t / 2)) (same_written size i (t % 2) x bit) ∙ own_written size (i + 1) n (t / 2) x others

-- ---- parts

pub put_lowest : (q : Piece) (t u : ℕ) (c : Cycle) → t % 2 ^ q.count ≡ u % 2 ^ q.count → put q t c ≡ put q u c
put_lowest q t u c e =
    λ r. λ (x : Name). if bytes_eq q.name x
    then (lowest_written q.size q.from q.count t (c x) ∙ (ap (λ z. write_bits q.size q.from q.count z (c x)) e ∙ sym (lowest_written q.size q.from q.count u (c x)))) r
    else c x

either : (b : Bool) (n : ℕ) → (if b then n else n) ≡ n
either true n = refl
either false n = refl

pub put_nothing : (q : Piece) (t : ℕ) (c : Cycle) → q.size ≡ 0 → put q t c ≡ c
put_nothing q t c e =
    λ r. λ (x : Name). (ap (λ z. if bytes_eq q.name x then write_bits z q.from q.count t (c x) else c x) e
    ∙ (ap (λ z. if bytes_eq q.name x then z else c x) (nothing_written q.from q.count t (c x)) ∙ either (bytes_eq q.name x) (c x))) r

pub give_one : (q : Piece) (t : ℕ) (c : Cycle) → give (q ∷ []) t c ≡ put q t c
give_one q t c = ap (λ z. put q z c) (div-one t)

-- the parts of a list, and then those of another one
pub total_append : (ps qs : List Piece) → total (ps ++ qs) ≡ total ps + total qs
total_append [] qs = omega arith
total_append (p ∷ ps) qs = omega (arith, total_append ps qs)
