use Rattle.std.proofs.Common.{◌≡◌, ℕ, ◌+◌, ◌-◌, ◌*◌, ◌<◌, ◌≤◌, true, false, List, [], ◌∷◌, ◌++◌, length, get_or, take, refl, sym, ap, ◌∙◌, subst, arith, inl, inr}
use Rattle.std.specs.Prelude.{◌^◌, slice_index}
use Rattle.std.specs.List.{list_all}
use Rattle.std.proofs.Math.Pow.{pow_mono}
use Rattle.std.proofs.lemmas.Bool.{cases_Bool}
use Rattle.std.proofs.lemmas.List.{take_more}
use Rattle.std.proofs.lemmas.List.Folds.{list_all_at}
use Rattle.std.proofs.lemmas.Nat.{pow-add}
use Rattle.signoff_words.specs.Numbers.{is_digit, number_from}
use Rattle.signoff_words.proofs.number.number_of.Goals as goal

grown : (n d i : ℕ) → n < 2 ^ (4 * i) → d ≤ 9 → n * 10 + d < 2 ^ (4 * (i + 1))
grown n d i small digit =
    let exponent : 4 * (i + 1) ≡ 4 * i + 4 = omega arith in
    let e : 2 ^ (4 * (i + 1)) ≡ 2 ^ (4 * i) * 16 = ap (λ k. 2 ^ k) exponent ∙ pow-add 2 (4 * i) 4 in
    omega (arith, e, small, digit)

limited : (n i : ℕ) → i < 10 → n < 2 ^ (4 * i) → n < 2 ^ 36
limited n i lt small = let le : 2 ^ (4 * i) ≤ 2 ^ 36 = pow_mono {i = 4 * i} {j = 36} (omega arith) in omega (arith, small, le)

all_at : (word : List ℕ) (i d : ℕ) → i < length word → list_all is_digit word ≡ true → is_digit (get_or word i d) ≡ true
all_at word i d lt all = elim (cases_Bool (is_digit (get_or word i d))) [
  | inl is ↦ is
  | inr other ↦ absurd (let no : true ≡ false = sym all ∙ list_all_at is_digit word i d lt other in cc)
]

appended : (n : ℕ) (xs : List ℕ) (x : ℕ) → number_from n (xs ++ x ∷ []) ≡ number_from n xs * 10 + (x - 48)
appended n [] x = refl
appended n (y ∷ xs) x = appended (n * 10 + (y - 48)) xs x

digit_most : (x : ℕ) → is_digit x ≡ true → x - 48 ≤ 9
digit_most x is = grind arith

pub overflow_mul-number : goal.overflow_mul-number
overflow_mul-number c =
    let lt : c.loop-byte.byte-index < 10 = omega arith in
    let n = limited c.loop-byte.number c.loop-byte.byte-index lt c.loop-byte.invariant.small in
    omega (arith, n)

pub overflow_add-number : goal.overflow_add-number
overflow_add-number c =
    let i = c.loop-byte.byte-index in
    let word = c.args.word.now in
    let lt : i < 10 = omega arith in
    let n = limited c.loop-byte.number i lt c.loop-byte.invariant.small in
    let d = digit_most (slice_index word i) (all_at word i 0 c.loop-byte-test.true c.requires.digits) in
    omega (arith, n, d, c.from.ensures)

pub loop-byte-preserved : goal.loop-byte-preserved
loop-byte-preserved c =
    let i = c.loop-byte.byte-index in
    let word = c.args.word.now in
    let lt = c.loop-byte-test.true in
    let x = get_or word i 0 in
    let d = digit_most x (all_at word i 0 lt c.requires.digits) in
    let from : c.from.result ≡ x - 48 = c.from.ensures in
    let sum : c.loop-byte.number * 10 + c.from.result ≡ c.loop-byte.number * 10 + (x - 48) = ap (λ k. c.loop-byte.number * 10 + k) from in
    record {
      is = sum ∙ (ap (λ n. n * 10 + (x - 48)) c.loop-byte.invariant.is ∙ (sym (appended 0 (take i word) x) ∙ ap (number_from 0) (sym (take_more word i 0 lt))));
      small = subst (λ k. k < 2 ^ (4 * (i + 1))) (sym sum) (grown c.loop-byte.number (x - 48) i c.loop-byte.invariant.small d);
    }
