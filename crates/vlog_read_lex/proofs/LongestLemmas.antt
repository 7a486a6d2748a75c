-- Runs and signs are the longest ones at their place.
use Rattle.std.proofs.Common.{◌≡◌, ℕ, zero, suc, ◌+◌, ◌-◌, ◌<◌, ◌≤◌, ◌||◌, ◌&&◌, Bool, true, false, List, [], ◌∷◌, length, get_or, refl, subst, sym, ◌⊎◌, inl, inr, arith}
use Rattle.std.specs.Prelude.{nat_le, nat_lt, Option, Some, None, if◌then◌else◌}
use Rattle.std.specs.List.{list_any, list_all}
use Rattle.std.specs.Str.{bytes_eq}
use Rattle.std.proofs.Math.Nat.{eq-or-lt_of_le}
use Rattle.std.proofs.lemmas.Slice.Eq.{bytes_eq-Decides}
use Rattle.std.proofs.lemmas.Bool.{le-leb, leb-true}
use Rattle.vlog_read_lex.specs.declared.class.Class.{Class}
use Rattle.vlog_read_lex.specs.Bytes.{has}
use Rattle.vlog_read_lex.specs.Places.{first_place, run_end}
use Rattle.vlog_read_lex.specs.Words.{is_among}
use Rattle.vlog_read_lex.specs.Signs.{arithmetic_signs, comparison_signs, bitwise_signs, bracket_signs, separator_signs, outside_signs, is_sign, is_sign_of, sign_size}
use Rattle.vlog_read_lex.specs.Laws.{IsFirst, FirstPlacesAreFirst, IsRun, RunsAreLongest, Stands, SignsAreLongest, SignsStand}
use Rattle.vlog_read_lex.proofs.NumberLemmas.{lt_or_le}
use Rattle.vlog_read_lex.proofs.PlaceLemmas.{first_place-here, first_place-next, first_place-none, run_end-here, run_end-next, run_end-end}

empty_run : (class : Class) (bs : List ℕ) (i : ℕ) → i ≤ length bs → (i < length bs → has class (get_or bs i 0) ≡ false) → IsRun class bs i i
empty_run class bs i le h = record {
  from = omega arith;
  within = le;
  each = λ k lo hi. absurd (omega (arith, lo, hi));
  ends = h;
}

longer_run : (class : Class) (bs : List ℕ) (i j : ℕ) → has class (get_or bs i 0) ≡ true → IsRun class bs (i + 1) j → IsRun class bs i j
longer_run class bs i j h r = record {
  from = omega (arith, r.from);
  within = r.within;
  each = λ k lo hi. elim (eq-or-lt_of_le lo) [
    | inl e ↦ subst (λ (n : ℕ). has class (get_or bs n 0) ≡ true) e h
    | inr lt ↦ r.each k (omega (arith, lt)) hi
  ];
  ends = r.ends;
}

run_from : (class : Class) (bs : List ℕ) (i : ℕ) (b : Bool) → i < length bs → has class (get_or bs i 0) ≡ b
    → IsRun class bs (i + 1) (run_end class bs (i + 1)) → IsRun class bs i (run_end class bs i)
run_from class bs i true lt h r = rw (run_end-next class bs i lt h) (longer_run class bs i (run_end class bs (i + 1)) h r)
run_from class bs i false lt h r = rw (run_end-here class bs i lt h) (empty_run class bs i (omega (arith, lt)) (λ _. h))

run_over : (class : Class) (bs : List ℕ) (n i : ℕ) → i + n ≡ length bs → IsRun class bs i (run_end class bs i)
run_over class bs zero i e =
    let at : i ≡ length bs = omega (arith, e) in
    rw (run_end-end class bs i (omega (arith, at)), ← at) (empty_run class bs i (omega (arith, at)) (λ lt. absurd (omega (arith, at, lt))))
run_over class bs (suc n) i e =
    run_from class bs i (has class (get_or bs i 0)) (omega (arith, e)) refl (run_over class bs n (i + 1) (omega (arith, e)))

pub runs_are_longest : RunsAreLongest
runs_are_longest class bs i le = run_over class bs (length bs - i) i (omega (arith, le))

later_first : (q : ℕ → Bool) (i end : ℕ) (o : Option ℕ) → q i ≡ false → IsFirst q (i + 1) end o → IsFirst q i end o
later_first q i end (Some j) h f = (
  omega (arith, f.0),
  f.1,
  f.2,
  λ k lo hi. elim (eq-or-lt_of_le lo) [
    | inl e ↦ subst (λ (n : ℕ). q n ≡ false) e h
    | inr lt ↦ f.3 k (omega (arith, lt)) hi
  ],
)
later_first q i end None h f = λ k lo hi. elim (eq-or-lt_of_le lo) [
  | inl e ↦ subst (λ (n : ℕ). q n ≡ false) e h
  | inr lt ↦ f k (omega (arith, lt)) hi
]

first_from : (q : ℕ → Bool) (i end : ℕ) (b : Bool) → i < end → q i ≡ b → IsFirst q (i + 1) end (first_place q (i + 1) end) → IsFirst q i end (first_place q i end)
first_from q i end true lt h f = rw (first_place-here q i end lt h) (omega arith, lt, h, λ k lo hi. absurd (omega (arith, lo, hi)))
first_from q i end false lt h f = rw (first_place-next q i end lt h) (later_first q i end (first_place q (i + 1) end) h f)

first_over : (q : ℕ → Bool) (n i end : ℕ) → end ≤ i + n → IsFirst q i end (first_place q i end)
first_over q zero i end e = rw (first_place-none q i end (omega (arith, e))) (λ k lo hi. absurd (omega (arith, e, lo, hi)))
first_over q (suc n) i end e = elim (lt_or_le i end (nat_lt i end) refl) [
  | inl lt ↦ first_from q i end (q i) lt refl (first_over q n (i + 1) end (omega (arith, e)))
  | inr le ↦ rw (first_place-none q i end le) (λ k lo hi. absurd (omega (arith, le, lo, hi)))
]

pub first_places : FirstPlacesAreFirst
first_places q i end = first_over q end i end (omega arith)

same_text : (s t : List ℕ) → bytes_eq s t ≡ true → s ≡ t
same_text s t h = (bytes_eq-Decides s t).0 h

or_true : (a b : Bool) → (a || b) ≡ true → (a ≡ true) ⊎ (b ≡ true)
or_true true b h = inl refl
or_true false b h = inr h

and_true : (a b : Bool) → (a && b) ≡ true → (a ≡ true) × (b ≡ true)
and_true true b h = (refl, h)
and_true false b h = (h, absurd (cc))

is_short : List ℕ → Bool
is_short t = nat_le (length t) 3

-- a text among short ones is short
short_among : (texts : List (List ℕ)) (s : List ℕ) → list_all is_short texts ≡ true → is_among texts s ≡ true → is_short s ≡ true
short_among [] s all h = absurd (cc)
short_among (t ∷ ts) s all h = elim (or_true (bytes_eq s t) (list_any (bytes_eq s) ts) h) [
  | inl e ↦ subst (λ (u : List ℕ). is_short u ≡ true) (sym (same_text s t e)) (and_true (is_short t) (list_all is_short ts) all).0
  | inr r ↦ short_among ts s (and_true (is_short t) (list_all is_short ts) all).1 r
]

-- a sign has at most three bytes
sign_short : (s : List ℕ) → is_sign s ≡ true → is_short s ≡ true
unfolding is_sign is_short
sign_short s h = elim (or_true _ _ h) [
  | inr a ↦ short_among outside_signs s refl a
  | inl h1 ↦ elim (or_true _ _ h1) [
    | inr a ↦ short_among separator_signs s refl a
    | inl h2 ↦ elim (or_true _ _ h2) [
      | inr a ↦ short_among bracket_signs s refl a
      | inl h3 ↦ elim (or_true _ _ h3) [
        | inr a ↦ short_among bitwise_signs s refl a
        | inl h4 ↦ elim (or_true _ _ h4) [
          | inr a ↦ short_among comparison_signs s refl a
          | inl a ↦ short_among arithmetic_signs s refl a
        ]
      ]
    ]
  ]
]

-- the first of three sizes that fits is the largest
one_of : Bool → Bool → Bool → ℕ
one_of a b c = if a then 3 else (if b then 2 else (if c then 1 else 0))

at_two : (a b c : Bool) → b ≡ true → 2 ≤ one_of a b c
unfolding one_of
at_two true b c h = omega arith
at_two false b c h = rw h (omega arith)

at_one : (a b c : Bool) → c ≡ true → 1 ≤ one_of a b c
unfolding one_of
at_one true b c h = omega arith
at_one false true c h = omega arith
at_one false false c h = rw h (omega arith)

at_least : (bs : List ℕ) (i n : ℕ) → n ≤ 3 → is_sign_of n bs i ≡ true → n ≤ sign_size bs i
unfolding sign_size one_of
at_least bs i zero le h = omega arith
at_least bs i (suc zero) le h = at_one (is_sign_of 3 bs i) (is_sign_of 2 bs i) (is_sign_of 1 bs i) h
at_least bs i (suc (suc zero)) le h = at_two (is_sign_of 3 bs i) (is_sign_of 2 bs i) (is_sign_of 1 bs i) h
at_least bs i (suc (suc (suc zero))) le h = rw h (omega arith)
at_least bs i (suc (suc (suc (suc n)))) le h = absurd (omega (arith, le))

stands_as : (bs : List ℕ) (i : ℕ) (s : List ℕ) → is_sign s ≡ true → Stands s bs i → is_sign_of (length s) bs i ≡ true
stands_as bs i s h st =
    let fits : nat_le (length s) (length bs - i) ≡ true = le-leb (length s) (length bs - i) (omega (arith, st.0)) in
    rw (fits, st.1) h

pub signs_are_longest : SignsAreLongest
unfolding is_short
signs_are_longest bs i s h st = at_least bs i (length s) (leb-true (length s) 3 (sign_short s h)) (stands_as bs i s h st)

taken : (bs : List ℕ) (i : ℕ) (a b c : Bool) → is_sign_of 3 bs i ≡ a → is_sign_of 2 bs i ≡ b → is_sign_of 1 bs i ≡ c → 0 < one_of a b c
    → is_sign_of (one_of a b c) bs i ≡ true
unfolding one_of
taken bs i true b c x y z h = x
taken bs i false true c x y z h = y
taken bs i false false true x y z h = z
taken bs i false false false x y z h = absurd (omega (arith, h))

pub signs_stand : SignsStand
unfolding sign_size one_of
signs_stand bs i h = taken bs i (is_sign_of 3 bs i) (is_sign_of 2 bs i) (is_sign_of 1 bs i) refl refl refl h
