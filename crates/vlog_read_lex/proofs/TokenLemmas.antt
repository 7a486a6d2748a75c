-- A token reaches as far as any word, number or sign that is spelt at its place.
use Rattle.std.proofs.Common.{◌≡◌, ℕ, zero, suc, ◌+◌, ◌-◌, ◌<◌, ◌≤◌, ◌||◌, ◌&&◌, ◌==◌, Bool, true, false, not, List, [], ◌∷◌, length, get_or, take, drop, refl, ap, subst, sym, ◌∙◌, ◌⊎◌, inl, inr, arith}
use Rattle.std.specs.Prelude.{nat_le, nat_lt, slice_range, if◌then◌else◌, Option, Some, None}
use Rattle.std.specs.List.{list_any, list_all}
use Rattle.std.specs.Str.{bytes_eq}
use Rattle.std.proofs.lemmas.Bool.{leb-true, lt-leb, ne_eqb, eqb-true}
use Rattle.std.proofs.lemmas.List.{get_or_past, get_or-take, get_or-drop}
use Rattle.vlog_tree.specs.declared.token.Kind.{Kind}
use Rattle.vlog_tree.specs.declared.token.Number.{Number}
use Rattle.vlog_read_lex.specs.declared.class.Class.{Class}
use Rattle.vlog_read_lex.specs.declared.class.Class.TheVariants as class
use Rattle.vlog_read_lex.specs.declared.class.Base.{Base}
use Rattle.vlog_read_lex.specs.declared.number.Size.{Size}
use Rattle.vlog_read_lex.specs.declared.number.Size.TheVariants as size
use Rattle.vlog_read_lex.specs.declared.piece.Piece.{Piece}
use Rattle.vlog_read_lex.specs.declared.piece.Piece.TheVariants as piece
use Rattle.vlog_read_lex.specs.Bytes.{has, is_space, is_digit, is_letter}
use Rattle.vlog_read_lex.specs.Places.{has_pair, run_end, closing}
use Rattle.vlog_read_lex.specs.Words.{is_among, is_outside_word}
use Rattle.vlog_read_lex.specs.Signs.{arithmetic_signs, comparison_signs, bitwise_signs, bracket_signs, separator_signs, outside_signs, is_outside_sign, is_sign, is_sign_of, sign_size}
use Rattle.vlog_read_lex.specs.Numbers.{base_of, size_of, has_unknown, based_number, decimal_number}
use Rattle.vlog_read_lex.specs.Pieces.{gap_to, number_piece, digits_at, based_by, based_at, quoted_at, number_at, sign_at, slash_at, paren_at, tick_at, dollar_at, word_at, plain_at, seen, piece_at, is_skipped}
use Rattle.vlog_read_lex.specs.Laws.{IsRun, Stands}
use Rattle.vlog_read_lex.specs.Longest.{AllOf, Spelt, TokensAreLongest}
use Rattle.vlog_read_lex.specs.Longest.Spelt.{word, digits, sign}
use Rattle.vlog_read_lex.proofs.NumberLemmas.{lt_or_le}
use Rattle.std.proofs.lemmas.Slice.Eq.{bytes_eq-Decides}
use Rattle.vlog_read_lex.proofs.LongestLemmas.{runs_are_longest, signs_are_longest}

or_true : (a b : Bool) → (a || b) ≡ true → (a ≡ true) ⊎ (b ≡ true)
or_true true b h = inl refl
or_true false b h = inr h

and_true : (a b : Bool) → (a && b) ≡ true → (a ≡ true) × (b ≡ true)
and_true true b h = (refl, h)
and_true false b h = (h, absurd (cc))

-- what holds of each text of a table holds of a text that is among them
among_all : (p : List ℕ → Bool) (texts : List (List ℕ)) (s : List ℕ) → list_all p texts ≡ true → is_among texts s ≡ true → p s ≡ true
among_all p [] s all h = absurd (cc)
among_all p (t ∷ ts) s all h = elim (or_true (bytes_eq s t) (list_any (bytes_eq s) ts) h) [
  | inl e ↦ subst (λ (u : List ℕ). p u ≡ true) (sym ((bytes_eq-Decides s t).0 e)) (and_true (p t) (list_all p ts) all).0
  | inr r ↦ among_all p ts s (and_true (p t) (list_all p ts) all).1 r
]

sign_all : (p : List ℕ → Bool) (s : List ℕ) → list_all p arithmetic_signs ≡ true → list_all p comparison_signs ≡ true → list_all p bitwise_signs ≡ true
    → list_all p bracket_signs ≡ true → list_all p separator_signs ≡ true → list_all p outside_signs ≡ true → is_sign s ≡ true → p s ≡ true
unfolding is_sign
sign_all p s a b c d e f h = elim (or_true _ _ h) [
  | inr x ↦ among_all p outside_signs s f x
  | inl h1 ↦ elim (or_true _ _ h1) [
    | inr x ↦ among_all p separator_signs s e x
    | inl h2 ↦ elim (or_true _ _ h2) [
      | inr x ↦ among_all p bracket_signs s d x
      | inl h3 ↦ elim (or_true _ _ h3) [
        | inr x ↦ among_all p bitwise_signs s c x
        | inl h4 ↦ elim (or_true _ _ h4) [
          | inr x ↦ among_all p comparison_signs s b x
          | inl x ↦ among_all p arithmetic_signs s a x
        ]
      ]
    ]
  ]
]

-- where a token of either language ends
token_end : Piece → Option ℕ
token_end (piece.Token k j) = Some j
token_end (piece.Outside j) = Some j
token_end (piece.Gap j) = None
token_end piece.NoNumber = None
token_end piece.NoToken = None

seen_end : (set : Bool) (p : Piece) (k : Kind) (m : ℕ) → seen set p ≡ piece.Token k m → token_end p ≡ Some m
unfolding token_end
seen_end true (piece.Token l j) k m e = let q : j ≡ m = cc in ap (λ (n : ℕ). Some n) q
seen_end true (piece.Outside j) k m e = let q : j ≡ m = cc in ap (λ (n : ℕ). Some n) q
seen_end true (piece.Gap j) k m e = absurd (cc)
seen_end true piece.NoNumber k m e = absurd (cc)
seen_end true piece.NoToken k m e = absurd (cc)
seen_end false (piece.Token l j) k m e = let q : j ≡ m = cc in ap (λ (n : ℕ). Some n) q
seen_end false (piece.Outside j) k m e = absurd (cc)
seen_end false (piece.Gap j) k m e = absurd (cc)
seen_end false piece.NoNumber k m e = absurd (cc)
seen_end false piece.NoToken k m e = absurd (cc)

no_end : (m : ℕ) → ◌≡◌ {A = Option ℕ} None (Some m) → ⊥
no_end m e = cc

-- ---- runs

reaches : (class : Class) (bs : List ℕ) (i j : ℕ) → i ≤ length bs → AllOf class bs i j → j ≤ run_end class bs i
reaches class bs i j le a =
    let r = runs_are_longest class bs i le in
    elim (lt_or_le (run_end class bs i) j (nat_lt (run_end class bs i) j) refl) [
      | inr done ↦ done
      | inl lt ↦
          let yes : has class (get_or bs (run_end class bs i) 0) ≡ true = a.2 (run_end class bs i) r.from lt in
          let no : has class (get_or bs (run_end class bs i) 0) ≡ false = r.ends (omega (arith, lt, a.1)) in
          absurd (cc)
    ]

goes_on : (class : Class) (bs : List ℕ) (i : ℕ) → i ≤ length bs → i ≤ run_end class bs i
goes_on class bs i le = (runs_are_longest class bs i le).from

stays : (class : Class) (bs : List ℕ) (i : ℕ) → i ≤ length bs → run_end class bs i ≤ length bs
stays class bs i le = (runs_are_longest class bs i le).within

-- ---- numbers

number_end : (o : Option Number) (to m : ℕ) → token_end (number_piece o to) ≡ Some m → to ≡ m
unfolding token_end
number_end (Some n) to m e = cc
number_end None to m e = absurd (no_end m e)

outside_or_number : (u : Bool) (o : Option Number) (to m : ℕ) → token_end (if u then piece.Outside to else number_piece o to) ≡ Some m → to ≡ m
unfolding token_end
outside_or_number true o to m e = cc
outside_or_number false o to m e = number_end o to m e

digits_end : (size : Size) (signed : Bool) (base : Base) (bs : List ℕ) (s m : ℕ) → s ≤ length bs → token_end (digits_at size signed base bs s) ≡ Some m → s ≤ m
unfolding digits_at
digits_end size signed base bs s m le e =
    let from : ℕ = run_end class.Space bs s in
    let to : ℕ = run_end (class.Digits base) bs from in
    let a = goes_on class.Space bs s le in
    let b = goes_on (class.Digits base) bs from (stays class.Space bs s le) in
    let q : to ≡ m = outside_or_number (has_unknown (slice_range bs from to)) (based_number size signed base (slice_range bs from to)) to m e in
    omega (arith, a, b, q)

no_number : (m : ℕ) → token_end piece.NoNumber ≡ Some m → ⊥
unfolding token_end
no_number m e = no_end m e

no_token : (m : ℕ) → token_end piece.NoToken ≡ Some m → ⊥
unfolding token_end
no_token m e = no_end m e

no_gap : (j m : ℕ) → token_end (piece.Gap j) ≡ Some m → ⊥
unfolding token_end
no_gap j m e = no_end m e

based_by_end : (o : Option Base) (size : Size) (signed : Bool) (bs : List ℕ) (s m : ℕ) → s ≤ length bs → token_end (based_by o size signed bs s) ≡ Some m → s ≤ m
based_by_end (Some base) size signed bs s m le e = digits_end size signed base bs s m le e
based_by_end None size signed bs s m le e = absurd (no_number m e)

based_end : (size : Size) (signed : Bool) (bs : List ℕ) (p m : ℕ) → token_end (based_at size signed bs p) ≡ Some m → p ≤ m
unfolding based_at
based_end size signed bs p m e = elim (lt_or_le p (length bs) (nat_lt p (length bs)) refl) [
  | inl lt ↦
      let r : p + 1 ≤ m = based_by_end (base_of (get_or bs p 0)) size signed bs (p + 1) m (omega (arith, lt)) e in omega (arith, r)
  | inr le ↦ absurd (no_number m (rw (get_or_past bs p 0 le) at e))
]

quoted_by : (u : Bool) (size : Size) (bs : List ℕ) (q m : ℕ) → token_end (if u then based_at size true bs (q + 2) else based_at size false bs (q + 1)) ≡ Some m → q ≤ m
quoted_by true size bs q m e = let r = based_end size true bs (q + 2) m e in omega (arith, r)
quoted_by false size bs q m e = let r = based_end size false bs (q + 1) m e in omega (arith, r)

quoted_end : (size : Size) (bs : List ℕ) (q m : ℕ) → token_end (quoted_at size bs q) ≡ Some m → q ≤ m
unfolding quoted_at
quoted_end size bs q m e = quoted_by ((get_or bs (q + 1) 0 == 115) || (get_or bs (q + 1) 0 == 83)) size bs q m e

number_by : (u : Bool) (size : Size) (o : Option Number) (bs : List ℕ) (to mark m : ℕ) → to ≤ mark
    → token_end (if u then quoted_at size bs mark else number_piece o to) ≡ Some m → to ≤ m
number_by true size o bs to mark m le e = let r = quoted_end size bs mark m e in omega (arith, r, le)
number_by false size o bs to mark m le e = let q = number_end o to m e in omega (arith, q)

number_at_end : (bs : List ℕ) (i m : ℕ) → i < length bs → token_end (number_at bs i) ≡ Some m → run_end class.Decimal bs (i + 1) ≤ m
unfolding number_at
number_at_end bs i m lt e =
    let to : ℕ = run_end class.Decimal bs (i + 1) in
    let mark : ℕ = run_end class.Space bs to in
    number_by (get_or bs mark 0 == 39) (size_of (slice_range bs i to)) (decimal_number (slice_range bs i to)) bs to mark m
    (goes_on class.Space bs to (stays class.Decimal bs (i + 1) (omega (arith, lt)))) e

-- ---- words

word_by : (u : Bool) (k : Kind) (to m : ℕ) → token_end (if u then piece.Outside to else piece.Token k to) ≡ Some m → to ≡ m
unfolding token_end
word_by true k to m e = cc
word_by false k to m e = cc

word_at_end : (bs : List ℕ) (i m : ℕ) → token_end (word_at bs i) ≡ Some m → run_end class.Word bs (i + 1) ≡ m
unfolding word_at
word_at_end bs i m e =
    let to : ℕ = run_end class.Word bs (i + 1) in
    word_by (is_outside_word (slice_range bs i to)) _ to m e

-- ---- signs

gap_end : (o : Option ℕ) (m : ℕ) → token_end (gap_to o) ≡ Some m → ⊥
gap_end (Some j) m e = no_gap j m e
gap_end None m e = no_token m e

sign_by : (u v : Bool) (k : Kind) (to m : ℕ) → token_end (if u then piece.NoToken else (if v then piece.Outside to else piece.Token k to)) ≡ Some m → to ≡ m
sign_by true v k to m e = absurd (no_token m e)
sign_by false v k to m e = word_by v k to m e

sign_end : (bs : List ℕ) (i m : ℕ) → token_end (sign_at bs i) ≡ Some m → i + sign_size bs i ≡ m
unfolding sign_at
sign_end bs i m e = sign_by (sign_size bs i == 0) _ _ (i + sign_size bs i) m e

slash_by : (u v : Bool) (j : ℕ) (o : Option ℕ) (bs : List ℕ) (i m : ℕ)
    → token_end (if u then piece.Gap j else (if v then gap_to o else sign_at bs i)) ≡ Some m → i + sign_size bs i ≡ m
slash_by true v j o bs i m e = absurd (no_gap j m e)
slash_by false true j o bs i m e = absurd (gap_end o m e)
slash_by false false j o bs i m e = sign_end bs i m e

slash_end : (bs : List ℕ) (i m : ℕ) → token_end (slash_at bs i) ≡ Some m → i + sign_size bs i ≡ m
unfolding slash_at
slash_end bs i m e = slash_by (has_pair 47 47 bs i) (has_pair 47 42 bs i) (run_end class.Line bs (i + 2)) (closing 47 bs (i + 2)) bs i m e

paren_by : (u : Bool) (o : Option ℕ) (bs : List ℕ) (i m : ℕ) → token_end (if u then gap_to o else sign_at bs i) ≡ Some m → i + sign_size bs i ≡ m
paren_by true o bs i m e = absurd (gap_end o m e)
paren_by false o bs i m e = sign_end bs i m e

paren_end : (bs : List ℕ) (i m : ℕ) → token_end (paren_at bs i) ≡ Some m → i + sign_size bs i ≡ m
unfolding paren_at
paren_end bs i m e =
    paren_by (has_pair 40 42 bs i && not (get_or bs (run_end class.Space bs (i + 2)) 0 == 41)) (closing 41 bs (i + 2)) bs i m e

any_sign_end : (u v : Bool) (bs : List ℕ) (i m : ℕ) → token_end (if u then slash_at bs i else (if v then paren_at bs i else sign_at bs i)) ≡ Some m
    → i + sign_size bs i ≡ m
any_sign_end true v bs i m e = slash_end bs i m e
any_sign_end false true bs i m e = paren_end bs i m e
any_sign_end false false bs i m e = sign_end bs i m e

-- ---- first bytes

apart : (c n : ℕ) → (c < n) ⊎ (n < c) → (c == n) ≡ false
apart c n (inl lt) = ne_eqb c n (λ e. absurd (omega (arith, lt, e)))
apart c n (inr lt) = ne_eqb c n (λ e. absurd (omega (arith, lt, e)))

over : (c n : ℕ) → n < c → (c == n) ≡ false
over c n lt = apart c n (inr lt)

no_space : (c : ℕ) → 33 ≤ c → is_space c ≡ false
no_space c h =
    rw (over c 32 (omega (arith, h)), over c 9 (omega (arith, h)), over c 10 (omega (arith, h)), over c 13 (omega (arith, h)), over c 12 (omega (arith, h))) refl

-- a letter is from 65 on, and no backtick
letter_is : (c : ℕ) → is_letter c ≡ true → (65 ≤ c) × ((c == 96) ≡ false)
letter_is c h = elim (or_true _ _ h) [
  | inr e ↦ let q : c ≡ 95 = eqb-true c 95 e in (omega (arith, q), apart c 96 (inl (omega (arith, q))))
  | inl g ↦ elim (or_true _ _ g) [
    | inl u ↦
        let b = and_true (nat_le 65 c) (nat_le c 90) u in
        let lo : 65 ≤ c = leb-true 65 c b.0 in
        let hi : c ≤ 90 = leb-true c 90 b.1 in
        (lo, apart c 96 (inl (omega (arith, hi))))
    | inr l ↦
        let b = and_true (nat_le 97 c) (nat_le c 122) l in
        let lo : 97 ≤ c = leb-true 97 c b.0 in
        (omega (arith, lo), apart c 96 (inr (omega (arith, lo))))
  ]
]

digit_is : (c : ℕ) → is_digit c ≡ true → (48 ≤ c) × (c ≤ 57)
digit_is c h = let b = and_true (nat_le 48 c) (nat_le c 57) h in (leb-true 48 c b.0, leb-true c 57 b.1)

no_letter : (c : ℕ) → c ≤ 57 → is_letter c ≡ false
no_letter c h = rw (lt-leb 65 c (omega (arith, h)), lt-leb 97 c (omega (arith, h)), apart c 95 (inl (omega (arith, h)))) refl

-- what no sign begins with
begins_other : ℕ → Bool
begins_other c = is_space c || (c == 96) || (c == 36) || is_letter c || is_digit c || (c == 39)

begins_sign : List ℕ → Bool
begins_sign t = nat_le 1 (length t) && not (begins_other (get_or t 0 0))

sign_begins : (s : List ℕ) → is_sign s ≡ true → begins_sign s ≡ true
unfolding begins_sign begins_other
sign_begins s h = sign_all begins_sign s refl refl refl refl refl refl h

or_false : (a b : Bool) → (a || b) ≡ false → (a ≡ false) × (b ≡ false)
or_false true b h = absurd (cc)
or_false false b h = (refl, h)

not_true : (b : Bool) → not b ≡ true → b ≡ false
not_true true h = absurd (cc)
not_true false h = refl

-- ---- what begins at a place, by the tests on its first byte

by_byte : (space slash paren tick dollar letter digit quote : Bool) (g a b t d w n q s : Piece) → Piece
by_byte space slash paren tick dollar letter digit quote g a b t d w n q s =
    if space then g else (
    if slash then a else (
    if paren then b else (
    if tick then t else (
    if dollar then d else (
    if letter then w else (
    if digit then n else (
    if quote then q else s)))))))

plain_by : Bool → List ℕ → ℕ → Piece
plain_by set bs i =
    let c = get_or bs i 0 in
    by_byte (is_space c) (c == 47) ((c == 40) && not set) (c == 96) (c == 36) (is_letter c) (is_digit c) (c == 39)
    (piece.Gap (i + 1)) (slash_at bs i) (paren_at bs i) (tick_at set bs i) (dollar_at bs i) (word_at bs i) (number_at bs i) (quoted_at size.Unsized bs i) (sign_at bs i)

plain_is : (set : Bool) (bs : List ℕ) (i : ℕ) → plain_at set bs i ≡ plain_by set bs i
unfolding plain_at plain_by by_byte
plain_is set bs i = refl

word_case : (letter : Bool) (space slash paren tick dollar digit quote : Bool) (g a b t d w n q s : Piece) → letter ≡ true → space ≡ false
    → slash ≡ false → paren ≡ false → tick ≡ false → dollar ≡ false → by_byte space slash paren tick dollar letter digit quote g a b t d w n q s ≡ w
unfolding by_byte
word_case l sp sl pa ti dl di qu g a b t d w n q s x1 x2 x3 x4 x5 x6 = rw (x1, x2, x3, x4, x5, x6) refl

digit_case : (letter : Bool) (space slash paren tick dollar digit quote : Bool) (g a b t d w n q s : Piece) → digit ≡ true → letter ≡ false → space ≡ false
    → slash ≡ false → paren ≡ false → tick ≡ false → dollar ≡ false → by_byte space slash paren tick dollar letter digit quote g a b t d w n q s ≡ n
unfolding by_byte
digit_case l sp sl pa ti dl di qu g a b t d w n q s x1 x2 x3 x4 x5 x6 x7 = rw (x1, x2, x3, x4, x5, x6, x7) refl

sign_case : (letter : Bool) (space slash paren tick dollar digit quote : Bool) (g a b t d w n q s : Piece) → digit ≡ false → letter ≡ false → space ≡ false
    → tick ≡ false → dollar ≡ false → quote ≡ false
    → by_byte space slash paren tick dollar letter digit quote g a b t d w n q s ≡ (if slash then a else (if paren then b else s))
unfolding by_byte
sign_case l sp sl pa ti dl di qu g a b t d w n q s x1 x2 x3 x4 x5 x6 = rw (x1, x2, x3, x4, x5, x6) refl

false_and : (a b : Bool) → a ≡ false → (a && b) ≡ false
false_and a b h = rw h refl

word_plain : (set : Bool) (bs : List ℕ) (i : ℕ) → is_letter (get_or bs i 0) ≡ true → plain_at set bs i ≡ word_at bs i
unfolding plain_by
word_plain set bs i h =
    let c : ℕ = get_or bs i 0 in
    let b = letter_is c h in
    plain_is set bs i ∙ word_case (is_letter c) (is_space c) (c == 47) ((c == 40) && not set) (c == 96) (c == 36) (is_digit c) (c == 39) _ _ _ _ _ _ _ _ _
    h (no_space c (omega (arith, b.0))) (over c 47 (omega (arith, b.0))) (false_and _ _ (over c 40 (omega (arith, b.0)))) b.1 (over c 36 (omega (arith, b.0)))

number_plain : (set : Bool) (bs : List ℕ) (i : ℕ) → is_digit (get_or bs i 0) ≡ true → plain_at set bs i ≡ number_at bs i
unfolding plain_by
number_plain set bs i h =
    let c : ℕ = get_or bs i 0 in
    let b = digit_is c h in
    plain_is set bs i ∙ digit_case (is_letter c) (is_space c) (c == 47) ((c == 40) && not set) (c == 96) (c == 36) (is_digit c) (c == 39) _ _ _ _ _ _ _ _ _
    h (no_letter c b.1) (no_space c (omega (arith, b.0))) (over c 47 (omega (arith, b.0))) (false_and _ _ (over c 40 (omega (arith, b.0))))
    (apart c 96 (inl (omega (arith, b.1)))) (over c 36 (omega (arith, b.0)))

sign_plain : (set : Bool) (bs : List ℕ) (i m : ℕ) → begins_other (get_or bs i 0) ≡ false → token_end (plain_at set bs i) ≡ Some m → i + sign_size bs i ≡ m
unfolding plain_by begins_other
sign_plain set bs i m h e =
    let c : ℕ = get_or bs i 0 in
    let f5 = or_false _ _ h in
    let f4 = or_false _ _ f5.0 in
    let f3 = or_false _ _ f4.0 in
    let f2 = or_false _ _ f3.0 in
    let f1 = or_false _ _ f2.0 in
    let is = plain_is set bs i ∙ sign_case (is_letter c) (is_space c) (c == 47) ((c == 40) && not set) (c == 96) (c == 36) (is_digit c) (c == 39) _ _ _ _ _ _ _ _ _
    f4.1 f3.1 f1.0 f1.1 f2.1 f5.1 in
    any_sign_end (c == 47) ((c == 40) && not set) bs i m (ap token_end (sym is) ∙ e)

-- ---- the law

first_byte : (bs : List ℕ) (i : ℕ) (s : List ℕ) → 1 ≤ length s → Stands s bs i → get_or s 0 0 ≡ get_or bs i 0
first_byte bs i s h st =
    let n : 0 < i + length s - i = omega (arith, h) in
    let z : i + 0 ≡ i = omega arith in
    ap (λ (t : List ℕ). get_or t 0 0) (sym st.1) ∙ get_or-take (i + length s - i) (drop i bs) 0 0 n ∙ get_or-drop i bs 0 0 ∙ ap (λ (k : ℕ). get_or bs k 0) z

sign_parts : (s : List ℕ) → is_sign s ≡ true → (nat_le 1 (length s) && not (begins_other (get_or s 0 0))) ≡ true
unfolding begins_sign
sign_parts s h = sign_begins s h

reached : (set : Bool) (bs : List ℕ) (i j m : ℕ) → i < length bs → token_end (plain_at set bs i) ≡ Some m → Spelt bs i j → j ≤ m
reached set bs i j m lt e (word l a) =
    let w : token_end (word_at bs i) ≡ Some m = ap token_end (sym (word_plain set bs i l)) ∙ e in
    let q : run_end class.Word bs (i + 1) ≡ m = word_at_end bs i m w in
    let r = reaches class.Word bs (i + 1) j (omega (arith, lt)) a in omega (arith, q, r)
reached set bs i j m lt e (digits d a) =
    let n : token_end (number_at bs i) ≡ Some m = ap token_end (sym (number_plain set bs i d)) ∙ e in
    let q = number_at_end bs i m lt n in
    let r = reaches class.Decimal bs (i + 1) j (omega (arith, lt)) a in omega (arith, q, r)
reached set bs i j m lt e (sign s h st) =
    let b = and_true _ _ (sign_parts s h) in
    let other : begins_other (get_or bs i 0) ≡ false = ap begins_other (sym (first_byte bs i s (leb-true 1 (length s) b.0) st)) ∙ not_true _ b.1 in
    let q = sign_plain set bs i m other e in
    let r = signs_are_longest bs i s h st in omega (arith, q, r)

pub tokens_are_longest : TokensAreLongest
unfolding piece_at
tokens_are_longest set bs i j m k lt e sp = reached set bs i j m lt (seen_end set (plain_at set bs i) k m e) sp
