-- No word of a text has a dot.
use Rattle.std.proofs.Common.{◌≡◌, ℕ, zero, suc, ◌+◌, ◌-◌, ◌<◌, ◌≤◌, ◌&&◌, ◌||◌, ◌==◌, Bool, true, false, not, List, [], ◌∷◌, length, get_or, take, drop, refl, ap, subst, ◌∙◌, inl, inr, arith}
use Rattle.std.specs.Prelude.{nat_eq, slice_range, if◌then◌else◌, Option, Some, None}
use Rattle.std.proofs.Math.Nat.{eq-or-lt_of_le}
use Rattle.std.proofs.lemmas.Bool.{ne_eqb}
use Rattle.std.proofs.lemmas.List.{get_or-drop}
use Rattle.vlog_tree.specs.declared.token.Kind.{Kind}
use Rattle.vlog_tree.specs.declared.token.Kind.TheVariants as kind
use Rattle.vlog_tree.specs.declared.token.Number.{Number}
use Rattle.vlog_tree.specs.declared.token.Token.{Token}
use Rattle.vlog_tree.specs.Signs.{kind_at, IsWord}
use Rattle.vlog_read_lex.specs.declared.class.Class.TheVariants as class
use Rattle.vlog_read_lex.specs.declared.class.Base.{Base}
use Rattle.vlog_read_lex.specs.declared.number.Size.{Size}
use Rattle.vlog_read_lex.specs.declared.number.Size.TheVariants as size
use Rattle.vlog_read_lex.specs.declared.piece.Piece.{Piece}
use Rattle.vlog_read_lex.specs.declared.piece.Piece.TheVariants as piece
use Rattle.vlog_read_lex.specs.Bytes.{is_space, is_digit, is_letter, is_word}
use Rattle.vlog_read_lex.specs.Places.{has_pair, run_end, closing}
use Rattle.vlog_read_lex.specs.Words.{is_outside_word}
use Rattle.vlog_read_lex.specs.Signs.{is_outside_sign, sign_size}
use Rattle.vlog_read_lex.specs.Numbers.{base_of, size_of, has_unknown, based_number, decimal_number}
use Rattle.vlog_read_lex.specs.Pieces.{gap_to, number_piece, digits_at, based_by, based_at, quoted_at, number_at, sign_at, slash_at, paren_at, tick_at, dollar_at, word_at, plain_at, seen, piece_at, is_skipped, is_function}
use Rattle.vlog_read_lex.specs.Tokens.{Pieces}
use Rattle.vlog_read_lex.specs.Tokens.Pieces.{none, gap, token}
use Rattle.vlog_read_lex.proofs.LongestLemmas.{runs_are_longest}
use Rattle.elab_flat_laws.specs.Uses.{has_dot}

-- ---- bytes

no_dot : (p : ℕ → Bool) (c : ℕ) → p 46 ≡ false → p c ≡ true → nat_eq c 46 ≡ false
no_dot p c at_dot h = ne_eqb c 46 (λ e. let t : p 46 ≡ true = subst (λ n. p n ≡ true) e h in absurd (cc))

taken_simple : (n : ℕ) (xs : List ℕ) → ((k : ℕ) → k < n → nat_eq (get_or xs k 0) 46 ≡ false) → has_dot (take n xs) ≡ false
taken_simple zero xs h = refl
taken_simple (suc n) [] h = refl
taken_simple (suc n) (x ∷ xs) h =
    let e : nat_eq x 46 ≡ false = h 0 (omega arith) in rw e (taken_simple n xs (λ k lt. h (suc k) (omega (arith, lt))))

range_simple : (bs : List ℕ) (i j : ℕ) → ((k : ℕ) → i ≤ k → k < j → nat_eq (get_or bs k 0) 46 ≡ false) → has_dot (slice_range bs i j) ≡ false
range_simple bs i j h =
    taken_simple (j - i) (drop i bs) (λ k lt. ap (λ n. nat_eq n 46) (get_or-drop i bs k 0) ∙ h (i + k) (omega arith) (omega (arith, lt)))

-- a byte that is no dot, and a run of those of words
run_simple : (bs : List ℕ) (i : ℕ) → i < length bs → nat_eq (get_or bs i 0) 46 ≡ false → has_dot (slice_range bs i (run_end class.Word bs (i + 1))) ≡ false
run_simple bs i lt h =
    let r = runs_are_longest class.Word bs (i + 1) (omega (arith, lt)) in
    range_simple bs i (run_end class.Word bs (i + 1)) (λ k lo hi. elim (eq-or-lt_of_le lo) [
      | inl e ↦ subst (λ (n : ℕ). nat_eq (get_or bs n 0) 46 ≡ false) e h
      | inr more ↦ no_dot is_word (get_or bs k 0) refl (r.each k (omega (arith, more)) hi)
    ])

-- ---- pieces

-- where a piece is a word, it has no dot
IsSimple : Piece → Type 0
IsSimple (piece.Token (kind.Word w) j) = has_dot w ≡ false
IsSimple (piece.Token (kind.Number n) j) = Unit {0}
IsSimple (piece.Token (kind.Sign s) j) = Unit {0}
IsSimple (piece.Token kind.Outside j) = Unit {0}
IsSimple (piece.Gap j) = Unit {0}
IsSimple (piece.Outside j) = Unit {0}
IsSimple piece.NoNumber = Unit {0}
IsSimple piece.NoToken = Unit {0}

gap_is : (j : ℕ) → IsSimple (piece.Gap j)
unfolding IsSimple
gap_is j = tt

outside_is : (j : ℕ) → IsSimple (piece.Outside j)
unfolding IsSimple
outside_is j = tt

no_number_is : IsSimple piece.NoNumber
unfolding IsSimple
no_number_is = tt

no_token_is : IsSimple piece.NoToken
unfolding IsSimple
no_token_is = tt

sign_is : (s : List ℕ) (j : ℕ) → IsSimple (piece.Token (kind.Sign s) j)
unfolding IsSimple
sign_is s j = tt

number_is : (n : Number) (j : ℕ) → IsSimple (piece.Token (kind.Number n) j)
unfolding IsSimple
number_is n j = tt

word_is : (w : List ℕ) (j : ℕ) → has_dot w ≡ false → IsSimple (piece.Token (kind.Word w) j)
unfolding IsSimple
word_is w j h = h

is_word_simple : (w : List ℕ) (j : ℕ) → IsSimple (piece.Token (kind.Word w) j) → has_dot w ≡ false
unfolding IsSimple
is_word_simple w j h = h

either : (b : Bool) (p q : Piece) → (b ≡ true → IsSimple p) → (b ≡ false → IsSimple q) → IsSimple (if b then p else q)
either true p q f g = f refl
either false p q f g = g refl

gap_simple : (o : Option ℕ) → IsSimple (gap_to o)
gap_simple (Some j) = gap_is j
gap_simple None = no_token_is

number_simple : (o : Option Number) (j : ℕ) → IsSimple (number_piece o j)
number_simple (Some n) j = number_is n j
number_simple None j = no_number_is

digits_simple : (size : Size) (signed : Bool) (base : Base) (bs : List ℕ) (i : ℕ) → IsSimple (digits_at size signed base bs i)
unfolding digits_at
digits_simple size signed base bs i =
    let from : ℕ = run_end class.Space bs i in
    let to : ℕ = run_end (class.Digits base) bs from in
    either (has_unknown (slice_range bs from to)) _ _ (λ _. outside_is to) (λ _. number_simple (based_number size signed base (slice_range bs from to)) to)

based_by_simple : (o : Option Base) (size : Size) (signed : Bool) (bs : List ℕ) (i : ℕ) → IsSimple (based_by o size signed bs i)
based_by_simple (Some base) size signed bs i = digits_simple size signed base bs i
based_by_simple None size signed bs i = no_number_is

based_simple : (size : Size) (signed : Bool) (bs : List ℕ) (i : ℕ) → IsSimple (based_at size signed bs i)
unfolding based_at
based_simple size signed bs i = based_by_simple (base_of (get_or bs i 0)) size signed bs (i + 1)

quoted_simple : (size : Size) (bs : List ℕ) (i : ℕ) → IsSimple (quoted_at size bs i)
unfolding quoted_at
quoted_simple size bs i = either ((get_or bs (i + 1) 0 == 115) || (get_or bs (i + 1) 0 == 83)) _ _ (λ _. based_simple size true bs (i + 2)) (λ _. based_simple size false bs (i + 1))

digit_simple : (bs : List ℕ) (i : ℕ) → IsSimple (number_at bs i)
unfolding number_at
digit_simple bs i =
    let to : ℕ = run_end class.Decimal bs (i + 1) in
    let mark : ℕ = run_end class.Space bs to in
    either (get_or bs mark 0 == 39) _ _ (λ _. quoted_simple (size_of (slice_range bs i to)) bs mark) (λ _. number_simple (decimal_number (slice_range bs i to)) to)

sign_simple : (bs : List ℕ) (i : ℕ) → IsSimple (sign_at bs i)
unfolding sign_at
sign_simple bs i =
    let to : ℕ = i + sign_size bs i in
    either (sign_size bs i == 0) _ _ (λ _. no_token_is) (λ _. either (is_outside_sign (slice_range bs i to)) _ _ (λ _. outside_is to) (λ _. sign_is (slice_range bs i to) to))

slash_simple : (bs : List ℕ) (i : ℕ) → IsSimple (slash_at bs i)
unfolding slash_at
slash_simple bs i =
    either (has_pair 47 47 bs i) _ _ (λ _. gap_is (run_end class.Line bs (i + 2)))
    (λ _. either (has_pair 47 42 bs i) _ _ (λ _. gap_simple (closing 47 bs (i + 2))) (λ _. sign_simple bs i))

paren_simple : (bs : List ℕ) (i : ℕ) → IsSimple (paren_at bs i)
unfolding paren_at
paren_simple bs i =
    either (has_pair 40 42 bs i && not (get_or bs (run_end class.Space bs (i + 2)) 0 == 41)) _ _ (λ _. gap_simple (closing 41 bs (i + 2))) (λ _. sign_simple bs i)

tick_simple : (set : Bool) (bs : List ℕ) (i : ℕ) → IsSimple (tick_at set bs i)
unfolding tick_at
tick_simple set bs i =
    let to : ℕ = run_end class.Word bs (i + 1) in
    either (not set && is_skipped (slice_range bs i to)) _ _ (λ _. gap_is (run_end class.Line bs to)) (λ _. outside_is to)

dollar_simple : (bs : List ℕ) (i : ℕ) → i < length bs → nat_eq (get_or bs i 0) 46 ≡ false → IsSimple (dollar_at bs i)
unfolding dollar_at
dollar_simple bs i lt h =
    let to : ℕ = run_end class.Word bs (i + 1) in
    either (is_function (slice_range bs i to)) _ _ (λ _. word_is (slice_range bs i to) to (run_simple bs i lt h)) (λ _. outside_is to)

word_simple : (bs : List ℕ) (i : ℕ) → i < length bs → nat_eq (get_or bs i 0) 46 ≡ false → IsSimple (word_at bs i)
unfolding word_at
word_simple bs i lt h =
    let to : ℕ = run_end class.Word bs (i + 1) in
    either (is_outside_word (slice_range bs i to)) _ _ (λ _. outside_is to) (λ _. word_is (slice_range bs i to) to (run_simple bs i lt h))

plain_simple : (set : Bool) (bs : List ℕ) (i : ℕ) → i < length bs → IsSimple (plain_at set bs i)
unfolding plain_at
plain_simple set bs i lt =
    let c : ℕ = get_or bs i 0 in
    either (is_space c) _ _ (λ _. gap_is (i + 1))
    (λ _. either (c == 47) _ _ (λ _. slash_simple bs i)
    (λ _. either ((c == 40) && not set) _ _ (λ _. paren_simple bs i)
    (λ _. either (c == 96) _ _ (λ _. tick_simple set bs i)
    (λ _. either (c == 36) _ _ (λ h. dollar_simple bs i lt (no_dot (λ n. n == 36) c refl h))
    (λ _. either (is_letter c) _ _ (λ h. word_simple bs i lt (no_dot is_letter c refl h))
    (λ _. either (is_digit c) _ _ (λ _. digit_simple bs i)
    (λ _. either (c == 39) _ _ (λ _. quoted_simple size.Unsized bs i) (λ _. sign_simple bs i))))))))

seen_simple : (p : Piece) → IsSimple p → IsSimple (seen false p)
seen_simple (piece.Token k j) h = h
seen_simple (piece.Gap j) h = h
seen_simple (piece.Outside j) h = h
seen_simple piece.NoNumber h = h
seen_simple piece.NoToken h = h

piece_simple : (bs : List ℕ) (i : ℕ) → i < length bs → IsSimple (piece_at false bs i)
unfolding piece_at
piece_simple bs i lt = seen_simple (plain_at false bs i) (plain_simple false bs i lt)

-- ---- tokens

pub word_has_no_dot : (bs : List ℕ) (i j : ℕ) (ts : List Token) → Pieces false bs i ts j → (n : ℕ) (w : List ℕ) → IsWord ts n w → has_dot w ≡ false
unfolding kind_at
word_has_no_dot bs i j ts none n w h = absurd (cc)
word_has_no_dot bs i j ts (gap lt p rest) n w h = word_has_no_dot bs _ j ts rest n w h
word_has_no_dot bs i j ts (token t lt at p rest) zero w h =
    let k : t.kind ≡ kind.Word w = cc in
    is_word_simple w t.end (subst (λ (x : Kind). IsSimple (piece.Token x t.end)) k (subst IsSimple p (piece_simple bs i lt)))
word_has_no_dot bs i j ts (token {ts = tail} t lt at p rest) (suc n) w h = word_has_no_dot bs t.end j tail rest n w h
