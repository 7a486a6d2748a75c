-- Numbers of decimal digits alone are below 2^32.
use Rattle.std.proofs.Common.{◌≡◌, ℕ, zero, suc, ◌+◌, ◌<◌, ◌^◌, List, [], ◌∷◌, Option, Some, None, Bool, true, false, refl, subst}
use Rattle.std.specs.Prelude.{◌&&◌, ◌||◌, ◌==◌, not, nat_lt, if◌then◌else◌, slice_get, slice_index, slice_range}
use Rattle.std.specs.Option.{option_map}
use Rattle.std.proofs.lemmas.Bool.{ltb-true}
use Rattle.vlog_tree.specs.declared.token.Kind.{Kind}
use Rattle.vlog_tree.specs.declared.token.Kind.TheVariants as k
use Rattle.vlog_tree.specs.declared.token.Number.{Number}
use Rattle.vlog_tree.specs.declared.token.Token.{Token}
use Rattle.vlog_tree.specs.Signs.{kind_at}
use Rattle.vlog_read_lex.specs.declared.class.Base.{Base}
use Rattle.vlog_read_lex.specs.declared.number.Size.{Size}
use Rattle.vlog_read_lex.specs.declared.number.Size.TheVariants as size
use Rattle.vlog_read_lex.specs.declared.piece.Piece.{Piece}
use Rattle.vlog_read_lex.specs.declared.piece.Piece.TheVariants as piece
use Rattle.vlog_read_lex.specs.Numbers.{base_of, size_of, has_unknown, decimal_of, decimal_number, sized_number, based_number, is_spelt, fit, value, has_wild}
use Rattle.vlog_read_lex.specs.Pieces.{gap_to, number_piece, digits_at, based_by, based_at, quoted_at, number_at, sign_at, slash_at, paren_at, tick_at, dollar_at, word_at, plain_at, seen, piece_at, is_skipped, is_function}
use Rattle.vlog_read_lex.specs.Places.{has_pair, run_end, closing}
use Rattle.vlog_read_lex.specs.Bytes.{is_space, is_digit, is_letter}
use Rattle.vlog_read_lex.specs.Signs.{is_outside_sign, sign_size}
use Rattle.vlog_read_lex.specs.Words.{is_outside_word}
use Rattle.vlog_read_lex.specs.declared.class.Base.TheVariants as base
use Rattle.vlog_read_lex.specs.declared.class.Class.TheVariants as class
use Rattle.vlog_read_lex.specs.Tokens.{Pieces, none, gap, token, Lexes}

abbrev pub IsSmall : Number → Type 0
IsSmall n = n.plain ≡ true → n.value < 2 ^ 32

abbrev pub SmallKind : Kind → Type 0
SmallKind (k.Number n) = IsSmall n
SmallKind (k.Word x) = Unit {0}
SmallKind (k.Sign x) = Unit {0}
SmallKind k.Outside = Unit {0}

abbrev SmallPiece : Piece → Type 0
SmallPiece (piece.Token kind j) = SmallKind kind
SmallPiece (piece.Gap j) = Unit {0}
SmallPiece (piece.Outside j) = Unit {0}
SmallPiece piece.NoNumber = Unit {0}
SmallPiece piece.NoToken = Unit {0}

abbrev SmallOption : Option Number → Type 0
SmallOption None = Unit {0}
SmallOption (Some n) = IsSmall n

by : (b : Bool) (x y : Piece) → SmallPiece x → SmallPiece y → SmallPiece (if b then x else y)
by true x y p q = p
by false x y p q = q

by_option : (b : Bool) (x y : Option Number) → (b ≡ true → SmallOption x) → SmallOption y → SmallOption (if b then x else y)
by_option true x y p q = p refl
by_option false x y p q = q

small_number : (o : Option Number) (j : ℕ) → SmallOption o → SmallPiece (number_piece o j)
small_number None j p = tt
small_number (Some n) j p = p

small_gap : (o : Option ℕ) → SmallPiece (gap_to o)
small_gap None = tt
small_gap (Some j) = tt

no_plain : (n : Number) → n.plain ≡ false → IsSmall n
no_plain n f t = absurd (cc)

small_decimal : (ds : List ℕ) (v : Option ℕ) → SmallOption (decimal_of ds v)
small_decimal ds None = tt
small_decimal ds (Some v) = by_option (nat_lt v (2 ^ 32)) _ None (λ t p. ltb-true v (2 ^ 32) t) tt

small_sized : (s : Size) (signed : Bool) (base : Base) (ds : List ℕ) (v : Option ℕ) → SmallOption (sized_number s signed base ds v)
small_sized size.Unsized signed base ds (Some v) = by_option (nat_lt v (2 ^ 32) && not (has_wild ds)) _ None (λ t p. absurd (cc)) tt
small_sized (size.Bits n) signed base ds (Some v) = by_option (not (signed && has_wild ds)) _ None (λ t p. absurd (cc)) tt
small_sized size.Unsized signed base ds None = tt
small_sized (size.Bits n) signed base ds None = tt
small_sized size.Wrong signed base ds (Some v) = tt
small_sized size.Wrong signed base ds None = tt

small_based : (s : Size) (signed : Bool) (base : Base) (ds : List ℕ) → SmallOption (based_number s signed base ds)
small_based s signed base ds = by_option (is_spelt base ds) _ None (λ _. small_sized s signed base ds (fit (value base ds))) tt

small_digits : (s : Size) (signed : Bool) (base : Base) (bs : List ℕ) (i : ℕ) → SmallPiece (digits_at s signed base bs i)
unfolding digits_at
small_digits s signed base bs i =
    let from = run_end class.Space bs i in
    let to = run_end (class.Digits base) bs from in
    let ds = slice_range bs from to in
    by (has_unknown ds) (piece.Outside to) (number_piece (based_number s signed base ds) to) tt (small_number (based_number s signed base ds) to (small_based s signed base ds))

small_base : (o : Option Base) (s : Size) (signed : Bool) (bs : List ℕ) (i : ℕ) → SmallPiece (based_by o s signed bs i)
small_base None s signed bs i = tt
small_base (Some base) s signed bs i = small_digits s signed base bs i

small_letter : (s : Size) (signed : Bool) (bs : List ℕ) (i : ℕ) → SmallPiece (based_at s signed bs i)
unfolding based_at
small_letter s signed bs i = small_base (base_of (slice_index bs i)) s signed bs (i + 1)

small_quoted : (s : Size) (bs : List ℕ) (i : ℕ) → SmallPiece (quoted_at s bs i)
unfolding quoted_at
small_quoted s bs i =
    let b = slice_index bs (i + 1) in
    by ((b == 115) || (b == 83)) (based_at s true bs (i + 2)) (based_at s false bs (i + 1)) (small_letter s true bs (i + 2)) (small_letter s false bs (i + 1))

small_number_at : (bs : List ℕ) (i : ℕ) → SmallPiece (number_at bs i)
unfolding number_at
small_number_at bs i =
    let to = run_end class.Decimal bs (i + 1) in
    let ds = slice_range bs i to in
    let mark = run_end class.Space bs to in
    by (slice_index bs mark == 39) (quoted_at (size_of ds) bs mark) (number_piece (decimal_number ds) to) (small_quoted (size_of ds) bs mark) (small_number (decimal_number ds) to (small_decimal ds (fit (value base.Ten ds))))

small_sign : (bs : List ℕ) (i : ℕ) → SmallPiece (sign_at bs i)
unfolding sign_at
small_sign bs i =
    let n = sign_size bs i in
    let text = slice_range bs i (i + n) in
    by (n == 0) piece.NoToken (if is_outside_sign text then piece.Outside (i + n) else piece.Token (k.Sign text) (i + n)) tt
    (by (is_outside_sign text) (piece.Outside (i + n)) (piece.Token (k.Sign text) (i + n)) tt tt)

small_slash : (bs : List ℕ) (i : ℕ) → SmallPiece (slash_at bs i)
unfolding slash_at
small_slash bs i =
    by (has_pair 47 47 bs i) (piece.Gap (run_end class.Line bs (i + 2))) (if has_pair 47 42 bs i then gap_to (closing 47 bs (i + 2)) else sign_at bs i) tt
    (by (has_pair 47 42 bs i) (gap_to (closing 47 bs (i + 2))) (sign_at bs i) (small_gap (closing 47 bs (i + 2))) (small_sign bs i))

small_paren : (bs : List ℕ) (i : ℕ) → SmallPiece (paren_at bs i)
unfolding paren_at
small_paren bs i =
    by (has_pair 40 42 bs i && not (slice_index bs (run_end class.Space bs (i + 2)) == 41)) (gap_to (closing 41 bs (i + 2))) (sign_at bs i) (small_gap (closing 41 bs (i + 2))) (small_sign bs i)

small_tick : (set : Bool) (bs : List ℕ) (i : ℕ) → SmallPiece (tick_at set bs i)
unfolding tick_at
small_tick set bs i =
    let to = run_end class.Word bs (i + 1) in
    by (not set && is_skipped (slice_range bs i to)) (piece.Gap (run_end class.Line bs to)) (piece.Outside to) tt tt

small_dollar : (bs : List ℕ) (i : ℕ) → SmallPiece (dollar_at bs i)
unfolding dollar_at
small_dollar bs i =
    let to = run_end class.Word bs (i + 1) in
    let word = slice_range bs i to in
    by (is_function word) (piece.Token (k.Word word) to) (piece.Outside to) tt tt

small_word : (bs : List ℕ) (i : ℕ) → SmallPiece (word_at bs i)
unfolding word_at
small_word bs i =
    let to = run_end class.Word bs (i + 1) in
    let word = slice_range bs i to in
    by (is_outside_word word) (piece.Outside to) (piece.Token (k.Word word) to) tt tt

small_plain : (set : Bool) (bs : List ℕ) (i : ℕ) → SmallPiece (plain_at set bs i)
unfolding plain_at
small_plain set bs i =
    let b = slice_index bs i in
    let by_quote = if b == 39 then quoted_at size.Unsized bs i else sign_at bs i in
    let by_digit = if is_digit b then number_at bs i else by_quote in
    let by_letter = if is_letter b then word_at bs i else by_digit in
    let by_dollar = if b == 36 then dollar_at bs i else by_letter in
    let by_tick = if b == 96 then tick_at set bs i else by_dollar in
    let by_paren = if (b == 40) && not set then paren_at bs i else by_tick in
    let by_slash = if b == 47 then slash_at bs i else by_paren in
    by (is_space b) (piece.Gap (i + 1)) by_slash tt
    (by (b == 47) (slash_at bs i) by_paren (small_slash bs i)
    (by ((b == 40) && not set) (paren_at bs i) by_tick (small_paren bs i)
    (by (b == 96) (tick_at set bs i) by_dollar (small_tick set bs i)
    (by (b == 36) (dollar_at bs i) by_letter (small_dollar bs i)
    (by (is_letter b) (word_at bs i) by_digit (small_word bs i)
    (by (is_digit b) (number_at bs i) by_quote (small_number_at bs i)
    (by (b == 39) (quoted_at size.Unsized bs i) (sign_at bs i) (small_quoted size.Unsized bs i) (small_sign bs i))))))))

small_seen : (set : Bool) (p : Piece) → SmallPiece p → SmallPiece (seen set p)
small_seen true (piece.Outside j) h = tt
small_seen true (piece.Token kind j) h = h
small_seen true (piece.Gap j) h = tt
small_seen true piece.NoNumber h = tt
small_seen true piece.NoToken h = tt
small_seen false p h = h

small_piece : (set : Bool) (bs : List ℕ) (i : ℕ) → SmallPiece (piece_at set bs i)
unfolding piece_at
small_piece set bs i = small_seen set (plain_at set bs i) (small_plain set bs i)

-- each token that is read is small
abbrev pub AllSmall : List Token → Type 0
AllSmall [] = Unit {0}
AllSmall (t ∷ ts) = SmallKind t.kind × AllSmall ts

pub small_pieces : (set : Bool) (bs : List ℕ) (i : ℕ) (ts : List Token) (j : ℕ) → Pieces set bs i ts j → AllSmall ts
small_pieces set bs i ts j none = tt
small_pieces set bs i ts j (gap l p rest) = small_pieces set bs _ ts j rest
small_pieces set bs i ts j (token t l a p rest) = (subst SmallPiece p (small_piece set bs i), small_pieces set bs t.end _ j rest)

small_get : (ts : List Token) (i : ℕ) (n : Number) → AllSmall ts → option_map (λ t. t.kind) (slice_get ts i) ≡ Some (k.Number n) → IsSmall n
small_get [] i n a h = absurd (cc)
small_get (t ∷ ts) zero n a h = let e : t.kind ≡ k.Number n = cc in subst SmallKind e a.0
small_get (t ∷ ts) (suc i) n a h = small_get ts i n a.1 h

pub small_at : (set : Bool) (bs : List ℕ) (ts : List Token) → Lexes set bs ts → (i : ℕ) (n : Number) → kind_at ts i ≡ Some (k.Number n) → IsSmall n
unfolding kind_at
small_at set bs ts p i n h = small_get ts i n (small_pieces set bs 0 ts _ p) h
