-- What begins at a place of a text: a gap, a token or a fault.
use Rattle.std.specs.Prelude.{ℕ, ◌+◌, ◌<◌, ◌≤◌, ◌||◌, ◌&&◌, Bool, true, false, not, ◌==◌, if◌then◌else◌, List, [], ◌∷◌, slice_index, slice_range, Option, Some, None, codes}
use Rattle.vlog_tree.specs.declared.token.Kind.TheVariants as kind
use Rattle.vlog_tree.specs.declared.token.Number.{Number}
use Rattle.vlog_read_lex.specs.declared.class.Base.{Base}
use Rattle.vlog_read_lex.specs.declared.class.Class.TheVariants as class
use Rattle.vlog_read_lex.specs.declared.number.Size.{Size}
use Rattle.vlog_read_lex.specs.declared.number.Size.TheVariants as size
use Rattle.vlog_read_lex.specs.declared.piece.Piece.{Piece}
use Rattle.vlog_read_lex.specs.declared.piece.Piece.TheVariants as piece
use Rattle.vlog_read_lex.specs.Bytes.{is_space, is_digit, is_letter}
use Rattle.vlog_read_lex.specs.Places.{has_pair, run_end, closing}
use Rattle.vlog_read_lex.specs.Words.{is_among, is_outside_word}
use Rattle.vlog_read_lex.specs.Signs.{is_outside_sign, sign_size}
use Rattle.vlog_read_lex.specs.Numbers.{base_of, size_of, has_unknown, decimal_number, based_number}

-- a gap or a token ends behind i, within the text
abbrev pub IsWithin : ℕ → ℕ → Piece → Type 0
IsWithin i size (piece.Gap j) = (i < j) × (j ≤ size)
IsWithin i size (piece.Token _ j) = (i < j) × (j ≤ size)
IsWithin i size (piece.Outside j) = (i < j) × (j ≤ size)
IsWithin i size piece.NoNumber = Unit {0}
IsWithin i size piece.NoToken = Unit {0}

abbrev pub gap_to : Option ℕ → Piece
gap_to (Some j) = piece.Gap j
gap_to None = piece.NoToken

abbrev pub number_piece : Option Number → ℕ → Piece
number_piece (Some n) j = piece.Token (kind.Number n) j
number_piece None j = piece.NoNumber

-- white space and the digits of a base: all that could be a digit of some base
unfoldable pub digits_at : Size → Bool → Base → List ℕ → ℕ → Piece
digits_at size signed base bs i =
    let from = run_end class.Space bs i in
    let to = run_end (class.Digits base) bs from in
    let ds = slice_range bs from to in
    if has_unknown ds then piece.Outside to else number_piece (based_number size signed base ds) to

abbrev pub based_by : Option Base → Size → Bool → List ℕ → ℕ → Piece
based_by (Some base) size signed bs i = digits_at size signed base bs i
based_by None size signed bs i = piece.NoNumber

-- the letter of a base, and what follows
unfoldable pub based_at : Size → Bool → List ℕ → ℕ → Piece
based_at size signed bs i = based_by (base_of (slice_index bs i)) size signed bs (i + 1)

-- from the `'` on: a letter `s`, if any, and a base
unfoldable pub quoted_at : Size → List ℕ → ℕ → Piece
quoted_at size bs i =
    let b = slice_index bs (i + 1) in
    if (b == 115) || (b == 83) then based_at size true bs (i + 2) else based_at size false bs (i + 1)

-- decimal digits: a size where a `'` follows behind white space, else a number
unfoldable pub number_at : List ℕ → ℕ → Piece
number_at bs i =
    let to = run_end class.Decimal bs (i + 1) in
    let ds = slice_range bs i to in
    let mark = run_end class.Space bs to in
    if slice_index bs mark == 39 then quoted_at (size_of ds) bs mark else number_piece (decimal_number ds) to

unfoldable pub sign_at : List ℕ → ℕ → Piece
sign_at bs i =
    let n = sign_size bs i in
    let text = slice_range bs i (i + n) in
    if n == 0 then piece.NoToken else (if is_outside_sign text then piece.Outside (i + n) else piece.Token (kind.Sign text) (i + n))

-- a comment to the line's end, a comment to the next `*/`, or a sign
unfoldable pub slash_at : List ℕ → ℕ → Piece
slash_at bs i =
    if has_pair 47 47 bs i then piece.Gap (run_end class.Line bs (i + 2)) else (
    if has_pair 47 42 bs i then gap_to (closing 47 bs (i + 2)) else sign_at bs i)

-- an attribute, from `(*` to the next `*)`, unless a `)` follows the `(*` behind white space
unfoldable pub paren_at : List ℕ → ℕ → Piece
paren_at bs i =
    if has_pair 40 42 bs i && not (slice_index bs (run_end class.Space bs (i + 2)) == 41) then gap_to (closing 41 bs (i + 2)) else sign_at bs i

abbrev pub is_skipped : List ℕ → Bool
is_skipped word = is_among (codes "`timescale" ∷ codes "`default_nettype" ∷ []) word

abbrev pub is_function : List ℕ → Bool
is_function word = is_among (codes "$signed" ∷ codes "$unsigned" ∷ []) word

-- a line that is skipped, or a word that the language leaves out
unfoldable pub tick_at : Bool → List ℕ → ℕ → Piece
tick_at set bs i =
    let to = run_end class.Word bs (i + 1) in
    if not set && is_skipped (slice_range bs i to) then piece.Gap (run_end class.Line bs to) else piece.Outside to

unfoldable pub dollar_at : List ℕ → ℕ → Piece
dollar_at bs i =
    let to = run_end class.Word bs (i + 1) in
    let word = slice_range bs i to in
    if is_function word then piece.Token (kind.Word word) to else piece.Outside to

unfoldable pub word_at : List ℕ → ℕ → Piece
word_at bs i =
    let to = run_end class.Word bs (i + 1) in
    let word = slice_range bs i to in
    if is_outside_word word then piece.Outside to else piece.Token (kind.Word word) to

-- by the first byte
unfoldable pub plain_at : Bool → List ℕ → ℕ → Piece
plain_at set bs i =
    let b = slice_index bs i in
    if is_space b then piece.Gap (i + 1) else (
    if b == 47 then slash_at bs i else (
    if (b == 40) && not set then paren_at bs i else (
    if b == 96 then tick_at set bs i else (
    if b == 36 then dollar_at bs i else (
    if is_letter b then word_at bs i else (
    if is_digit b then number_at bs i else (
    if b == 39 then quoted_at size.Unsized bs i else sign_at bs i)))))))

-- in a set, what the language leaves out is a token
abbrev pub seen : Bool → Piece → Piece
seen true (piece.Outside j) = piece.Token kind.Outside j
seen _ p = p

unfoldable pub piece_at : Bool → List ℕ → ℕ → Piece
piece_at set bs i = seen set (plain_at set bs i)
