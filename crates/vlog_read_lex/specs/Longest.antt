-- What is spelt at the place of a token is no longer than the token.
use Rattle.std.specs.Prelude.{ℕ, ◌+◌, ◌<◌, ◌≤◌, ◌≡◌, Bool, true, List, length, slice_index, slice_range}
use Rattle.vlog_tree.specs.declared.token.Kind.{Kind}
use Rattle.vlog_read_lex.specs.declared.class.Class.{Class}
use Rattle.vlog_read_lex.specs.declared.class.Class.TheVariants as class
use Rattle.vlog_read_lex.specs.declared.piece.Piece.TheVariants as piece
use Rattle.vlog_read_lex.specs.Bytes.{has, is_letter, is_digit}
use Rattle.vlog_read_lex.specs.Signs.{is_sign}
use Rattle.vlog_read_lex.specs.Pieces.{piece_at}
use Rattle.vlog_read_lex.specs.Laws.{Stands}

-- the bytes from i up to j are of a class
abbrev pub AllOf : Class → List ℕ → ℕ → ℕ → Type 0
AllOf class bs i j = (i ≤ j) × (j ≤ length bs) × ((k : ℕ) → i ≤ k → k < j → has class (slice_index bs k) ≡ true)

-- the bytes from i up to j are a word, decimal digits or a sign, long or short
pub data Spelt (bs : List ℕ) (i : ℕ) : ℕ → Type 0 where
  word : {j : ℕ} → is_letter (slice_index bs i) ≡ true → AllOf class.Word bs (i + 1) j → Spelt bs i j
  digits : {j : ℕ} → is_digit (slice_index bs i) ≡ true → AllOf class.Decimal bs (i + 1) j → Spelt bs i j
  sign : (s : List ℕ) → is_sign s ≡ true → Stands s bs i → Spelt bs i (i + length s)

abbrev pub TokensAreLongest : Type 0
TokensAreLongest = (set : Bool) (bs : List ℕ) (i j m : ℕ) (k : Kind) → i < length bs → piece_at set bs i ≡ piece.Token k m → Spelt bs i j → j ≤ m
