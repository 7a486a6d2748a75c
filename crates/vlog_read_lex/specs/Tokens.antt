-- The tokens that a text spells, and its first fault.
use Rattle.std.specs.Prelude.{ℕ, ◌<◌, ◌≤◌, ◌≡◌, Bool, List, [], ◌∷◌, length}
use Rattle.std.specs.List.{All}
use Rattle.vlog_tree.specs.declared.token.Token.{Token}
use Rattle.vlog_read_lex.specs.declared.error.ReadFault.{ReadFault}
use Rattle.vlog_read_lex.specs.declared.error.ReadFault.TheVariants as fault
use Rattle.vlog_read_lex.specs.declared.piece.Piece.{Piece}
use Rattle.vlog_read_lex.specs.declared.piece.Piece.TheVariants as piece
use Rattle.vlog_read_lex.specs.Pieces.{piece_at}

-- the bytes from i up to j are gaps and these tokens, in order
pub data Pieces (set : Bool) (bs : List ℕ) : ℕ → List Token → ℕ → Type 0 where
  none : {i : ℕ} → Pieces set bs i [] i
  gap : {i m j : ℕ} {ts : List Token} → i < length bs → piece_at set bs i ≡ piece.Gap m → Pieces set bs m ts j → Pieces set bs i ts j
  token : {i j : ℕ} {ts : List Token} (t : Token) → i < length bs → t.at ≡ i → piece_at set bs i ≡ piece.Token t.kind t.end
      → Pieces set bs t.end ts j → Pieces set bs i (t ∷ ts) j

-- the text spells these tokens
abbrev pub Lexes : Bool → List ℕ → List Token → Type 0
Lexes set bs ts = Pieces set bs 0 ts (length bs)

-- gaps and tokens go up to a place where this piece stands
pub record StopsAt (set : Bool) (bs : List ℕ) (at : ℕ) (stop : Piece) : Type 0 where
  pub tokens : List Token
  pub before : Pieces set bs 0 tokens at
  pub within : at < length bs
  pub is : piece_at set bs at ≡ stop

-- the first fault of the text's tokens
abbrev pub HasFault : Bool → List ℕ → ReadFault → Type 0
HasFault set bs (fault.Bytes at) = StopsAt set bs at piece.NoToken
HasFault set bs (fault.Number at) = StopsAt set bs at piece.NoNumber
HasFault set bs (fault.Outside at) = (j : ℕ) × StopsAt set bs at (piece.Outside j)
HasFault set bs (fault.Syntax at) = ⊥
HasFault set bs fault.Deep = ⊥
HasFault set bs fault.Memory = Unit {0}

-- tokens begin and end within a text of so many bytes
abbrev pub LiesWithin : ℕ → Token → Type 0
LiesWithin size t = (t.at ≤ size) × (t.end ≤ size)

abbrev pub LieWithin : ℕ → List Token → Type 0
LieWithin size ts = All (LiesWithin size) ts

-- the byte that a refusal names lies within a text of so many bytes, or is its end
abbrev pub NamesByte : ℕ → ReadFault → Type 0
NamesByte size (fault.Bytes at) = at ≤ size
NamesByte size (fault.Number at) = at ≤ size
NamesByte size (fault.Outside at) = at ≤ size
NamesByte size (fault.Syntax at) = at ≤ size
NamesByte size fault.Deep = Unit {0}
NamesByte size fault.Memory = Unit {0}
