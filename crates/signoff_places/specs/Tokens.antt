-- What stands at and behind a place in a list of tokens: the list from there on.
use Rattle.std.specs.Prelude.{ℕ, ◌+◌, ◌-◌, ◌≡◌, ◌⊎◌, ◌&&◌, Bool, nat_le, if◌then◌else◌, List, [], ◌∷◌, Option, Some, None, codes, slice_get}
use Rattle.std.specs.Option.{option_map_or, option_and_then, option_or}
use Rattle.std.specs.Str.{bytes_eq}
use Rattle.vlog_tree.specs.declared.token.Token.{Token}
use Rattle.vlog_tree.specs.declared.token.Kind.{Kind}
use Rattle.vlog_tree.specs.declared.token.Kind.TheVariants as kind
use Rattle.vlog_read_lex.specs.declared.error.ReadFault.{ReadFault}
use Rattle.vlog_read_lex.specs.Laws.{IsOfText}
use Rattle.vlog_read_lex.specs.Numbers.{fit}
use Rattle.vlog_read_lex.specs.Tokens.{Lexes, HasFault}
use Rattle.signoff_places.specs.declared.tokens.Bits.{Bits}

-- the tokens that a text spells; none where it has a fault among them
abbrev pub AreTokensOf : Bool → List ℕ → List Token → Type 0
AreTokensOf set text ts = Lexes set text ts ⊎ ((ts ≡ []) × ((fault : ReadFault) × IsOfText fault × HasFault set text fault))

-- ---- one token

-- the bytes of a word or a sign, none of what is neither
abbrev pub spelling : Kind → List ℕ
spelling (kind.Word text) = text
spelling (kind.Sign text) = text
spelling (kind.Number n) = []
spelling kind.Outside = []

abbrev pub word_of : Token → List ℕ
word_of t = spelling t.kind

abbrev pub number_in : Kind → Option ℕ
number_in (kind.Number n) = Some n.value
number_in (kind.Word text) = None
number_in (kind.Sign text) = None
number_in kind.Outside = None

abbrev pub number_of : Token → Option ℕ
number_of t = number_in t.kind

abbrev pub byte_of : Token → ℕ
byte_of t = t.at

-- ---- so many tokens behind a place

-- nothing past the end
abbrev pub word_at : List Token → ℕ → List ℕ
word_at here at = option_map_or word_of (slice_get here at) []

abbrev pub number_at : List Token → ℕ → Option ℕ
number_at here at = option_and_then number_of (slice_get here at)

abbrev pub stands : List Token → ℕ → List ℕ → Bool
stands here at word = bytes_eq (word_at here at) word

-- ---- places at which a test holds

abbrev pub first_where : (List Token → Bool) → List Token → Option (List Token)
first_where holds [] = None
first_where holds (t ∷ ts) = if holds (t ∷ ts) then Some (t ∷ ts) else first_where holds ts

abbrev pub last_where : (List Token → Bool) → List Token → Option (List Token)
last_where holds [] = None
last_where holds (t ∷ ts) = option_or (last_where holds ts) (if holds (t ∷ ts) then Some (t ∷ ts) else None)

-- a word stands here
abbrev pub begins : List ℕ → List Token → Bool
begins word here = stands here 0 word

-- two words stand here, one behind the other
abbrev pub begins_with_both : List ℕ → List ℕ → List Token → Bool
begins_with_both before word here = stands here 0 before && stands here 1 word

-- ---- cuts

-- a token is this word
abbrev pub is_word : List ℕ → Token → Bool
is_word word t = bytes_eq (word_of t) word

-- a token begins at a byte or behind it
abbrev pub begins_from : ℕ → Token → Bool
begins_from byte t = nat_le byte t.at

-- ---- ranges

abbrev pub bits_between : Option ℕ → Option ℕ → Option Bits
bits_between (Some high) (Some low) = Some (record { high = high; low = low })
bits_between (Some high) None = None
bits_between None low = None

-- `[high:low]`
abbrev pub bits_at : List Token → Option Bits
bits_at range =
    if stands range 0 (codes "[") && stands range 2 (codes ":") && stands range 4 (codes "]")
    then bits_between (number_at range 1) (number_at range 3) else None

-- none where the bounds stand the wrong way round
abbrev pub width_of : Bits → Option ℕ
width_of bits = if nat_le bits.low bits.high then fit (bits.high - bits.low + 1) else None

-- 1 where no range stands
abbrev pub width_at : List Token → Option ℕ
width_at range = if stands range 0 (codes "[") then option_and_then width_of (bits_at range) else Some 1
