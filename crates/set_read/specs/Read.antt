-- Which sets a text spells, and why a text is refused.
use Rattle.std.specs.Prelude.{ℕ, ◌<◌, ◌≤◌, ◌≡◌, ◌^◌, Some, true, List, length}
use Rattle.vlog_tree.specs.declared.token.Kind.TheVariants as k
use Rattle.vlog_tree.specs.declared.token.Number.{Number}
use Rattle.vlog_tree.specs.declared.token.Token.{Token}
use Rattle.vlog_tree.specs.Signs.{kind_at}
use Rattle.vlog_read_lex.specs.declared.error.ReadFault.{ReadFault}
use Rattle.vlog_read_lex.specs.declared.error.ReadFault.TheVariants as lex
use Rattle.vlog_read_lex.specs.Tokens.{Lexes, HasFault}
use Rattle.set_tree.specs.declared.set.Set.{Set}
use Rattle.set_tree.specs.declared.text.SetText.{SetText}
use Rattle.set_tree.specs.Spelling.{SpellsSet}
use Rattle.set_read_lookup.specs.declared.wrong.Wrong.{Wrong}
use Rattle.set_read_lookup.specs.declared.wrong.Wrong.TheVariants as wrong
use Rattle.set_read_lookup.specs.Meaning.{Means}
use Rattle.set_read_lookup.specs.Faults.{IsValid, StandsUnknown, StandsTwice, StandsLimit}
use Rattle.set_read.specs.Heights.{set_height}
use Rattle.set_read.specs.declared.fault.SetFault.{SetFault}
use Rattle.set_read.specs.declared.fault.TextFault.{TextFault}
use Rattle.set_read.specs.declared.fault.TextFault.TheVariants as text
use Rattle.set_read.specs.declared.fault.SetFault.TheVariants as f

-- decimal digits alone are a number below 2^32
abbrev pub HasSmallDigits : List Token → Type 0
HasSmallDigits ts = (i : ℕ) (n : Number) → kind_at ts i ≡ Some (k.Number n) → n.plain ≡ true → n.value < 2 ^ 32

-- tokens spell the text of a set, no higher than 500, that has nothing against it and means the set
pub record SpellsTokens (ts : List Token) (set : Set) : Type 0 where
  pub spelling : SetText
  pub spelt : SpellsSet ts spelling
  pub low : set_height spelling ≤ 500
  pub valid : IsValid spelling
  pub means : Means spelling set

abbrev pub Spells : List ℕ → Set → Type 0
Spells bytes set = (ts : List Token) × Lexes true bytes ts × SpellsTokens ts set

-- there are more than 500 tokens, and each text of a set that they spell is higher than 500
pub record IsTooHigh (ts : List Token) : Type 0 where
  pub higher : (t : SetText) → SpellsSet ts t → 500 < set_height t
  pub more : 500 < length ts

-- why tokens are refused: they spell no text of a set, or one that is too high, or one that has something against it
abbrev pub SpellsWith : (SetText → Type 0) → List Token → Type 0
SpellsWith P ts = (t : SetText) × SpellsSet ts t × (set_height t ≤ 500) × P t

abbrev pub RefusesTokens : List Token → SetFault → Type 0
RefusesTokens ts (f.Unknown n) = SpellsWith (λ t. StandsUnknown t n) ts
RefusesTokens ts (f.Twice n) = SpellsWith (λ t. StandsTwice t n) ts
RefusesTokens ts (f.Limit quantity) = SpellsWith (λ t. StandsLimit t quantity) ts
RefusesTokens ts (f.Syntax at) = (t : SetText) → SpellsSet ts t → ⊥
RefusesTokens ts f.Deep = IsTooHigh ts
RefusesTokens ts f.Memory = Unit {0}
RefusesTokens ts (f.Bytes at) = ⊥
RefusesTokens ts (f.Number at) = ⊥

-- why a text is refused: its bytes have a first fault, or its tokens are refused
abbrev pub LexesAnd : (List Token → Type 0) → List ℕ → Type 0
LexesAnd P bytes = (ts : List Token) × Lexes true bytes ts × P ts

abbrev pub Refuses : List ℕ → SetFault → Type 0
Refuses bytes (f.Bytes at) = HasFault true bytes (lex.Bytes at)
Refuses bytes (f.Number at) = HasFault true bytes (lex.Number at)
Refuses bytes (f.Syntax at) = LexesAnd (λ ts. RefusesTokens ts (f.Syntax at)) bytes
Refuses bytes f.Deep = LexesAnd (λ ts. RefusesTokens ts f.Deep) bytes
Refuses bytes (f.Unknown n) = LexesAnd (λ ts. RefusesTokens ts (f.Unknown n)) bytes
Refuses bytes (f.Twice n) = LexesAnd (λ ts. RefusesTokens ts (f.Twice n)) bytes
Refuses bytes (f.Limit quantity) = LexesAnd (λ ts. RefusesTokens ts (f.Limit quantity)) bytes
Refuses bytes f.Memory = Unit {0}

-- the byte that a refusal names lies within a text of so many bytes, or is its end
abbrev pub NamesByte : ℕ → SetFault → Type 0
NamesByte size (f.Bytes at) = at ≤ size
NamesByte size (f.Number at) = at ≤ size
NamesByte size (f.Syntax at) = at ≤ size
NamesByte size (f.Unknown n) = Unit {0}
NamesByte size (f.Twice n) = Unit {0}
NamesByte size (f.Limit quantity) = Unit {0}
NamesByte size f.Deep = Unit {0}
NamesByte size f.Memory = Unit {0}

-- the refusals of the layers below, by their causes
abbrev pub of_tokens : ReadFault → SetFault
of_tokens (lex.Bytes at) = f.Bytes at
of_tokens (lex.Number at) = f.Number at
of_tokens (lex.Outside at) = f.Syntax at
of_tokens (lex.Syntax at) = f.Syntax at
of_tokens lex.Deep = f.Deep
of_tokens lex.Memory = f.Memory

abbrev pub of_text : TextFault → SetFault
of_text (text.Syntax at) = f.Syntax at
of_text text.Deep = f.Deep
of_text text.Memory = f.Memory

abbrev pub of_wrong : Wrong → SetFault
of_wrong (wrong.Unknown n) = f.Unknown n
of_wrong (wrong.Twice n) = f.Twice n
of_wrong (wrong.Limit quantity) = f.Limit quantity
of_wrong wrong.Memory = f.Memory
