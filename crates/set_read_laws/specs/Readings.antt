-- What holds of every list of tokens, and of every text of a set.
use Rattle.std.specs.Prelude.{ℕ, ◌≡◌, List}
use Rattle.vlog_tree.specs.declared.token.Token.{Token}
use Rattle.set_tree.specs.declared.set.Set.{Set}
use Rattle.set_tree.specs.declared.text.SetText.{SetText}
use Rattle.set_tree.specs.Spelling.{SpellsSet}
use Rattle.set_read.specs.declared.fault.SetFault.{SetFault}
use Rattle.set_read.specs.declared.fault.SetFault.TheVariants as f
use Rattle.set_read.specs.Read.{Spells, Refuses}

-- a list of tokens spells at most one text of a set
abbrev pub SpellsOneSet : Type 0
SpellsOneSet = (ts : List Token) (x y : SetText) → SpellsSet ts x → SpellsSet ts y → x ≡ y

-- a text means at most one set
abbrev pub MeansOneSet : Type 0
MeansOneSet = (bytes : List ℕ) (a b : Set) → Spells bytes a → Spells bytes b → a ≡ b

-- want of memory is no fault of the text
abbrev pub IsOfText : SetFault → Type 0
IsOfText f.Memory = ⊥
IsOfText _ = Unit {0}

-- a text that spells a set with nothing against it is refused for no fault of its own
abbrev pub SpellsOrRefused : Type 0
SpellsOrRefused = (bytes : List ℕ) (set : Set) (fault : SetFault) → Spells bytes set → IsOfText fault → Refuses bytes fault → ⊥
