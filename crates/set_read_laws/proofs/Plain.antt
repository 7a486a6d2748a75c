-- The names of the operations of a set that a text spells have no spaces.
use Rattle.std.proofs.Common.{◌≡◌, ℕ, ◌+◌, true, false, List, [], ◌∷◌, Some, length, map, sym, ap, ◌∙◌, subst}
use Rattle.std.specs.List.{All}
use Rattle.std.proofs.lemmas.List.Elements.{All-cons, All-head, All-nil, All-tail}
use Rattle.vlog_tree.specs.declared.token.Token.{Token}
use Rattle.vlog_tree.specs.Lists.{Sequence}
use Rattle.vlog_read_lex.specs.Tokens.{Lexes}
use Rattle.set_tree.specs.declared.set.Property.{Property}
use Rattle.set_tree.specs.declared.set.Set.{Set}
use Rattle.set_tree.specs.declared.text.PropertyText.{PropertyText}
use Rattle.set_tree.specs.Spelling.{SpellsOperation}
use Rattle.set_read_lookup.specs.declared.looked.Looked.{Looked}
use Rattle.set_read_lookup.specs.Meaning.{properties_of}
use Rattle.set_read.specs.Read.{Spells}
use Rattle.set_read_laws.proofs.Words.{has_space, word_has_no_space}

abbrev pub IsPlain : Property → Type 0
IsPlain p = has_space p.name ≡ false

abbrev IsPlainText : PropertyText → Type 0
IsPlainText p = has_space p.name ≡ false

texts_plain : (bytes : List ℕ) (ts : List Token) → Lexes true bytes ts → (i j : ℕ) (ps : List PropertyText) → Sequence (SpellsOperation ts) i ps j → All IsPlainText ps
texts_plain bytes ts lexed i j [] h = All-nil IsPlainText
texts_plain bytes ts lexed i j (p ∷ ps) h =
    All-cons IsPlainText p ps (word_has_no_space bytes 0 (length bytes) ts lexed (i + 1) p.name (h.1.1.0).stands) (texts_plain bytes ts lexed h.0 j ps h.2)

meant_plain : (ls : List Looked) (ps : List PropertyText) → All IsPlainText ps → All IsPlain (properties_of ls ps)
meant_plain [] ps h = All-nil IsPlain
meant_plain (l ∷ ls) [] h = All-nil IsPlain
meant_plain (l ∷ ls) (p ∷ ps) h = All-cons IsPlain _ (properties_of ls ps) (All-head IsPlainText p ps h) (meant_plain ls ps (All-tail IsPlainText p ps h))

pub operations_plain : (bytes : List ℕ) (set : Set) → Spells bytes set → All IsPlain set.operations
operations_plain bytes set (ts, lexed, h) =
    let spelt = h.spelt in
    let operations = h.means.operations in
    subst (λ (ps : List Property). All IsPlain ps) (sym operations.2) (meant_plain operations.0 h.spelling.operations (texts_plain bytes ts lexed spelt.2 (length ts) h.spelling.operations spelt.7))
