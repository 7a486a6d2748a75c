-- The numbers in the text of a set are below 2^32.
use Rattle.std.proofs.Common.{◌≡◌, ℕ, ◌+◌, ◌^◌, inl, inr, List, [], ◌∷◌, Option, Some, None, Bool, true, refl, arith}
use Rattle.std.specs.Prelude.{nat_lt}
use Rattle.std.specs.List.{list_all}
use Rattle.std.proofs.lemmas.Bool.{lt-ltb, and_from}
use Rattle.vlog_tree.specs.declared.token.Kind.TheVariants as k
use Rattle.vlog_tree.specs.declared.token.Number.{Number}
use Rattle.vlog_tree.specs.declared.token.Token.{Token}
use Rattle.vlog_tree.specs.Lists.{Maybe, Sequence}
use Rattle.vlog_tree.specs.Signs.{kind_at}
use Rattle.set_tree.specs.declared.text.Bits.{Bits}
use Rattle.set_tree.specs.declared.text.CoverText.{CoverText}
use Rattle.set_tree.specs.declared.text.Declaration.{Declaration}
use Rattle.set_tree.specs.declared.text.EndText.{EndText}
use Rattle.set_tree.specs.declared.text.EndText.TheVariants as to
use Rattle.set_tree.specs.declared.text.PropertyText.{PropertyText}
use Rattle.set_tree.specs.declared.text.SetText.{SetText}
use Rattle.set_tree.specs.Spelling.{IsDigits, SpellsBits, SpellsDeclaration, SpellsDistance, SpellsEnd, SpellsCover, SpellsProperty, SpellsOperation, SpellsSet}
use Rattle.set_read_lookup.specs.Meaning.{low_of}
use Rattle.set_read_lookup.specs.Faults.{is_small_end, is_small_cover, HasSmallNumbers}
use Rattle.set_read.proofs.PlainNumbers.{IsSmall}

all_by : {A : Type 0} (P : ℕ → A → ℕ → Type 0) (p : A → Bool) → ((i : ℕ) (x : A) (j : ℕ) → P i x j → p x ≡ true) → (xs : List A) (i j : ℕ) → Sequence P i xs j → list_all p xs ≡ true
all_by P p each [] i j s = refl
all_by P p each (x ∷ xs) i j s = and_from (p x) (list_all p xs) (each i x s.0 s.1) (all_by P p each xs s.0 j s.2)

module _ (ts : List Token) (small : (i : ℕ) (n : Number) → kind_at ts i ≡ Some (k.Number n) → IsSmall n) where
  digits_small : (i v j : ℕ) → IsDigits ts i v j → nat_lt v (2 ^ 32) ≡ true
  digits_small i v j d = lt-ltb v (2 ^ 32) (omega (arith, small i d.0 d.1 d.2, d.3))

  bits_small : (i : ℕ) (x : Option Bits) (j : ℕ) → Maybe (SpellsBits ts) i x j → nat_lt (low_of x) (2 ^ 32) ≡ true
  bits_small i None j s = refl
  bits_small i (Some b) j s = digits_small (i + 3) b.low (i + 4) s.3

  declaration_small : (i : ℕ) (x : Declaration) (j : ℕ) → SpellsDeclaration ts i x j → nat_lt (low_of x.bits) (2 ^ 32) ≡ true
  declaration_small i x j s = bits_small s.0 x.bits s.1 s.6

  distance_small : (i d j : ℕ) → SpellsDistance ts i d j → nat_lt d (2 ^ 32) ≡ true
  distance_small i d j (inl p) = lt-ltb d (2 ^ 32) (omega (arith, p.0))
  distance_small i d j (inr p) = digits_small (i + 1) d j p.1

  end_small : (i : ℕ) (x : EndText) (j : ℕ) → SpellsEnd ts i x j → is_small_end x ≡ true
  end_small i (to.At r) j s = digits_small i r j s
  end_small i (to.AfterEnd d) j s = distance_small (i + 1) d j s.1

  cover_small : (i : ℕ) (x : CoverText) (j : ℕ) → SpellsCover ts i x j → is_small_cover x ≡ true
  cover_small i x j s = and_from (nat_lt x.from (2 ^ 32)) (is_small_end x.to) (digits_small (s.0 + 1) x.from (s.0 + 2) s.5) (end_small (s.0 + 3) x.to s.1 s.7)

  property_small : (i : ℕ) (x : PropertyText) (j : ℕ) → SpellsProperty ts i x j → list_all is_small_cover x.covers ≡ true
  property_small i x j s = all_by (SpellsCover ts) is_small_cover cover_small x.covers s.3.0 s.3.1 s.3.4

  operation_small : (i : ℕ) (x : PropertyText) (j : ℕ) → SpellsOperation ts i x j → list_all is_small_cover x.covers ≡ true
  operation_small i x j s = property_small (i + 2) x j s.2

  pub text_small : (x : SetText) → SpellsSet ts x → HasSmallNumbers x
  text_small x s = record {
    names = all_by (SpellsDeclaration ts) (λ d. nat_lt (low_of d.bits) (2 ^ 32)) declaration_small x.declarations 11 s.0 s.4;
    covers = and_from (list_all is_small_cover x.first.covers) (list_all (λ p. list_all is_small_cover p.covers) x.operations)
        (property_small (s.1 + 2) x.first s.2 s.6.5)
        (all_by (SpellsOperation ts) (λ p. list_all is_small_cover p.covers) operation_small x.operations s.2 _ s.7);
  }
