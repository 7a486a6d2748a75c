-- Texts of sets: what one means is one, and it has nothing against it.
use Rattle.std.proofs.Common.{◌≡◌, List, Some, true, sym, ap, subst, ◌∙◌, arith}
use Rattle.vlog_tree.specs.declared.token.Token.{Token}
use Rattle.vlog_read_lex.specs.declared.error.ReadFault.TheVariants as lex
use Rattle.vlog_read_lex.proofs.LawLemmas.{one_list, spells_or_faults}
use Rattle.set_tree.specs.declared.set.Property.{Property}
use Rattle.set_tree.specs.declared.set.Set.{Set}
use Rattle.set_tree.specs.declared.text.Declaration.{Declaration}
use Rattle.set_tree.specs.declared.text.PropertyText.{PropertyText}
use Rattle.set_tree.specs.declared.text.SetText.{SetText}
use Rattle.set_read_lookup.specs.Faults.{StandsUnknown, StandsTwice, StandsLimit}
use Rattle.set_read_lookup.specs.Meaning.{Means, IsProperty, AreProperties, property_of, properties_of}
use Rattle.set_read.specs.declared.fault.SetFault.{SetFault}
use Rattle.set_read.specs.declared.fault.SetFault.TheVariants as f
use Rattle.set_read.specs.Read.{SpellsTokens, RefusesTokens}
use Rattle.set_read_laws.specs.Readings.{IsOfText, MeansOneSet, SpellsOrRefused}
use Rattle.set_read_laws.proofs.Sets.{one_set}

-- what a text of a set means is one
one_of : {A : Type 0} (x y : A) → Some x ≡ Some y → x ≡ y
one_of x y e = cc

one_property : (ds : List Declaration) (ps : List PropertyText) (p : PropertyText) (a b : Property) → IsProperty ds ps p a → IsProperty ds ps p b → a ≡ b
one_property ds ps p a b (l, looked, is) (l', looked', is') = is ∙ (ap (λ z. property_of p z) (one_of l l' (sym looked ∙ looked')) ∙ sym is')

one_properties : (ds : List Declaration) (ps : List PropertyText) (qs rs : List Property) → AreProperties ds ps qs → AreProperties ds ps rs → qs ≡ rs
one_properties ds ps qs rs (l, looked, are) (l', looked', are') = are ∙ (ap (λ z. properties_of z ps) (one_of l l' (sym looked ∙ looked')) ∙ sym are')

one_meaning : (t : SetText) (a b : Set) → Means t a → Means t b → a ≡ b
one_meaning t a b p q =
    let names : a.names ≡ b.names = one_of a.names b.names (sym p.names ∙ q.names) in
    let first : a.first ≡ b.first = one_property t.declarations t.operations t.first a.first b.first p.first q.first in
    let operations : a.operations ≡ b.operations = one_properties t.declarations t.operations a.operations b.operations p.operations q.operations in
    λ z. record {
      block = (p.block ∙ sym q.block) z;
      clock = (p.clock ∙ sym q.clock) z;
      reset = (p.reset ∙ sym q.reset) z;
      high = (p.high ∙ sym q.high) z;
      cycles = (p.cycles ∙ sym q.cycles) z;
      names = names z;
      constraints = (p.constraints ∙ sym q.constraints) z;
      invariants = (p.invariants ∙ sym q.invariants) z;
      first = first z;
      operations = operations z;
    }

module _ (ts : List Token) where
  tokens_mean_one : (a b : Set) → SpellsTokens ts a → SpellsTokens ts b → a ≡ b
  tokens_mean_one a b p q = one_meaning q.spelling a b (subst (λ z. Means z a) (one_set ts p.spelling q.spelling p.spelt q.spelt) p.means) q.means

  tokens_apart : (set : Set) (fault : SetFault) → SpellsTokens ts set → IsOfText fault → RefusesTokens ts fault → ⊥
  tokens_apart set (f.Syntax at) s text none = none s.spelling s.spelt
  tokens_apart set f.Deep s text high = omega (arith, high.higher s.spelling s.spelt, s.low)
  tokens_apart set (f.Unknown n) s text (t, spelt, low, stands) = s.valid.known n (subst (λ z. StandsUnknown z n) (one_set ts t s.spelling spelt s.spelt) stands)
  tokens_apart set (f.Twice n) s text (t, spelt, low, stands) = s.valid.once n (subst (λ z. StandsTwice z n) (one_set ts t s.spelling spelt s.spelt) stands)
  tokens_apart set (f.Limit quantity) s text (t, spelt, low, stands) = s.valid.kept quantity (subst (λ z. StandsLimit z quantity) (one_set ts t s.spelling spelt s.spelt) stands)
  tokens_apart set (f.Bytes at) s text never = never
  tokens_apart set (f.Number at) s text never = never
  tokens_apart set f.Memory s text refused = text

pub means_one_set : MeansOneSet
means_one_set bytes a b (ts, lexed, p) (us, lexed', q) = tokens_mean_one us a b (subst (λ z. SpellsTokens z a) (one_list true bytes ts us lexed lexed') p) q

pub spells_or_refused : SpellsOrRefused
spells_or_refused bytes set (f.Bytes at) (ts, lexed, s) text fault = spells_or_faults true bytes ts (lex.Bytes at) lexed tt fault
spells_or_refused bytes set (f.Number at) (ts, lexed, s) text fault = spells_or_faults true bytes ts (lex.Number at) lexed tt fault
spells_or_refused bytes set (f.Syntax at) (ts, lexed, s) text (us, lexed', refused) =
    tokens_apart us set (f.Syntax at) (subst (λ z. SpellsTokens z set) (one_list true bytes ts us lexed lexed') s) text refused
spells_or_refused bytes set f.Deep (ts, lexed, s) text (us, lexed', refused) =
    tokens_apart us set f.Deep (subst (λ z. SpellsTokens z set) (one_list true bytes ts us lexed lexed') s) text refused
spells_or_refused bytes set (f.Unknown n) (ts, lexed, s) text (us, lexed', refused) =
    tokens_apart us set (f.Unknown n) (subst (λ z. SpellsTokens z set) (one_list true bytes ts us lexed lexed') s) text refused
spells_or_refused bytes set (f.Twice n) (ts, lexed, s) text (us, lexed', refused) =
    tokens_apart us set (f.Twice n) (subst (λ z. SpellsTokens z set) (one_list true bytes ts us lexed lexed') s) text refused
spells_or_refused bytes set (f.Limit quantity) (ts, lexed, s) text (us, lexed', refused) =
    tokens_apart us set (f.Limit quantity) (subst (λ z. SpellsTokens z set) (one_list true bytes ts us lexed lexed') s) text refused
spells_or_refused bytes set f.Memory (ts, lexed, s) text refused = text
