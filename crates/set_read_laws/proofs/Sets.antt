-- Whole sets: a list of tokens spells at most one.
use Rattle.std.proofs.Common.{ℕ, ◌+◌, ◌≡◌, List, [], ◌∷◌, length, Bool, true, false, refl, sym, subst, arith}
use Rattle.std.specs.Prelude.{codes}
use Rattle.vlog_tree.specs.declared.token.Kind.TheVariants as k
use Rattle.vlog_tree.specs.declared.token.Token.{Token}
use Rattle.vlog_tree.specs.Lists.{Sequence}
use Rattle.vlog_tree.specs.Signs.{IsWord}
use Rattle.vlog_read_spelling.proofs.Tokens.{kind_within, two_words}
use Rattle.vlog_read_spelling.proofs.Names.{one_identifier}
use Rattle.vlog_read_spelling.proofs.Lists.{one_sequence}
use Rattle.set_tree.specs.declared.set.Role.{Role}
use Rattle.set_tree.specs.declared.set.Role.TheVariants as role
use Rattle.set_tree.specs.declared.text.RuleKind.{RuleKind}
use Rattle.set_tree.specs.declared.text.RuleKind.TheVariants as rule
use Rattle.set_tree.specs.declared.text.RuleText.{RuleText}
use Rattle.set_tree.specs.declared.text.SetText.{SetText}
use Rattle.set_tree.specs.Spelling.{SpellsDeclaration, SpellsHead, SpellsNamed, SpellsOperation, SpellsReset, SpellsRule, SpellsSet, level_word, role_word, rule_word}
use Rattle.set_read_laws.specs.Readings.{SpellsOneSet}
use Rattle.set_read_laws.proofs.Clauses.{one_digits}
use Rattle.set_read_laws.proofs.Lines.{one_declaration, one_rule}
use Rattle.set_read_laws.proofs.Properties.{one_operation, one_reset}

module _ (ts : List Token) where
  -- the head
  one_name : (w : List ℕ) (i : ℕ) (x : List ℕ) (j : ℕ) (y : List ℕ) (k : ℕ) → SpellsNamed ts w i x j → SpellsNamed ts w i y k → x ≡ y
  one_name w i x j y k p q = one_identifier true ts (i + 1) x y p.1.0 q.1.0

  one_level : (i : ℕ) (a b : Bool) → IsWord ts i (level_word a) → IsWord ts i (level_word b) → a ≡ b
  one_level i true true p q = refl
  one_level i false false p q = refl
  one_level i true false p q = absurd (two_words ts i (codes "high") (codes "low") refl p q)
  one_level i false true p q = absurd (two_words ts i (codes "low") (codes "high") refl p q)

  one_head : (i : ℕ) (b c r : List ℕ) (h : Bool) (n j : ℕ) (b' c' r' : List ℕ) (h' : Bool) (n' k : ℕ)
      → SpellsHead ts i b c r h n j → SpellsHead ts i b' c' r' h' n' k → (b ≡ b') × (c ≡ c') × (r ≡ r') × (h ≡ h') × (n ≡ n')
  one_head i b c r h n j b' c' r' h' n' k p q =
      let d : (n ≡ n') × (i + 10 ≡ i + 10) = one_digits ts (i + 9) n (i + 10) n' (i + 10) p.5 q.5 in (
        one_name (codes "block") i b (i + 3) b' (i + 3) p.0 q.0,
        one_name (codes "clock") (i + 3) c (i + 6) c' (i + 6) p.1 q.1,
        one_identifier true ts (i + 7) r r' p.3.0 q.3.0,
        one_level (i + 8) h h' p.4 q.4,
        d.0,
      )

  -- no declaration begins where the rules or the reset property do
  abbrev NoRole : ℕ → Type 0
  NoRole j = (r : Role) → IsWord ts j (role_word r) → ⊥

  rule_no_role : (i : ℕ) (kind : RuleKind) → IsWord ts i (rule_word kind) → NoRole i
  rule_no_role i rule.Constraint p role.Input q = two_words ts i (codes "constraint") (codes "input") refl p q
  rule_no_role i rule.Constraint p role.Output q = two_words ts i (codes "constraint") (codes "output") refl p q
  rule_no_role i rule.Constraint p role.State q = two_words ts i (codes "constraint") (codes "state") refl p q
  rule_no_role i rule.Invariant p role.Input q = two_words ts i (codes "invariant") (codes "input") refl p q
  rule_no_role i rule.Invariant p role.Output q = two_words ts i (codes "invariant") (codes "output") refl p q
  rule_no_role i rule.Invariant p role.State q = two_words ts i (codes "invariant") (codes "state") refl p q

  property_no_role : (i : ℕ) → IsWord ts i (codes "property") → NoRole i
  property_no_role i p role.Input q = two_words ts i (codes "property") (codes "input") refl p q
  property_no_role i p role.Output q = two_words ts i (codes "property") (codes "output") refl p q
  property_no_role i p role.State q = two_words ts i (codes "property") (codes "state") refl p q

  rules_no_role : (xs : List RuleText) (i j : ℕ) → Sequence (SpellsRule ts) i xs j → IsWord ts j (codes "property") → NoRole i
  rules_no_role [] i j p u = property_no_role i (subst (λ z. IsWord ts z (codes "property")) (sym p) u)
  rules_no_role (x ∷ xs) i j p u = rule_no_role i x.kind p.1.1

  rule_no_property : (i : ℕ) (kind : RuleKind) → IsWord ts i (rule_word kind) → IsWord ts i (codes "property") → ⊥
  rule_no_property i rule.Constraint p q = two_words ts i (codes "constraint") (codes "property") refl p q
  rule_no_property i rule.Invariant p q = two_words ts i (codes "invariant") (codes "property") refl p q

  one_text : (x y : SetText) → SpellsSet ts x → SpellsSet ts y → x ≡ y
  one_text x y (a, b, c, head, declarations, rules, first, operations) (a', b', c', head', declarations', rules', first', operations') =
      let h : (x.block ≡ y.block) × (x.clock ≡ y.clock) × (x.reset ≡ y.reset) × (x.high ≡ y.high) × (x.cycles ≡ y.cycles) =
      one_head 0 x.block x.clock x.reset x.high x.cycles 11 y.block y.clock y.reset y.high y.cycles 11 head head' in
      let d : (x.declarations ≡ y.declarations) × (a ≡ a') =
      one_sequence NoRole (SpellsDeclaration ts) (one_declaration ts) (λ i z j p none. none z.role p.4) x.declarations y.declarations 11 a a'
      declarations (rules_no_role x.rules a b rules first.0) declarations' (rules_no_role y.rules a' b' rules' first'.0) in
      let r : (x.rules ≡ y.rules) × (b ≡ b') =
      one_sequence (λ z. IsWord ts z (codes "property")) (SpellsRule ts) (one_rule ts) (λ i z j p here. rule_no_property i z.kind p.1 here) x.rules y.rules a b b'
      rules first.0 (subst (λ z. Sequence (SpellsRule ts) z y.rules b') (sym d.1) rules') first'.0 in
      let f : (x.first ≡ y.first) × (c ≡ c') = one_reset ts b x.first c y.first c' first (subst (λ z. SpellsReset ts z y.first c') (sym r.1) first') in
      let o : (x.operations ≡ y.operations) × (length ts ≡ length ts) =
      one_sequence (λ z. z ≡ length ts) (SpellsOperation ts) (one_operation ts) (λ i z j p end. omega (arith, kind_within ts i (k.Word (codes "operation")) p.0, end))
      x.operations y.operations c (length ts) (length ts) operations refl (subst (λ z. Sequence (SpellsOperation ts) z y.operations (length ts)) (sym f.1) operations') refl in
      λ z. record {
        block = h.0 z;
        clock = h.1 z;
        reset = h.2 z;
        high = h.3 z;
        cycles = h.4 z;
        declarations = d.0 z;
        rules = r.0 z;
        first = f.0 z;
        operations = o.0 z;
      }

pub one_set : SpellsOneSet
one_set ts x y p q = one_text ts x y p q
