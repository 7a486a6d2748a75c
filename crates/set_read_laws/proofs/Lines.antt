-- Declarations, rules, lengths and covers: at one place stands at most one of each.
use Rattle.std.proofs.Common.{ℕ, ◌+◌, ◌≡◌, inl, inr, List, Option, Some, None, true, false, refl, sym, ap, subst, ◌∙◌, arith}
use Rattle.std.specs.Prelude.{codes}
use Rattle.vlog_tree.specs.declared.token.Token.{Token}
use Rattle.vlog_tree.specs.declared.expr.Expr.{Expr}
use Rattle.vlog_tree.specs.Lists.{Maybe}
use Rattle.vlog_tree.specs.Signs.{IsSign, IsWord}
use Rattle.vlog_tree.specs.Spelling.{Dot, IsPath}
use Rattle.vlog_read_spelling.proofs.Tokens.{two_signs, two_words}
use Rattle.vlog_read_spelling.proofs.Names.{one_identifier, one_path, name_begins}
use Rattle.set_tree.specs.declared.set.Role.{Role}
use Rattle.set_tree.specs.declared.set.Role.TheVariants as role
use Rattle.set_tree.specs.declared.text.EndText.TheVariants as to
use Rattle.set_tree.specs.declared.text.RuleKind.{RuleKind}
use Rattle.set_tree.specs.declared.text.RuleKind.TheVariants as rule
use Rattle.set_tree.specs.Spelling.{IsDigits, SpellsBits, SpellsCover, SpellsDeclaration, SpellsDistance, SpellsDomain, SpellsDomainOf, SpellsEnd, SpellsLength, SpellsRule, SpellsSigned, SpellsUntil, role_word, rule_word}
use Rattle.set_read_laws.proofs.Clauses.{One, OneBefore, maybe_before, Semicolon, word_no_sign, word_no_digits, one_digits, one_formula}

module _ (ts : List Token) where
  -- declarations
  pub one_role : (i : ℕ) (a b : Role) → IsWord ts i (role_word a) → IsWord ts i (role_word b) → a ≡ b
  one_role i role.Input role.Input p q = refl
  one_role i role.Output role.Output p q = refl
  one_role i role.State role.State p q = refl
  one_role i role.Input role.Output p q = absurd (two_words ts i (codes "input") (codes "output") refl p q)
  one_role i role.Input role.State p q = absurd (two_words ts i (codes "input") (codes "state") refl p q)
  one_role i role.Output role.Input p q = absurd (two_words ts i (codes "output") (codes "input") refl p q)
  one_role i role.Output role.State p q = absurd (two_words ts i (codes "output") (codes "state") refl p q)
  one_role i role.State role.Input p q = absurd (two_words ts i (codes "state") (codes "input") refl p q)
  one_role i role.State role.Output p q = absurd (two_words ts i (codes "state") (codes "output") refl p q)

  one_signed : One (SpellsSigned ts)
  one_signed i true j true k p q = (refl, p.1 ∙ sym q.1)
  one_signed i false j false k p q = (refl, sym p.1 ∙ q.1)
  one_signed i true j false k p q = absurd (q.0 p.0)
  one_signed i false j true k p q = absurd (p.0 q.0)

  one_bits : One (SpellsBits ts)
  one_bits i x j y k p q =
      let h : (x.high ≡ y.high) × (i + 2 ≡ i + 2) = one_digits ts (i + 1) x.high (i + 2) y.high (i + 2) p.1 q.1 in
      let l : (x.low ≡ y.low) × (i + 4 ≡ i + 4) = one_digits ts (i + 3) x.low (i + 4) y.low (i + 4) p.3 q.3 in
      ((λ z. record { high = h.0 z; low = l.0 z }), p.5 ∙ sym q.5)

  abbrev NoBracket : ℕ → Type 0
  NoBracket j = IsSign ts j (codes "[") → ⊥

  maybe_bits : OneBefore NoBracket (Maybe (SpellsBits ts))
  maybe_bits i x j y k p u q v =
      maybe_before NoBracket (SpellsBits ts) (λ m a n b o c d e f. one_bits m a n b o c e) (λ z. IsSign ts z (codes "[")) (λ m a n c. c.0) (λ n none here. none here) i x j y k p u q v

  path_no_bracket : (i : ℕ) (w : List ℕ) (j : ℕ) → IsPath ts i w j → NoBracket i
  path_no_bracket i w j p here =
      let n = name_begins true ts i (record { text = w; offset = 0 }) j (j, p, inl (refl, refl)) in word_no_sign ts i n.0 (codes "[") n.1.stands here

  one_domain : OneBefore (Semicolon ts) (SpellsDomain ts)
  one_domain i x j y k p u q v = one_formula ts (i + 1) x j y k p.1 u q.1 v

  one_domain_of : (r : Role) → OneBefore (Semicolon ts) (SpellsDomainOf ts r)
  one_domain_of role.Output i x j y k p u q v =
      maybe_before (Semicolon ts) (SpellsDomain ts) one_domain (λ z. IsWord ts z (codes "when")) (λ m a n c. c.0) (λ n semi here. word_no_sign ts n (codes "when") (codes ";") here semi) i x j y k p u q v
  one_domain_of role.Input i x j y k p u q v = (p.0 ∙ sym q.0, sym p.1 ∙ q.1)
  one_domain_of role.State i x j y k p u q v = (p.0 ∙ sym q.0, sym p.1 ∙ q.1)

  semicolon_no_dot : (i : ℕ) → Semicolon ts i → Dot ts i → ⊥
  semicolon_no_dot i p q = two_signs ts i (codes ";") (codes ".") refl p q

  -- no dot follows the name that a domain or a semicolon follows
  domain_no_dot : (r : Role) (i : ℕ) (x : Option Expr) (j : ℕ) → SpellsDomainOf ts r i x j → Semicolon ts j → Dot ts i → ⊥
  domain_no_dot role.Output i None j p u here = semicolon_no_dot i (subst (Semicolon ts) (sym p) u) here
  domain_no_dot role.Output i (Some x) j p u here = word_no_sign ts i (codes "when") (codes ".") p.0 here
  domain_no_dot role.Input i x j p u here = semicolon_no_dot i (subst (Semicolon ts) (sym p.1) u) here
  domain_no_dot role.State i x j p u here = semicolon_no_dot i (subst (Semicolon ts) (sym p.1) u) here

  pub one_declaration : One (SpellsDeclaration ts)
  one_declaration i x j y k (a, b, c, d, word, sign, bits, name, domain, semi, end) (a', b', c', d', word', sign', bits', name', domain', semi', end') =
      let g : x.role ≡ y.role = one_role i x.role y.role word word' in
      let s : (x.signed ≡ y.signed) × (a ≡ a') = one_signed (i + 1) x.signed a y.signed a' sign sign' in
      let r : (x.bits ≡ y.bits) × (b ≡ b') =
      maybe_bits a x.bits b y.bits b' bits (path_no_bracket b x.name c name) (subst (λ z. Maybe (SpellsBits ts) z y.bits b') (sym s.1) bits') (path_no_bracket b' y.name c' name') in
      let n : (x.name ≡ y.name) × (c ≡ c') =
      one_path ts b x.name c y.name c' name (domain_no_dot x.role c x.domain d domain semi) (subst (λ z. IsPath ts z y.name c') (sym r.1) name') (domain_no_dot y.role c' y.domain d' domain' semi') in
      let moved : SpellsDomainOf ts x.role c y.domain d' = subst (λ z. SpellsDomainOf ts z c y.domain d') (sym g) (subst (λ z. SpellsDomainOf ts y.role z y.domain d') (sym n.1) domain') in
      let o : (x.domain ≡ y.domain) × (d ≡ d') = one_domain_of x.role c x.domain d y.domain d' domain semi moved semi' in
      ((λ z. record { role = g z; signed = s.0 z; bits = r.0 z; name = n.0 z; domain = o.0 z }), omega (arith, end, end', o.1))

  -- rules
  one_kind : (i : ℕ) (a b : RuleKind) → IsWord ts i (rule_word a) → IsWord ts i (rule_word b) → a ≡ b
  one_kind i rule.Constraint rule.Constraint p q = refl
  one_kind i rule.Invariant rule.Invariant p q = refl
  one_kind i rule.Constraint rule.Invariant p q = absurd (two_words ts i (codes "constraint") (codes "invariant") refl p q)
  one_kind i rule.Invariant rule.Constraint p q = absurd (two_words ts i (codes "invariant") (codes "constraint") refl p q)

  pub one_rule : One (SpellsRule ts)
  one_rule i x j y k (m, word, name, colon, formula, semi, end) (m', word', name', colon', formula', semi', end') =
      let g : x.kind ≡ y.kind = one_kind i x.kind y.kind word word' in
      let n : x.name ≡ y.name = one_identifier true ts (i + 1) x.name y.name name.0 name'.0 in
      let r : (x.formula ≡ y.formula) × (m ≡ m') = one_formula ts (i + 3) x.formula m y.formula m' formula semi formula' semi' in
      ((λ z. record { kind = g z; name = n z; formula = r.0 z }), omega (arith, end, end', r.1))

  -- lengths
  one_until : OneBefore (Semicolon ts) (SpellsUntil ts)
  one_until i x j y k p u q v =
      let h : (x.high ≡ y.high) × (i + 2 ≡ i + 2) = one_digits ts (i + 1) x.high (i + 2) y.high (i + 2) p.1 q.1 in
      let r : (x.condition ≡ y.condition) × (j ≡ k) = one_formula ts (i + 3) x.condition j y.condition k p.3 u q.3 v in
      ((λ z. record { high = h.0 z; condition = r.0 z }), r.1)

  maybe_until : OneBefore (Semicolon ts) (Maybe (SpellsUntil ts))
  maybe_until i x j y k p u q v =
      maybe_before (Semicolon ts) (SpellsUntil ts) one_until (λ z. IsWord ts z (codes "to")) (λ m a n c. c.0) (λ n semi here. word_no_sign ts n (codes "to") (codes ";") here semi) i x j y k p u q v

  pub one_length : OneBefore (Semicolon ts) (SpellsLength ts)
  one_length i x j y k p u q v =
      let l : (x.low ≡ y.low) × (i + 1 ≡ i + 1) = one_digits ts i x.low (i + 1) y.low (i + 1) p.0 q.0 in
      let r : (x.until ≡ y.until) × (j ≡ k) = maybe_until (i + 1) x.until j y.until k p.1 u q.1 v in
      ((λ z. record { low = l.0 z; until = r.0 z }), r.1)

  -- covers: `end` and `end + 0` spell one end, but no list of tokens is both
  semicolon_no_plus : (i : ℕ) → Semicolon ts i → IsSign ts i (codes "+") → ⊥
  semicolon_no_plus i p q = two_signs ts i (codes ";") (codes "+") refl p q

  one_distance : OneBefore (Semicolon ts) (SpellsDistance ts)
  one_distance i d j e k (inl p) u (inl q) v = (p.0 ∙ sym q.0, sym p.1 ∙ q.1)
  one_distance i d j e k (inl p) u (inr q) v = absurd (semicolon_no_plus i (subst (Semicolon ts) (sym p.1) u) q.0)
  one_distance i d j e k (inr p) u (inl q) v = absurd (semicolon_no_plus i (subst (Semicolon ts) (sym q.1) v) p.0)
  one_distance i d j e k (inr p) u (inr q) v = one_digits ts (i + 1) d j e k p.1 q.1

  one_end : OneBefore (Semicolon ts) (SpellsEnd ts)
  one_end i (to.At d) j (to.At e) k p u q v = let r : (d ≡ e) × (j ≡ k) = one_digits ts i d j e k p q in (ap to.At r.0, r.1)
  one_end i (to.AfterEnd d) j (to.AfterEnd e) k p u q v = let r : (d ≡ e) × (j ≡ k) = one_distance (i + 1) d j e k p.1 u q.1 v in (ap to.AfterEnd r.0, r.1)
  one_end i (to.At d) j (to.AfterEnd e) k p u q v = absurd (word_no_digits ts i (codes "end") d j q.0 p)
  one_end i (to.AfterEnd d) j (to.At e) k p u q v = absurd (word_no_digits ts i (codes "end") e k p.0 q)

  pub one_cover : One (SpellsCover ts)
  one_cover i x j y k (m, o, word, name, from, digits, upto, end, semi, last) (m', o', word', name', from', digits', upto', end', semi', last') =
      let n : (x.output ≡ y.output) × (m ≡ m') =
      one_path ts (i + 1) x.output m y.output m' name (word_no_sign ts m (codes "from") (codes ".") from) name' (word_no_sign ts m' (codes "from") (codes ".") from') in
      let d : (x.from ≡ y.from) × (m + 2 ≡ m + 2) = one_digits ts (m + 1) x.from (m + 2) y.from (m + 2) digits (subst (λ z. IsDigits ts (z + 1) y.from (z + 2)) (sym n.1) digits') in
      let r : (x.to ≡ y.to) × (o ≡ o') = one_end (m + 3) x.to o y.to o' end semi (subst (λ z. SpellsEnd ts (z + 3) y.to o') (sym n.1) end') semi' in
      ((λ z. record { output = n.0 z; from = d.0 z; to = r.0 z }), omega (arith, last, last', r.1))
