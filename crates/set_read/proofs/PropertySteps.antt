-- Properties and whole sets: what is left of them after each of their parts.
use Rattle.std.proofs.Common.{ℕ, ◌+◌, ◌≡◌, ◌⊎◌, inl, inr, List, [], ◌∷◌, Option, Some, None, Bool, true, false, length, refl, sym, subst, ◌∙◌, arith}
use Rattle.std.specs.Prelude.{is_some, codes}
use Rattle.std.specs.Str.{bytes_eq}
use Rattle.vlog_tree.specs.declared.token.Token.{Token}
use Rattle.vlog_tree.specs.declared.token.Kind.TheVariants as k
use Rattle.vlog_tree.specs.declared.expr.Expr.{Expr}
use Rattle.vlog_tree.specs.Signs.{IsSign, IsWord}
use Rattle.vlog_tree.specs.Lists.{Maybe, Sequence, Separated, Comma}
use Rattle.vlog_tree.specs.Spelling.{IsNamed, Spells}
use Rattle.vlog_read_spelling.proofs.Tokens.{kind_within, two_words}
use Rattle.set_tree.specs.declared.set.Role.TheVariants as role
use Rattle.set_tree.specs.declared.text.CoverText.{CoverText}
use Rattle.set_tree.specs.declared.text.Declaration.{Declaration}
use Rattle.set_tree.specs.declared.text.LengthText.{LengthText}
use Rattle.set_tree.specs.declared.text.PropertyText.{PropertyText}
use Rattle.set_tree.specs.declared.text.RuleKind.{RuleKind}
use Rattle.set_tree.specs.declared.text.RuleKind.TheVariants as rule
use Rattle.set_tree.specs.declared.text.RuleText.{RuleText}
use Rattle.set_tree.specs.declared.text.SetText.{SetText}
use Rattle.set_tree.specs.declared.text.Until.{Until}
use Rattle.set_tree.specs.Spelling.{Clause, IsDigits, SpellsCover, SpellsDeclaration, SpellsHand, SpellsLength, SpellsOperation, SpellsProperty, SpellsReset, SpellsRule, SpellsSet, SpellsTail, SpellsUntil, rule_word}
use Rattle.set_read.specs.Answers.{IsTail, NoRole, NoRule, NoWord, Semicolon}
use Rattle.set_read.specs.declared.property.Conditions.{Conditions}
use Rattle.set_read.specs.declared.property.Tail.{Tail}
use Rattle.set_read.specs.Parts.{SpellsConditionsOf, SpellsTailOf}
use Rattle.set_read.proofs.PartSteps.{word_no_sign}

pub some_by : {A : Type 0} (o : Option A) (b : Bool) → b ≡ is_some o → b ≡ true → o ≡ None → ⊥
some_by None b e t n = cc
some_by (Some a) b e t n = cc

pub none_by_test : {A : Type 0} (o : Option A) (b : Bool) → b ≡ is_some o → b ≡ false → o ≡ None
none_by_test None b e t = refl
none_by_test (Some a) b e t = absurd (cc)

module _ (ts : List Token) where
  -- with which word a sequence of clauses, or what stands after it, begins
  clause_begins : {A : Type 0} (P : ℕ → A → ℕ → Type 0) (w : List ℕ) (F : ℕ → Type 0) (xs : List A) (i j : ℕ) → Sequence (Clause ts w P) i xs j → F j → IsWord ts i w ⊎ F i
  clause_begins P w F [] i j q f = inr (subst F (sym q) f)
  clause_begins P w F (x ∷ xs) i j q f = inl q.1.1

  tail_apart : (w : List ℕ) → bytes_eq (codes "hand") w ≡ false → bytes_eq (codes "cover") w ≡ false → bytes_eq (codes "next") w ≡ false → (j : ℕ) → IsTail ts j → NoWord w ts j
  tail_apart w a b c j (inl p) q = two_words ts j (codes "hand") w a p q
  tail_apart w a b c j (inr (inl p)) q = two_words ts j (codes "cover") w b p q
  tail_apart w a b c j (inr (inr p)) q = two_words ts j (codes "next") w c p q

  cover_begins : (xs : List CoverText) (i j : ℕ) → Sequence (SpellsCover ts) i xs j → IsWord ts j (codes "next") → IsWord ts i (codes "cover") ⊎ IsWord ts i (codes "next")
  cover_begins [] i j q f = inr (subst (λ z. IsWord ts z (codes "next")) (sym q) f)
  cover_begins (x ∷ xs) i j q f = inl q.1.2

  -- the tail of a property
  abbrev pub AfterHand : ℕ → Tail → ℕ → Type 0
  AfterHand i x j = (b c : ℕ) × Sequence (SpellsCover ts) i x.covers b × Clause ts (codes "next") (Separated (Comma ts) (IsNamed true ts)) b x.next c × IsSign ts c (codes "}") × (j ≡ c + 1)

  abbrev pub AfterCovers : ℕ → Tail → ℕ → Type 0
  AfterCovers i x j = (c : ℕ) × Clause ts (codes "next") (Separated (Comma ts) (IsNamed true ts)) i x.next c × IsSign ts c (codes "}") × (j ≡ c + 1)

  pub hand_end : (i : ℕ) (x : Tail) (j : ℕ) (q : SpellsTailOf ts i x j) → NoWord (codes "hand") ts q.0
  hand_end i x j q w = by (cover_begins x.covers q.0 q.1 q.4 q.5.1)
    where
      by : IsWord ts q.0 (codes "cover") ⊎ IsWord ts q.0 (codes "next") → ⊥
      by (inl p) = two_words ts q.0 (codes "cover") (codes "hand") refl p w
      by (inr p) = two_words ts q.0 (codes "next") (codes "hand") refl p w

  pub after_hand : (i m : ℕ) → ((x : List Expr) (j : ℕ) → SpellsHand ts i x j → NoWord (codes "hand") ts j → j ≡ m) → (x : Tail) (j : ℕ) → SpellsTailOf ts i x j → AfterHand m x j
  after_hand i m only x j q =
      let e : q.0 ≡ m = only x.hand q.0 q.3 (hand_end i x j q) in (q.1, q.2, subst (λ z. Sequence (SpellsCover ts) z x.covers q.1) e q.4, q.5, q.6, q.7)

  pub covers_end : (i : ℕ) (x : Tail) (j : ℕ) (q : AfterHand i x j) → NoWord (codes "cover") ts q.0
  covers_end i x j q w = two_words ts q.0 (codes "next") (codes "cover") refl q.3.1 w

  pub after_covers : (i m : ℕ) → ((x : List CoverText) (j : ℕ) → Sequence (SpellsCover ts) i x j → NoWord (codes "cover") ts j → j ≡ m) → (x : Tail) (j : ℕ) → AfterHand i x j → AfterCovers m x j
  after_covers i m only x j q =
      let e : q.0 ≡ m = only x.covers q.0 q.2 (covers_end i x j q) in subst (λ z. AfterCovers z x j) e (q.1, q.3, q.4, q.5)

  abbrev pub AfterNext : ℕ → ℕ → Type 0
  AfterNext i j = IsSign ts i (codes ";") × IsSign ts (i + 1) (codes "}") × (j ≡ i + 2)

  pub after_next : (i m : ℕ) → ((x : List (List ℕ)) (j : ℕ) → Separated (Comma ts) (IsNamed true ts) (i + 1) x j → Semicolon ts j → j ≡ m) → (x : Tail) (j : ℕ) → AfterCovers i x j → AfterNext m j
  after_next i m only x j q =
      let e : q.1.0 ≡ m = only x.next q.1.0 q.1.2 q.1.3 in
      let o : q.0 ≡ m + 1 = omega (arith, e, q.1.4) in
      (subst (λ z. IsSign ts z (codes ";")) e q.1.3, subst (λ z. IsSign ts z (codes "}")) o q.2, omega (arith, o, q.3))

  pub tail_begins : (i : ℕ) (x : PropertyText) (j : ℕ) → SpellsTail ts i x.hand x.covers x.next j → IsTail ts i
  tail_begins i x j q = by x.hand q.3
    where
      next : IsWord ts q.0 (codes "cover") ⊎ IsWord ts q.0 (codes "next") → i ≡ q.0 → IsTail ts i
      next (inl p) e = inr (inl (subst (λ z. IsWord ts z (codes "cover")) (sym e) p))
      next (inr p) e = inr (inr (subst (λ z. IsWord ts z (codes "next")) (sym e) p))

      by : (h : List Expr) → SpellsHand ts i h q.0 → IsTail ts i
      by [] h = next (cover_begins x.covers q.0 q.1 q.4 q.5.1) h
      by (y ∷ ys) h = inl h.1

  -- the conditions of a property
  abbrev pub AfterLength : ℕ → Conditions → ℕ → Type 0
  AfterLength i x j =
      (b c : ℕ) × Maybe (Clause ts (codes "window") (IsDigits ts)) i x.window b × Sequence (Clause ts (codes "assume") (Spells true ts)) b x.assume c
      × Sequence (Clause ts (codes "commit") (Spells true ts)) c x.commit j

  abbrev pub AfterWindow : ℕ → Conditions → ℕ → Type 0
  AfterWindow i x j = (c : ℕ) × Sequence (Clause ts (codes "assume") (Spells true ts)) i x.assume c × Sequence (Clause ts (codes "commit") (Spells true ts)) c x.commit j

  pub after_length : (i m : ℕ) → ((x : LengthText) (j : ℕ) → Clause ts (codes "length") (SpellsLength ts) i x j → Unit {0} → j ≡ m) → (x : Conditions) (j : ℕ) → SpellsConditionsOf ts i x j → AfterLength m x j
  after_length i m only x j q =
      let e : q.0 ≡ m = only x.length q.0 q.3 tt in (q.1, q.2, subst (λ z. Maybe (Clause ts (codes "window") (IsDigits ts)) z x.window q.1) e q.4, q.5, q.6)

  commits_begin : (xs : List Expr) (i j : ℕ) → Sequence (Clause ts (codes "commit") (Spells true ts)) i xs j → IsTail ts j → IsWord ts i (codes "commit") ⊎ IsTail ts i
  commits_begin xs i j q f = clause_begins (Spells true ts) (codes "commit") (IsTail ts) xs i j q f

  no_assume : (i : ℕ) → IsWord ts i (codes "commit") ⊎ IsTail ts i → NoWord (codes "assume") ts i
  no_assume i (inl p) w = two_words ts i (codes "commit") (codes "assume") refl p w
  no_assume i (inr p) w = tail_apart (codes "assume") refl refl refl i p w

  no_window : (i : ℕ) → IsWord ts i (codes "assume") ⊎ (IsWord ts i (codes "commit") ⊎ IsTail ts i) → NoWord (codes "window") ts i
  no_window i (inl p) w = two_words ts i (codes "assume") (codes "window") refl p w
  no_window i (inr (inl p)) w = two_words ts i (codes "commit") (codes "window") refl p w
  no_window i (inr (inr p)) w = tail_apart (codes "window") refl refl refl i p w

  pub no_commit : (i : ℕ) → IsTail ts i → NoWord (codes "commit") ts i
  no_commit i p w = tail_apart (codes "commit") refl refl refl i p w

  pub window_end : (i : ℕ) (x : Conditions) (j : ℕ) (q : AfterLength i x j) → IsTail ts j → NoWord (codes "window") ts q.0
  window_end i x j q f =
      no_window q.0 (clause_begins (Spells true ts) (codes "assume") (λ z. IsWord ts z (codes "commit") ⊎ IsTail ts z) x.assume q.0 q.1 q.3 (commits_begin x.commit q.1 j q.4 f))

  pub after_window : (i m : ℕ) → ((x : Option ℕ) (j : ℕ) → Maybe (Clause ts (codes "window") (IsDigits ts)) i x j → NoWord (codes "window") ts j → j ≡ m)
      → (x : Conditions) (j : ℕ) → IsTail ts j → AfterLength i x j → AfterWindow m x j
  after_window i m only x j f q =
      let e : q.0 ≡ m = only x.window q.0 q.2 (window_end i x j q f) in (q.1, subst (λ z. Sequence (Clause ts (codes "assume") (Spells true ts)) z x.assume q.1) e q.3, q.4)

  pub assume_end : (i : ℕ) (x : Conditions) (j : ℕ) (q : AfterWindow i x j) → IsTail ts j → NoWord (codes "assume") ts q.0
  assume_end i x j q f = no_assume q.0 (commits_begin x.commit q.0 j q.2 f)

  pub after_assume : (i m : ℕ) → ((x : List Expr) (j : ℕ) → Sequence (Clause ts (codes "assume") (Spells true ts)) i x j → NoWord (codes "assume") ts j → j ≡ m)
      → (x : Conditions) (j : ℕ) → IsTail ts j → AfterWindow i x j → Sequence (Clause ts (codes "commit") (Spells true ts)) m x.commit j
  after_assume i m only x j f q =
      let e : q.0 ≡ m = only x.assume q.0 q.1 (assume_end i x j q f) in subst (λ z. Sequence (Clause ts (codes "commit") (Spells true ts)) z x.commit j) e q.2

  -- a property
  abbrev pub conditions_of : PropertyText → Conditions
  conditions_of x = record { length = x.length; window = x.window; assume = x.assume; commit = x.commit }

  abbrev pub tail_of : PropertyText → Tail
  tail_of x = record { hand = x.hand; covers = x.covers; next = x.next }

  pub after_conditions : (i m : ℕ) → ((x : Conditions) (j : ℕ) → SpellsConditionsOf ts (i + 1) x j → IsTail ts j → j ≡ m) → (x : PropertyText) (j : ℕ) → SpellsProperty ts i x j → SpellsTailOf ts m (tail_of x) j
  after_conditions i m only x j q =
      let e : q.0 ≡ m = only (conditions_of x) q.0 q.2 (tail_begins q.0 x j q.3) in subst (λ z. SpellsTail ts z x.hand x.covers x.next j) e q.3

  -- the reset property: its length is fixed, and it assumes nothing
  module _ (i : ℕ) where
    fixed_by : (u : Option Until) (m : ℕ) → Maybe (SpellsUntil ts) (i + 3) u m → IsSign ts m (codes ";") → u ≡ None → IsSign ts (i + 3) (codes ";")
    fixed_by None m p f e = subst (λ z. IsSign ts z (codes ";")) (sym p) f
    fixed_by (Some u) m p f e = absurd (cc)

    fixed : (x : PropertyText) (j : ℕ) → SpellsProperty ts i x j → x.length.until ≡ None → IsSign ts (i + 3) (codes ";")
    fixed x j q none =
        let e : i + 1 + 1 + 1 ≡ i + 3 = omega arith in
        let p : Maybe (SpellsUntil ts) (i + 3) x.length.until q.2.3.0 = subst (λ z. Maybe (SpellsUntil ts) z x.length.until q.2.3.0) e q.2.3.2.1 in
        fixed_by x.length.until q.2.3.0 p q.2.3.3 none

    until_by : (u : Option Until) (m : ℕ) → Maybe (SpellsUntil ts) (i + 3) u m → (u ≡ None → ⊥) → IsWord ts (i + 3) (codes "to")
    until_by None m p some = absurd (some refl)
    until_by (Some u) m p some = p.0

    until_stands : (x : PropertyText) (j : ℕ) → SpellsProperty ts i x j → (x.length.until ≡ None → ⊥) → IsWord ts (i + 3) (codes "to")
    until_stands x j q some =
        let e : i + 1 + 1 + 1 ≡ i + 3 = omega arith in
        let p : Maybe (SpellsUntil ts) (i + 3) x.length.until q.2.3.0 = subst (λ z. Maybe (SpellsUntil ts) z x.length.until q.2.3.0) e q.2.3.2.1 in
        until_by x.length.until q.2.3.0 p some

    pub until_apart : (x : PropertyText) (j : ℕ) → SpellsProperty ts i x j → (x.length.until ≡ None → ⊥) → (y : PropertyText) (k : ℕ) → SpellsProperty ts i y k → y.length.until ≡ None → ⊥
    until_apart x j p some y k q none = word_no_sign ts (i + 3) (codes "to") (codes ";") (until_stands x j p some) (fixed y k q none)

    length_by : (u : Option Until) (m : ℕ) → Maybe (SpellsUntil ts) (i + 3) u m → u ≡ None → m ≡ i + 3
    length_by None m p e = sym p
    length_by (Some u) m p e = absurd (cc)

    length_end : (x : PropertyText) (j : ℕ) (q : SpellsProperty ts i x j) → x.length.until ≡ None → q.2.0 ≡ i + 4
    length_end x j q none =
        let e : i + 1 + 1 + 1 ≡ i + 3 = omega arith in
        let p : Maybe (SpellsUntil ts) (i + 3) x.length.until q.2.3.0 = subst (λ z. Maybe (SpellsUntil ts) z x.length.until q.2.3.0) e q.2.3.2.1 in
        omega (arith, length_by x.length.until q.2.3.0 p none, q.2.3.4)

    assume_by : (xs : List Expr) (b c : ℕ) → Sequence (Clause ts (codes "assume") (Spells true ts)) b xs c → (xs ≡ [] → ⊥) → IsWord ts b (codes "assume")
    assume_by [] b c q some = absurd (some refl)
    assume_by (x ∷ xs) b c q some = q.1.1

    none_by : (xs : List Expr) (b c : ℕ) → Sequence (Clause ts (codes "assume") (Spells true ts)) b xs c → xs ≡ [] → b ≡ c
    none_by [] b c q e = q
    none_by (x ∷ xs) b c q e = absurd (cc)

    windows_apart : (e : ℕ) (u : Option ℕ) (b : ℕ) → Maybe (Clause ts (codes "window") (IsDigits ts)) e u b → IsWord ts b (codes "assume")
        → (v : Option ℕ) (d : ℕ) → Maybe (Clause ts (codes "window") (IsDigits ts)) e v d → IsWord ts d (codes "commit") ⊎ IsTail ts d → ⊥
    windows_apart e None b p w None d q f = no_assume d f (subst (λ z. IsWord ts z (codes "assume")) (sym p ∙ q) w)
    windows_apart e None b p w (Some v) d q f = two_words ts e (codes "assume") (codes "window") refl (subst (λ z. IsWord ts z (codes "assume")) (sym p) w) q.1
    windows_apart e (Some u) b p w None d q f = no_window d (inr f) (subst (λ z. IsWord ts z (codes "window")) q p.1)
    windows_apart e (Some u) b p w (Some v) d q f =
        let s : b ≡ d = omega (arith, p.4, q.4, p.2.4, q.2.4) in no_assume d f (subst (λ z. IsWord ts z (codes "assume")) s w)

    pub assume_apart : (x : PropertyText) (j : ℕ) → SpellsProperty ts i x j → x.length.until ≡ None → (x.assume ≡ [] → ⊥)
        → (y : PropertyText) (k : ℕ) → SpellsProperty ts i y k → y.length.until ≡ None → y.assume ≡ [] → ⊥
    assume_apart x j p fixed_x some y k q fixed_y none =
        let a : Maybe (Clause ts (codes "window") (IsDigits ts)) (i + 4) x.window p.2.1 = subst (λ z. Maybe (Clause ts (codes "window") (IsDigits ts)) z x.window p.2.1) (length_end x j p fixed_x) p.2.4 in
        let b : Maybe (Clause ts (codes "window") (IsDigits ts)) (i + 4) y.window q.2.1 = subst (λ z. Maybe (Clause ts (codes "window") (IsDigits ts)) z y.window q.2.1) (length_end y k q fixed_y) q.2.4 in
        let c : IsWord ts q.2.2 (codes "commit") ⊎ IsTail ts q.2.2 = commits_begin y.commit q.2.2 q.0 q.2.6 (tail_begins q.0 y k q.3) in
        windows_apart (i + 4) x.window p.2.1 a (assume_by x.assume p.2.1 p.2.2 p.2.5 some) y.window q.2.1 b
        (subst (λ z. IsWord ts z (codes "commit") ⊎ IsTail ts z) (sym (none_by y.assume q.2.1 q.2.2 q.2.5 none)) c)

  -- a whole set
  rule_no_role : (i : ℕ) (kind : RuleKind) → IsWord ts i (rule_word kind) → NoRole ts i
  rule_no_role i rule.Constraint p role.Input q = two_words ts i (codes "constraint") (codes "input") refl p q
  rule_no_role i rule.Constraint p role.Output q = two_words ts i (codes "constraint") (codes "output") refl p q
  rule_no_role i rule.Constraint p role.State q = two_words ts i (codes "constraint") (codes "state") refl p q
  rule_no_role i rule.Invariant p role.Input q = two_words ts i (codes "invariant") (codes "input") refl p q
  rule_no_role i rule.Invariant p role.Output q = two_words ts i (codes "invariant") (codes "output") refl p q
  rule_no_role i rule.Invariant p role.State q = two_words ts i (codes "invariant") (codes "state") refl p q

  property_no_role : (i : ℕ) → IsWord ts i (codes "property") → NoRole ts i
  property_no_role i p role.Input q = two_words ts i (codes "property") (codes "input") refl p q
  property_no_role i p role.Output q = two_words ts i (codes "property") (codes "output") refl p q
  property_no_role i p role.State q = two_words ts i (codes "property") (codes "state") refl p q

  property_no_rule : (i : ℕ) → IsWord ts i (codes "property") → NoRule ts i
  property_no_rule i p rule.Constraint q = two_words ts i (codes "property") (codes "constraint") refl p q
  property_no_rule i p rule.Invariant q = two_words ts i (codes "property") (codes "invariant") refl p q

  rules_no_role : (xs : List RuleText) (a b : ℕ) → Sequence (SpellsRule ts) a xs b → IsWord ts b (codes "property") → NoRole ts a
  rules_no_role [] a b q p = property_no_role a (subst (λ z. IsWord ts z (codes "property")) (sym q) p)
  rules_no_role (x ∷ xs) a b q p = rule_no_role a x.kind q.1.1

  abbrev pub AfterDeclarations : ℕ → SetText → Type 0
  AfterDeclarations i t = (b c : ℕ) × Sequence (SpellsRule ts) i t.rules b × SpellsReset ts b t.first c × Sequence (SpellsOperation ts) c t.operations (length ts)

  abbrev pub AfterRules : ℕ → SetText → Type 0
  AfterRules i t = (c : ℕ) × SpellsReset ts i t.first c × Sequence (SpellsOperation ts) c t.operations (length ts)

  pub declarations_end : (t : SetText) (q : SpellsSet ts t) → NoRole ts q.0
  declarations_end t q = rules_no_role t.rules q.0 q.1 q.5 q.6.0

  pub after_declarations : (m : ℕ) → ((x : List Declaration) (j : ℕ) → Sequence (SpellsDeclaration ts) 11 x j → NoRole ts j → j ≡ m) → (t : SetText) → SpellsSet ts t → AfterDeclarations m t
  after_declarations m only t q =
      let e : q.0 ≡ m = only t.declarations q.0 q.4 (declarations_end t q) in (q.1, q.2, subst (λ z. Sequence (SpellsRule ts) z t.rules q.1) e q.5, q.6, q.7)

  pub rules_end : (i : ℕ) (t : SetText) (q : AfterDeclarations i t) → NoRule ts q.0
  rules_end i t q = property_no_rule q.0 q.3.0

  pub after_rules : (i m : ℕ) → ((x : List RuleText) (j : ℕ) → Sequence (SpellsRule ts) i x j → NoRule ts j → j ≡ m) → (t : SetText) → AfterDeclarations i t → AfterRules m t
  after_rules i m only t q = let e : q.0 ≡ m = only t.rules q.0 q.2 (rules_end i t q) in (q.1, subst (λ z. SpellsReset ts z t.first q.1) e q.3, q.4)

  pub after_reset : (i m : ℕ) → ((x : PropertyText) (j : ℕ) → SpellsReset ts i x j → Unit {0} → j ≡ m) → (t : SetText) → AfterRules i t → Sequence (SpellsOperation ts) m t.operations (length ts)
  after_reset i m only t q = let e : q.0 ≡ m = only t.first q.0 q.1 tt in subst (λ z. Sequence (SpellsOperation ts) z t.operations (length ts)) e q.2

  pub operations_end : NoWord (codes "operation") ts (length ts)
  operations_end w = absurd (omega (arith, kind_within ts (length ts) (k.Word (codes "operation")) w))
