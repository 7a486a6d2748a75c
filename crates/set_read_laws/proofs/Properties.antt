-- Properties: at one place stands at most one.
use Rattle.std.proofs.Common.{ℕ, ◌+◌, ◌≡◌, ◌⊎◌, inl, inr, List, [], ◌∷◌, Option, true, false, refl, sym, subst, ◌∙◌, arith}
use Rattle.std.specs.Prelude.{codes}
use Rattle.std.specs.Str.{bytes_eq}
use Rattle.vlog_tree.specs.declared.token.Token.{Token}
use Rattle.vlog_tree.specs.declared.expr.Expr.{Expr}
use Rattle.vlog_tree.specs.Lists.{Maybe, Sequence, Separated, Comma}
use Rattle.vlog_tree.specs.Signs.{IsWord}
use Rattle.vlog_tree.specs.Spelling.{IsNamed, Spells}
use Rattle.vlog_read_spelling.proofs.Tokens.{two_words}
use Rattle.vlog_read_spelling.proofs.Names.{one_identifier}
use Rattle.vlog_read_spelling.proofs.Lists.{one_sequence}
use Rattle.set_tree.specs.declared.text.CoverText.{CoverText}
use Rattle.set_tree.specs.declared.text.LengthText.{LengthText}
use Rattle.set_tree.specs.declared.text.PropertyText.{PropertyText}
use Rattle.set_tree.specs.Spelling.{Clause, IsDigits, SpellsConditions, SpellsCover, SpellsHand, SpellsLength, SpellsOperation, SpellsProperty, SpellsReset, SpellsTail}
use Rattle.set_read_laws.proofs.Clauses.{One, OneBefore, maybe_before, NoWord, one_clause, one_clauses, one_digits, one_formula, one_formulas, one_names}
use Rattle.set_read_laws.proofs.Lines.{one_cover, one_length}

module _ (ts : List Token) where
  -- the hand-over, the covers and the successors
  one_hand : OneBefore (NoWord ts (codes "hand")) (SpellsHand ts)
  one_hand i [] j [] k p u q v = (refl, sym p ∙ q)
  one_hand i [] j (y ∷ ys) k p u q v = absurd (u (subst (λ z. IsWord ts z (codes "hand")) p q.1))
  one_hand i (x ∷ xs) j [] k p u q v = absurd (v (subst (λ z. IsWord ts z (codes "hand")) q p.1))
  one_hand i (x ∷ xs) j (y ∷ ys) k p u q v = one_clause ts (codes "hand") (Separated (Comma ts) (Spells true ts)) (one_formulas ts) i (x ∷ xs) j (y ∷ ys) k p q

  covers_begin : (xs : List CoverText) (i j : ℕ) → Sequence (SpellsCover ts) i xs j → IsWord ts j (codes "next") → IsWord ts i (codes "cover") ⊎ IsWord ts i (codes "next")
  covers_begin [] i j p u = inr (subst (λ z. IsWord ts z (codes "next")) (sym p) u)
  covers_begin (x ∷ xs) i j p u = inl p.1.2

  no_hand : (i : ℕ) → IsWord ts i (codes "cover") ⊎ IsWord ts i (codes "next") → NoWord ts (codes "hand") i
  no_hand i (inl p) here = two_words ts i (codes "cover") (codes "hand") refl p here
  no_hand i (inr p) here = two_words ts i (codes "next") (codes "hand") refl p here

  one_tail : (i : ℕ) (xs : List Expr) (cs : List CoverText) (ns : List (List ℕ)) (j : ℕ) (ys : List Expr) (ds : List CoverText) (ms : List (List ℕ)) (k : ℕ)
      → SpellsTail ts i xs cs ns j → SpellsTail ts i ys ds ms k → (xs ≡ ys) × (cs ≡ ds) × (ns ≡ ms) × (j ≡ k)
  one_tail i xs cs ns j ys ds ms k (a, b, c, hand, covers, next, brace, end) (a', b', c', hand', covers', next', brace', end') =
      let h : (xs ≡ ys) × (a ≡ a') = one_hand i xs a ys a' hand (no_hand a (covers_begin cs a b covers next.1)) hand' (no_hand a' (covers_begin ds a' b' covers' next'.1)) in
      let o : (cs ≡ ds) × (b ≡ b') =
      one_sequence (λ z. IsWord ts z (codes "next")) (SpellsCover ts) (one_cover ts) (λ m x n p here. two_words ts m (codes "cover") (codes "next") refl p.2 here)
      cs ds a b b' covers next.1 (subst (λ z. Sequence (SpellsCover ts) z ds b') (sym h.1) covers') next'.1 in
      let n : (ns ≡ ms) × (c ≡ c') =
      one_clause ts (codes "next") (Separated (Comma ts) (IsNamed true ts)) (one_names ts) b ns c ms c' next
      (subst (λ z. Clause ts (codes "next") (Separated (Comma ts) (IsNamed true ts)) z ms c') (sym o.1) next') in
      (h.0, o.0, n.0, omega (arith, end, end', n.1))

  -- with which word a tail begins
  abbrev IsTail : ℕ → Type 0
  IsTail j = IsWord ts j (codes "hand") ⊎ (IsWord ts j (codes "cover") ⊎ IsWord ts j (codes "next"))

  hand_begins : (xs : List Expr) (i j : ℕ) → SpellsHand ts i xs j → IsWord ts j (codes "cover") ⊎ IsWord ts j (codes "next") → IsTail i
  hand_begins [] i j p u = inr (subst (λ z. IsWord ts z (codes "cover") ⊎ IsWord ts z (codes "next")) (sym p) u)
  hand_begins (x ∷ xs) i j p u = inl p.1

  tail_begins : (i : ℕ) (xs : List Expr) (cs : List CoverText) (ns : List (List ℕ)) (j : ℕ) → SpellsTail ts i xs cs ns j → IsTail i
  tail_begins i xs cs ns j (a, b, c, hand, covers, next, brace, end) = hand_begins xs i a hand (covers_begin cs a b covers next.1)

  no_tail : (w : List ℕ) → bytes_eq (codes "hand") w ≡ false → bytes_eq (codes "cover") w ≡ false → bytes_eq (codes "next") w ≡ false → (i : ℕ) → IsTail i → NoWord ts w i
  no_tail w a b c i (inl p) here = two_words ts i (codes "hand") w a p here
  no_tail w a b c i (inr (inl p)) here = two_words ts i (codes "cover") w b p here
  no_tail w a b c i (inr (inr p)) here = two_words ts i (codes "next") w c p here

  -- the length, the window, the assumption and the commitment, before a tail
  clauses_begin : {A : Type 0} (w : List ℕ) (P : ℕ → A → ℕ → Type 0) (F : ℕ → Type 0) (xs : List A) (i j : ℕ) → Sequence (Clause ts w P) i xs j → F j → IsWord ts i w ⊎ F i
  clauses_begin w P F [] i j p u = inr (subst F (sym p) u)
  clauses_begin w P F (x ∷ xs) i j p u = inl p.1.1

  no_assume : (i : ℕ) → IsWord ts i (codes "commit") ⊎ IsTail i → NoWord ts (codes "assume") i
  no_assume i (inl p) here = two_words ts i (codes "commit") (codes "assume") refl p here
  no_assume i (inr p) here = no_tail (codes "assume") refl refl refl i p here

  no_window : (i : ℕ) → IsWord ts i (codes "assume") ⊎ (IsWord ts i (codes "commit") ⊎ IsTail i) → NoWord ts (codes "window") i
  no_window i (inl p) here = two_words ts i (codes "assume") (codes "window") refl p here
  no_window i (inr (inl p)) here = two_words ts i (codes "commit") (codes "window") refl p here
  no_window i (inr (inr p)) here = no_tail (codes "window") refl refl refl i p here

  maybe_window : OneBefore (NoWord ts (codes "window")) (Maybe (Clause ts (codes "window") (IsDigits ts)))
  maybe_window i x j y k p u q v =
      maybe_before (NoWord ts (codes "window")) (Clause ts (codes "window") (IsDigits ts))
      (λ m a n b o c d e f. one_clause ts (codes "window") (IsDigits ts) (λ m' a' n' b' o' c' d' e' f'. one_digits ts m' a' n' b' o' c' e') m a n b o c e)
      (λ z. IsWord ts z (codes "window")) (λ m a n c. c.1) (λ n none here. none here) i x j y k p u q v

  abbrev Assumes : ℕ → List Expr → ℕ → Type 0
  Assumes = Sequence (Clause ts (codes "assume") (Spells true ts))

  abbrev Commits : ℕ → List Expr → ℕ → Type 0
  Commits = Sequence (Clause ts (codes "commit") (Spells true ts))

  commits_begin : (xs : List Expr) (i j : ℕ) → Commits i xs j → IsTail j → IsWord ts i (codes "commit") ⊎ IsTail i
  commits_begin xs i j p u = clauses_begin (codes "commit") (Spells true ts) IsTail xs i j p u

  assumes_begin : (xs ys : List Expr) (i j k : ℕ) → Assumes i xs j → Commits j ys k → IsTail k → IsWord ts i (codes "assume") ⊎ (IsWord ts i (codes "commit") ⊎ IsTail i)
  assumes_begin xs ys i j k p q u = clauses_begin (codes "assume") (Spells true ts) (λ z. IsWord ts z (codes "commit") ⊎ IsTail z) xs i j p (commits_begin ys j k q u)

  one_conditions : (i : ℕ) (l : LengthText) (w : Option ℕ) (es cs : List Expr) (j : ℕ) (l' : LengthText) (w' : Option ℕ) (es' cs' : List Expr) (k : ℕ)
      → SpellsConditions ts i l w es cs j → IsTail j → SpellsConditions ts i l' w' es' cs' k → IsTail k → (l ≡ l') × (w ≡ w') × (es ≡ es') × (cs ≡ cs') × (j ≡ k)
  one_conditions i l w es cs j l' w' es' cs' k (a, b, c, length, window, assume, commit) u (a', b', c', length', window', assume', commit') v =
      let g : (l ≡ l') × (a ≡ a') = one_clause ts (codes "length") (SpellsLength ts) (one_length ts) i l a l' a' length length' in
      let h : (w ≡ w') × (b ≡ b') =
      maybe_window a w b w' b' window (no_window b (assumes_begin es cs b c j assume commit u)) (subst (λ z. Maybe (Clause ts (codes "window") (IsDigits ts)) z w' b') (sym g.1) window')
      (no_window b' (assumes_begin es' cs' b' c' k assume' commit' v)) in
      let o : (es ≡ es') × (c ≡ c') =
      one_clauses ts (codes "assume") (Spells true ts) (one_formula ts) b es c es' c' assume (no_assume c (commits_begin cs c j commit u)) (subst (λ z. Assumes z es' c') (sym h.1) assume')
      (no_assume c' (commits_begin cs' c' k commit' v)) in
      let r : (cs ≡ cs') × (j ≡ k) =
      one_clauses ts (codes "commit") (Spells true ts) (one_formula ts) c cs j cs' k commit (no_tail (codes "commit") refl refl refl j u) (subst (λ z. Commits z cs' k) (sym o.1) commit')
      (no_tail (codes "commit") refl refl refl k v) in
      (g.0, h.0, o.0, r.0, r.1)

  -- of one name, from the opening brace on
  one_property : (i : ℕ) (x : PropertyText) (j : ℕ) (y : PropertyText) (k : ℕ) → x.name ≡ y.name → SpellsProperty ts i x j → SpellsProperty ts i y k → (x ≡ y) × (j ≡ k)
  one_property i x j y k name (m, brace, conditions, tail) (m', brace', conditions', tail') =
      let g : (x.length ≡ y.length) × (x.window ≡ y.window) × (x.assume ≡ y.assume) × (x.commit ≡ y.commit) × (m ≡ m') =
      one_conditions (i + 1) x.length x.window x.assume x.commit m y.length y.window y.assume y.commit m' conditions (tail_begins m x.hand x.covers x.next j tail)
      conditions' (tail_begins m' y.hand y.covers y.next k tail') in
      let h : (x.hand ≡ y.hand) × (x.covers ≡ y.covers) × (x.next ≡ y.next) × (j ≡ k) =
      one_tail m x.hand x.covers x.next j y.hand y.covers y.next k tail (subst (λ z. SpellsTail ts z y.hand y.covers y.next k) (sym g.4) tail') in
      ((λ z. record { name = name z; length = g.0 z; window = g.1 z; assume = g.2 z; commit = g.3 z; hand = h.0 z; covers = h.1 z; next = h.2 z }), h.3)

  pub one_reset : One (SpellsReset ts)
  one_reset i x j y k p q = one_property (i + 2) x j y k (p.2 ∙ sym q.2) p.5 q.5

  pub one_operation : One (SpellsOperation ts)
  one_operation i x j y k p q = one_property (i + 2) x j y k (one_identifier true ts (i + 1) x.name y.name p.1.0 q.1.0) p.2 q.2
