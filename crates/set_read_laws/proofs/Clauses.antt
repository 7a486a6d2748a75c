-- Numbers, formulas, lists and clauses: at one place stands at most one of each.
use Rattle.std.proofs.Common.{ℕ, ◌+◌, ◌≡◌, ◌⊎◌, inl, inr, List, Some, None, true, refl, sym, ap, subst, ◌∙◌, arith}
use Rattle.std.specs.Prelude.{codes}
use Rattle.vlog_tree.specs.declared.token.Number.{Number}
use Rattle.vlog_tree.specs.declared.token.Token.{Token}
use Rattle.vlog_tree.specs.Lists.{Maybe, Sequence, Separated, Comma}
use Rattle.vlog_tree.specs.Signs.{IsSign, IsWord}
use Rattle.vlog_tree.specs.Spelling.{IsNamed, Spells}
use Rattle.vlog_read_spelling.proofs.Tokens.{Stops, stops_comma, stops_semicolon, two_signs}
use Rattle.vlog_read_spelling.proofs.Names.{one_named}
use Rattle.vlog_read_spelling.proofs.Reading.{unique, stop_ends, level_pos}
use Rattle.vlog_read_spelling.proofs.Lists.{one_separated, one_sequence}
use Rattle.set_tree.specs.Spelling.{Clause, IsDigits}

-- what P spells at one place is one, and so is its end
abbrev pub One : {A : Type 0} → (ℕ → A → ℕ → Type 0) → Type 0
One {A} P = (i : ℕ) (x : A) (j : ℕ) (y : A) (k : ℕ) → P i x j → P i y k → (x ≡ y) × (j ≡ k)

-- so is what it spells before F
abbrev pub OneBefore : {A : Type 0} → (ℕ → Type 0) → (ℕ → A → ℕ → Type 0) → Type 0
OneBefore {A} F P = (i : ℕ) (x : A) (j : ℕ) (y : A) (k : ℕ) → P i x j → F j → P i y k → F k → (x ≡ y) × (j ≡ k)

-- what may stand, where its first token tells
pub maybe_before : {A : Type 0} (F : ℕ → Type 0) (P : ℕ → A → ℕ → Type 0) → OneBefore F P → (starts : ℕ → Type 0) → ((i : ℕ) (x : A) (j : ℕ) → P i x j → starts i)
    → ((j : ℕ) → F j → starts j → ⊥) → OneBefore F (Maybe P)
maybe_before F P one starts begins apart i None j None k p u q v = (refl, sym p ∙ q)
maybe_before F P one starts begins apart i None j (Some y) k p u q v = absurd (apart j u (subst starts p (begins i y k q)))
maybe_before F P one starts begins apart i (Some x) j None k p u q v = absurd (apart k v (subst starts q (begins i x j p)))
maybe_before F P one starts begins apart i (Some x) j (Some y) k p u q v = let r : (x ≡ y) × (j ≡ k) = one i x j y k p u q v in (ap Some r.0, r.1)

module _ (ts : List Token) where
  abbrev pub Semicolon : ℕ → Type 0
  Semicolon j = IsSign ts j (codes ";")

  abbrev pub NoWord : List ℕ → ℕ → Type 0
  NoWord w j = IsWord ts j w → ⊥

  pub word_no_sign : (i : ℕ) (w s : List ℕ) → IsWord ts i w → IsSign ts i s → ⊥
  word_no_sign i w s p q = cc

  pub one_digits : One (IsDigits ts)
  one_digits i v j w k p q =
      let n : p.0 ≡ q.0 = let a = p.1 in let b = q.1 in cc in
      (p.3 ∙ (ap (λ (z : Number). z.value) n ∙ sym q.3), p.4 ∙ sym q.4)

  pub word_no_digits : (i : ℕ) (w : List ℕ) (v j : ℕ) → IsWord ts i w → IsDigits ts i v j → ⊥
  word_no_digits i w v j p q = let a = q.1 in cc

  one_tree : OneBefore (Stops true ts) (Spells true ts)
  one_tree i a j b k p u q v =
      unique true ts 1 i a j b k (record { spelt = p; binds = level_pos a; ends = stop_ends true ts 1 j u }) (record { spelt = q; binds = level_pos b; ends = stop_ends true ts 1 k v })

  pub one_formula : OneBefore Semicolon (Spells true ts)
  one_formula i a j b k p u q v = one_tree i a j b k p (stops_semicolon true ts j u) q (stops_semicolon true ts k v)

  comma_apart : (j : ℕ) → Comma ts j → Semicolon j → ⊥
  comma_apart j p q = two_signs ts j (codes ",") (codes ";") refl p q

  stops : (j : ℕ) → Comma ts j ⊎ Semicolon j → Stops true ts j
  stops j (inl p) = stops_comma true ts j p
  stops j (inr p) = stops_semicolon true ts j p

  pub one_formulas : OneBefore Semicolon (Separated (Comma ts) (Spells true ts))
  one_formulas i xs j ys k p u q v =
      one_separated (Comma ts) (λ z. Semicolon z) (Spells true ts) (λ m a n b o c d e f. one_tree m a n b o c (stops n d) e (stops o f)) comma_apart xs ys i j k p u q v

  pub one_names : OneBefore Semicolon (Separated (Comma ts) (IsNamed true ts))
  one_names i xs j ys k p u q v =
      one_separated (Comma ts) (λ z. Semicolon z) (IsNamed true ts) (λ m a n b o c d e f. one_named true ts m a n b o c e) comma_apart xs ys i j k p u q v

  pub one_clause : {A : Type 0} (w : List ℕ) (P : ℕ → A → ℕ → Type 0) → OneBefore Semicolon P → One (Clause ts w P)
  one_clause w P one i x j y k p q =
      let r : (x ≡ y) × (p.0 ≡ q.0) = one (i + 1) x p.0 y q.0 p.2 p.3 q.2 q.3 in (r.0, omega (arith, r.1, p.4, q.4))

  pub one_clauses : {A : Type 0} (w : List ℕ) (P : ℕ → A → ℕ → Type 0) → OneBefore Semicolon P → OneBefore (NoWord w) (Sequence (Clause ts w P))
  one_clauses w P one i xs j ys k p u q v =
      one_sequence (NoWord w) (Clause ts w P) (one_clause w P one) (λ m x n c none. none c.1) xs ys i j k p u q v
