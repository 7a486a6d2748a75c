-- Refusals that are passed on, and sequences up to a token of their own.
use Rattle.std.proofs.Common.{ℕ, ◌≡◌, ◌≤◌, max, List, [], ◌∷◌, ◌++◌, false, refl, sym, ap, subst, arith}
use Rattle.vlog_tree.specs.declared.token.Token.{Token}
use Rattle.vlog_tree.specs.declared.expr.Expr.{Expr}
use Rattle.vlog_tree.specs.Lists.{Sequence, highest}
use Rattle.vlog_tree.specs.Spelling.{Spells, Reads}
use Rattle.vlog_read_spelling.proofs.Tokens.{Stops}
use Rattle.vlog_read_spelling.proofs.Reading.{stop_ends, level_pos}
use Rattle.vlog_read_lex.specs.declared.error.ReadFault.{ReadFault}
use Rattle.vlog_read_lex.specs.declared.error.ReadFault.TheVariants as f
use Rattle.vlog_read_expr.specs.Answers.{Refusal}
use Rattle.vlog_read_expr.specs.Names.{Lacks}

-- where each Q has a P in it, no P is no Q
pub lacking : {A B : Type 0} (P : A → ℕ → Type 0) (Q : B → ℕ → Type 0) → ((b : B) (j : ℕ) → Q b j → (a : A) × (m : ℕ) × P a m) → (fault : ReadFault) → Lacks P fault → Lacks Q fault
lacking P Q has (f.Syntax place) r = λ b j q. let p = has b j q in r p.0 p.1 p.2
lacking P Q has f.Deep r = r
lacking P Q has f.Memory r = tt
lacking P Q has (f.Bytes place) r = r
lacking P Q has (f.Number place) r = r
lacking P Q has (f.Outside place) r = r

pub lacks_refuses : {A : Type 0} (h : A → ℕ) (P : A → ℕ → Type 0) (ts : List Token) (i depth : ℕ) (fault : ReadFault) → Lacks P fault → Refusal h P ts i depth fault
lacks_refuses h P ts i depth (f.Syntax place) r = r
lacks_refuses h P ts i depth f.Deep r = absurd r
lacks_refuses h P ts i depth f.Memory r = tt
lacks_refuses h P ts i depth (f.Bytes place) r = r
lacks_refuses h P ts i depth (f.Number place) r = r
lacks_refuses h P ts i depth (f.Outside place) r = r

pub tree_at : (ts : List Token) (i : ℕ) (a : Expr) (j : ℕ) → Spells false ts i a j → Stops false ts j → Reads false ts 1 i a j
tree_at ts i a j s p = record { spelt = s; binds = level_pos a; ends = stop_ends false ts 1 j p }

pub highest-append : {A : Type 0} (h : A → ℕ) (xs ys : List A) → highest h (xs ++ ys) ≡ max (highest h xs) (highest h ys)
highest-append h [] ys = omega arith
highest-append h (x ∷ xs) ys = omega (arith, highest-append h xs ys)

module _ {A : Type 0} (P : ℕ → A → ℕ → Type 0) where
  pub sequence_snoc : (xs : List A) (i m : ℕ) (x : A) (j : ℕ) → Sequence P i xs m → P m x j → Sequence P i (xs ++ x ∷ []) j
  sequence_snoc [] i m x j p q = (j, subst (λ z. P z x j) (sym p) q, refl)
  sequence_snoc (y ∷ ys) i m x j p q = (p.0, p.1, sequence_snoc ys p.0 m x j p.2 q)

-- one after another, up to a token with which none of them begins
module _ {A : Type 0} (h : A → ℕ) (stop : ℕ → Type 0) (P : ℕ → A → ℕ → Type 0)
    (unique : (i : ℕ) (a : A) (j : ℕ) (b : A) (k : ℕ) → P i a j → P i b k → (a ≡ b) × (j ≡ k))
    (begins : (i : ℕ) (a : A) (j : ℕ) → P i a j → stop i → ⊥) where
  -- each whole sequence goes on where a part of it ends
  pub rest : (items ys : List A) (i end j : ℕ) → Sequence P i items end → Sequence P i ys j → stop j → (xs : List A) × Sequence P end xs j × (ys ≡ items ++ xs)
  rest [] ys i end j p q s = (ys, subst (λ z. Sequence P z ys j) p q, refl)
  rest (x ∷ items) [] i end j p q s = absurd (begins i x p.0 p.1 (subst stop (sym q) s))
  rest (x ∷ items) (y ∷ ys) i end j p q s =
      let u : (x ≡ y) × (p.0 ≡ q.0) = unique i x p.0 y q.0 p.1 q.1 in
      let r : (xs : List A) × Sequence P end xs j × (ys ≡ items ++ xs) = rest items ys p.0 end j p.2 (subst (λ z. Sequence P z ys j) (sym u.1) q.2) s in
      (r.0, r.1, λ z. sym u.0 z ∷ r.2 z)

  -- and has one more there, where it does not stop
  pub next : (items : List A) (i end : ℕ) → Sequence P i items end → (stop end → ⊥) → (ys : List A) (j : ℕ) → Sequence P i ys j → stop j
      → (a : A) × (k : ℕ) × P end a k × (h a ≤ highest h ys)
  next items i end p open_ ys j q s = let o = rest items ys i end j p q s in by o.0 o.1 o.2
    where
      by : (xs : List A) → Sequence P end xs j → ys ≡ items ++ xs → (a : A) × (k : ℕ) × P end a k × (h a ≤ highest h ys)
      by [] q' e = absurd (open_ (subst stop (sym q') s))
      by (x ∷ xs) q' e = (x, q'.0, q'.1, omega (arith, ap (highest h) e, highest-append h items (x ∷ xs)))
