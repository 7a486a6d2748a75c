-- What is spelt passes on the refusal of its part; names, paths and formulas by the readers that they are read with.
use Rattle.std.proofs.Common.{ℕ, ◌+◌, ◌≡◌, ◌<◌, ◌≤◌, ◌⊎◌, inl, inr, List, [], ◌∷◌, Option, Some, None, length, true, refl, sym, subst, ◌∙◌, arith}
use Rattle.std.specs.Prelude.{IfNone, codes}
use Rattle.vlog_tree.specs.declared.token.Token.{Token}
use Rattle.vlog_tree.specs.declared.expr.Expr.{Expr}
use Rattle.vlog_tree.specs.Signs.{IsSign}
use Rattle.vlog_tree.specs.Lists.{More, Separated, Sequence, highest}
use Rattle.vlog_tree.specs.Spelling.{IsPath, Spells, Reads}
use Rattle.vlog_read_spelling.proofs.Tokens.{Stops, stops_comma, stops_semicolon, two_signs}
use Rattle.vlog_read_spelling.proofs.Forms.{height_pos, length_of, within}
use Rattle.vlog_read_spelling.proofs.Names.{one_path, name_long}
use Rattle.vlog_read_spelling.proofs.Reading.{stop_ends, level_pos, unique}
use Rattle.vlog_read_lex.specs.declared.error.ReadFault.{ReadFault}
use Rattle.vlog_read_lex.specs.declared.error.ReadFault.TheVariants as lex
use Rattle.vlog_read_expr.specs.Answers.{Refusal}
use Rattle.vlog_read_expr.specs.Names.{Lacks, ReadsPath}
use Rattle.set_read.specs.declared.fault.TextFault.{TextFault}
use Rattle.set_read.specs.declared.fault.TextFault.TheVariants as text
use Rattle.set_read.specs.Answers.{Denies, IsSyntax, IsOf, IsFlat, IsLong, Ends, NoSign, Semicolon, flat}

pub passes : (P Q : Type 0) → (P → Q) → (fault : TextFault) → Denies P fault → Denies Q fault
passes P Q f (text.Syntax at) d = d
passes P Q f text.Deep d = f d
passes P Q f text.Memory d = tt

pub syntax_long : (ts : List Token) (i : ℕ) (fault : TextFault) → IsSyntax fault → IsLong ts i fault
syntax_long ts i fault s = λ deep. let e : text.Syntax s.0 ≡ text.Deep = sym s.1 ∙ deep in absurd (cc)

pub later_long : (ts : List Token) (i j : ℕ) (fault : TextFault) → i ≤ j → IsLong ts j fault → IsLong ts i fault
later_long ts i j fault h l = λ deep. omega (arith, l deep, h)

pub if_none : {A : Type 0} {P : Type 0} (r : Option A) → IfNone r P → ((a : A) → r ≡ Some a → ⊥) → P
if_none None h n = h
if_none (Some a) h n = absurd (n a refl)

pub none_high : {A : Type 0} (xs : List A) → highest flat xs ≡ 0
none_high [] = refl
none_high (x ∷ xs) = omega (arith, none_high xs)

module _ {A : Type 0} (ts : List Token) (i : ℕ) (P : A → ℕ → Type 0) where
  pub lacks_denies : (High : Type 0) (fault : ReadFault) (r : TextFault) → IsOf fault r → Lacks P fault → (x : A) (j : ℕ) → P x j → Denies High r
  lacks_denies High (lex.Syntax at) r s l = λ x j p. absurd (l x j p)
  lacks_denies High lex.Memory r s l = λ x j p. subst (Denies High) (sym s) tt
  lacks_denies High lex.Deep r s l = absurd l
  lacks_denies High (lex.Bytes at) r s l = absurd l
  lacks_denies High (lex.Number at) r s l = absurd l
  lacks_denies High (lex.Outside at) r s l = absurd l

  pub lacks_flat : (fault : ReadFault) (r : TextFault) → IsOf fault r → Lacks P fault → IsFlat r
  lacks_flat (lex.Syntax at) r s l = λ deep. let e : text.Syntax s.0 ≡ text.Deep = sym s.1 ∙ deep in absurd (cc)
  lacks_flat lex.Memory r s l = λ deep. let e : text.Memory ≡ text.Deep = sym s ∙ deep in absurd (cc)
  lacks_flat lex.Deep r s l = absurd l
  lacks_flat (lex.Bytes at) r s l = absurd l
  lacks_flat (lex.Number at) r s l = absurd l
  lacks_flat (lex.Outside at) r s l = absurd l

  pub lacks_long : (fault : ReadFault) (r : TextFault) → IsOf fault r → Lacks P fault → IsLong ts i r
  lacks_long (lex.Syntax at) r s l = syntax_long ts i r s
  lacks_long lex.Memory r s l = λ deep. let e : text.Memory ≡ text.Deep = sym s ∙ deep in absurd (cc)
  lacks_long lex.Deep r s l = absurd l
  lacks_long (lex.Bytes at) r s l = absurd l
  lacks_long (lex.Number at) r s l = absurd l
  lacks_long (lex.Outside at) r s l = absurd l

  pub refusal_denies : (h : A → ℕ) (depth : ℕ) (fault : ReadFault) (r : TextFault) → IsOf fault r → Refusal h P ts i depth fault → (x : A) (j : ℕ) → P x j → Denies (depth < h x) r
  refusal_denies h depth (lex.Syntax at) r s l = λ x j p. absurd (l x j p)
  refusal_denies h depth lex.Memory r s l = λ x j p. subst (Denies (depth < h x)) (sym s) tt
  refusal_denies h depth lex.Deep r s l = λ x j p. subst (Denies (depth < h x)) (sym s) (l.higher x j p)
  refusal_denies h depth (lex.Bytes at) r s l = absurd l
  refusal_denies h depth (lex.Number at) r s l = absurd l
  refusal_denies h depth (lex.Outside at) r s l = absurd l

  pub refusal_long : (h : A → ℕ) (fault : ReadFault) (r : TextFault) → IsOf fault r → Refusal h P ts i 498 fault → IsLong ts i r
  refusal_long h (lex.Syntax at) r s l = syntax_long ts i r s
  refusal_long h lex.Memory r s l = λ deep. let e : text.Memory ≡ text.Deep = sym s ∙ deep in absurd (cc)
  refusal_long h lex.Deep r s l = λ deep. l.tokens
  refusal_long h (lex.Bytes at) r s l = absurd l
  refusal_long h (lex.Number at) r s l = absurd l
  refusal_long h (lex.Outside at) r s l = absurd l

module _ (ts : List Token) where
  pub path_past : (i : ℕ) (w : List ℕ) (j : ℕ) → IsPath ts i w j → i < j
  path_past i w j p = name_long true ts i (record { text = w; offset = 0 }) j (j, p, inl (refl, refl))

  pub path_only : (i : ℕ) (v : List ℕ) (m : ℕ) → ReadsPath ts i v m → (w : List ℕ) (j : ℕ) → IsPath ts i w j → NoSign (codes ".") ts j → j ≡ m
  path_only i v m p w j q f = (one_path ts i w j v m q f p.0 p.1).1

  pub comma_apart : (j : ℕ) → IsSign ts j (codes ",") → Semicolon ts j → ⊥
  comma_apart j p q = two_signs ts j (codes ",") (codes ";") refl p q

  stops : (j : ℕ) → Ends ts j → Stops true ts j
  stops j (inl p) = stops_comma true ts j p
  stops j (inr p) = stops_semicolon true ts j p

  pub tree_at : (i : ℕ) (a : Expr) (j : ℕ) → Spells true ts i a j → Ends ts j → Reads true ts 1 i a j
  tree_at i a j s p = record { spelt = s; binds = level_pos a; ends = stop_ends true ts 1 j (stops j p) }

  pub tree_past : (i : ℕ) (a : Expr) (j : ℕ) → Spells true ts i a j → i < j
  tree_past i a j s = omega (arith, length_of true ts i a j s, height_pos a)

  pub tree_within : (i : ℕ) (a : Expr) (j : ℕ) → Spells true ts i a j → j ≤ length ts
  tree_within i a j s = within true ts i a j s

  pub tree_only : (i : ℕ) (a : Expr) (m : ℕ) → Reads true ts 1 i a m → (b : Expr) (j : ℕ) → Spells true ts i b j → Ends ts j → j ≡ m
  tree_only i a m r b j s p = (unique true ts 1 i b j a m (tree_at i b j s p) r).1

-- one after another, up to a place where F holds
module _ {A : Type 0} (h : A → ℕ) (P : ℕ → A → ℕ → Type 0) (F : ℕ → Type 0) where
  -- each whole sequence from i goes on at end
  abbrev pub Rest : ℕ → ℕ → Type 0
  Rest i end = (ys : List A) (j : ℕ) → Sequence P i ys j → F j → (xs : List A) × Sequence P end xs j × (highest h xs ≤ highest h ys)

  pub begins : (i : ℕ) → Rest i i
  begins i ys j q f = (ys, q, omega arith)

  -- one more is read where one stands
  pub grows : (i end next : ℕ) → Rest i end → (F end → ⊥) → ((x : A) (j : ℕ) → P end x j → j ≡ next) → Rest i next
  grows i end next r here only ys j q f = let o = r ys j q f in by o.0 o.1 o.2
    where
      by : (xs : List A) → Sequence P end xs j → highest h xs ≤ highest h ys → (xs : List A) × Sequence P next xs j × (highest h xs ≤ highest h ys)
      by [] m low = absurd (here (subst F (sym m) f))
      by (x ∷ xs) m low = (xs, subst (λ z. Sequence P z xs j) (only x m.0 m.1) m.2, omega (arith, low))

  pub ends : (i end : ℕ) → Rest i end → ((x : A) (j : ℕ) → P end x j → ⊥) → (ys : List A) (j : ℕ) → Sequence P i ys j → F j → j ≡ end
  ends i end r none ys j q f = let o = r ys j q f in by o.0 o.1
    where
      by : (xs : List A) → Sequence P end xs j → j ≡ end
      by [] m = sym m
      by (x ∷ xs) m = absurd (none x m.0 m.1)

  pub fails : (i end depth : ℕ) → Rest i end → (F end → ⊥) → (fault : TextFault) → ((x : A) (j : ℕ) → P end x j → Denies (depth < h x) fault)
      → (ys : List A) (j : ℕ) → Sequence P i ys j → F j → Denies (depth < highest h ys) fault
  fails i end depth r here fault d ys j q f = let o = r ys j q f in by o.0 o.1 o.2
    where
      by : (xs : List A) → Sequence P end xs j → highest h xs ≤ highest h ys → Denies (depth < highest h ys) fault
      by [] m low = absurd (here (subst F (sym m) f))
      by (x ∷ xs) m low = passes (depth < h x) (depth < highest h ys) (λ high. omega (arith, low, high)) fault (d x m.0 m.1)

-- with separators between, up to a place where F holds
module _ {A : Type 0} (h : A → ℕ) (sep : ℕ → Type 0) (P : ℕ → A → ℕ → Type 0) (F : ℕ → Type 0) where
  -- each whole list from i goes on at end
  abbrev pub Left : ℕ → ℕ → Type 0
  Left i end = (ys : List A) (j : ℕ) → Separated sep P i ys j → F j → (xs : List A) × More sep P end xs j × (highest h xs ≤ highest h ys)

  after : (xs : List A) (m j : ℕ) → More sep P m xs j → F j → sep m ⊎ F m
  after [] m j p f = inr (subst F (sym p) f)
  after (x ∷ xs) m j p f = inl p.1

  pub list_begins : (i next : ℕ) → ((x : A) (j : ℕ) → P i x j → sep j ⊎ F j → j ≡ next) → Left i next
  list_begins i next only [] j q f = absurd q
  list_begins i next only (y ∷ ys) j q f = (ys, subst (λ z. More sep P z ys j) (only y q.0 q.1 (after ys q.0 j q.2 f)) q.2, omega arith)

  pub first_fails : (i depth : ℕ) (fault : TextFault) → ((x : A) (j : ℕ) → P i x j → sep j ⊎ F j → Denies (depth < h x) fault)
      → (ys : List A) (j : ℕ) → Separated sep P i ys j → F j → Denies (depth < highest h ys) fault
  first_fails i depth fault d [] j q f = absurd q
  first_fails i depth fault d (y ∷ ys) j q f =
      passes (depth < h y) (depth < highest h (y ∷ ys)) (λ high. omega (arith, high)) fault (d y q.0 q.1 (after ys q.0 j q.2 f))

  module _ (apart : (j : ℕ) → sep j → F j → ⊥) (i end : ℕ) (r : Left i end) where
    pub list_grows : (next : ℕ) → sep end → ((x : A) (j : ℕ) → P (end + 1) x j → sep j ⊎ F j → j ≡ next) → Left i next
    list_grows next here only ys j q f = let o = r ys j q f in by o.0 o.1 o.2
      where
        by : (xs : List A) → More sep P end xs j → highest h xs ≤ highest h ys → (xs : List A) × More sep P next xs j × (highest h xs ≤ highest h ys)
        by [] m low = absurd (apart end here (subst F (sym m) f))
        by (x ∷ xs) m low = (xs, subst (λ z. More sep P z xs j) (only x m.0 m.2 (after xs m.0 j m.3 f)) m.3, omega (arith, low))

    pub list_ends : (sep end → ⊥) → (ys : List A) (j : ℕ) → Separated sep P i ys j → F j → j ≡ end
    list_ends none ys j q f = let o = r ys j q f in by o.0 o.1
      where
        by : (xs : List A) → More sep P end xs j → j ≡ end
        by [] m = sym m
        by (x ∷ xs) m = absurd (none m.1)

    pub list_fails : (depth : ℕ) → sep end → (fault : TextFault) → ((x : A) (j : ℕ) → P (end + 1) x j → sep j ⊎ F j → Denies (depth < h x) fault)
        → (ys : List A) (j : ℕ) → Separated sep P i ys j → F j → Denies (depth < highest h ys) fault
    list_fails depth here fault d ys j q f = let o = r ys j q f in by o.0 o.1 o.2
      where
        by : (xs : List A) → More sep P end xs j → highest h xs ≤ highest h ys → Denies (depth < highest h ys) fault
        by [] m low = absurd (apart end here (subst F (sym m) f))
        by (x ∷ xs) m low = passes (depth < h x) (depth < highest h ys) (λ high. omega (arith, low, high)) fault (d x m.0 m.2 (after xs m.0 j m.3 f))
