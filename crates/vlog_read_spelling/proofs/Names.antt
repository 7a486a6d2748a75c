-- A name of either language: it begins with an identifier, and only one ends at a place that no dot and no `@` follows.
use Rattle.std.proofs.Common.{Bool, true, false, ℕ, ◌+◌, ◌≡◌, ◌<◌, ◌≤◌, inl, inr, List, [], ◌∷◌, refl, sym, ap, subst, ◌∙◌, arith}
use Rattle.std.specs.Prelude.{codes, length}
use Rattle.vlog_tree.specs.declared.token.Token.{Token}
use Rattle.vlog_tree.specs.declared.token.Number.{Number}
use Rattle.vlog_tree.specs.declared.token.Kind.TheVariants as k
use Rattle.vlog_tree.specs.declared.expr.Name.{Name}
use Rattle.vlog_tree.specs.Signs.{IsSign}
use Rattle.vlog_tree.specs.Lists.{More, Separated}
use Rattle.vlog_tree.specs.Spelling.{IsIdentifier, IsNamed, Dot, dotted, IsPath, IsOffset, IsName}
use Rattle.vlog_read_spelling.proofs.Tokens.{two_signs, kind_within}
use Rattle.vlog_read_spelling.specs.Growing.{ReadsList, NoPath}
use Rattle.vlog_read_spelling.proofs.Lists.{more_reads, one_list}

pub bracket_no_path : (ts : List Token) (j : ℕ) → IsSign ts j (codes "[") → NoPath ts j
bracket_no_path ts j h = record { no_dot = two_signs ts j (codes "[") (codes ".") refl h; no_at = two_signs ts j (codes "[") (codes "@") refl h }

pub one_identifier : (set : Bool) (ts : List Token) (i : ℕ) (v w : List ℕ) → IsIdentifier set ts i v → IsIdentifier set ts i w → v ≡ w
one_identifier set ts i v w p q = let a = p.stands in let b = q.stands in cc

pub one_named : (set : Bool) (ts : List Token) (i : ℕ) (v : List ℕ) (j : ℕ) (w : List ℕ) (m : ℕ) → IsNamed set ts i v j → IsNamed set ts i w m → (v ≡ w) × (j ≡ m)
one_named set ts i v j w m p q = (one_identifier set ts i v w p.0 q.0, p.1 ∙ sym q.1)

module _ (ts : List Token) where
  pub as_read : (words : List (List ℕ)) (i j : ℕ) → Separated (Dot ts) (IsNamed true ts) i words j → (Dot ts j → ⊥)
      → ReadsList (Dot ts) (IsNamed true ts) i words j
  as_read [] i j p last = absurd p
  as_read (w ∷ rest) i j p last = (p.0, p.1, more_reads length (Dot ts) (IsNamed true ts) (one_named true ts) rest p.0 j p.2 last)

  pub one_path : (i : ℕ) (v : List ℕ) (j : ℕ) (w : List ℕ) (m : ℕ) → IsPath ts i v j → (Dot ts j → ⊥) → IsPath ts i w m → (Dot ts m → ⊥) → (v ≡ w) × (j ≡ m)
  one_path i v j w m p last q last' =
      let r : (p.words ≡ q.words) × (j ≡ m) =
      one_list length (Dot ts) (IsNamed true ts) (one_named true ts) p.words q.words i j m (as_read p.words i j p.spelt last) (as_read q.words i m q.spelt last') in
      (p.joined ∙ (ap dotted r.0 ∙ sym q.joined), r.1)

  -- no dot follows the path of a name
  pub offset_no_dot : (i o j : ℕ) → IsOffset ts i o j → NoPath ts j → Dot ts i → ⊥
  offset_no_dot i o j (inl p) free h = free.no_dot (subst (Dot ts) (sym p.1) h)
  offset_no_dot i o j (inr p) free h = two_signs ts i (codes "@") (codes ".") refl p.sign h

  pub one_offset : (i o j o' m : ℕ) → IsOffset ts i o j → NoPath ts j → IsOffset ts i o' m → NoPath ts m → (o ≡ o') × (j ≡ m)
  one_offset i o j o' m (inl p) free (inl q) free' = (p.0 ∙ sym q.0, p.1 ∙ sym q.1)
  one_offset i o j o' m (inl p) free (inr q) free' = absurd (free.no_at (subst (λ z. IsSign ts z (codes "@")) (sym p.1) q.sign))
  one_offset i o j o' m (inr p) free (inl q) free' = absurd (free'.no_at (subst (λ z. IsSign ts z (codes "@")) (sym q.1) p.sign))
  one_offset i o j o' m (inr p) free (inr q) free' =
      let n : p.number ≡ q.number = let a = p.stands in let b = q.stands in cc in
      (p.value ∙ (ap (λ (z : Number). z.value) n ∙ sym q.value), p.last ∙ sym q.last)

pub one_name : (set : Bool) (ts : List Token) (i : ℕ) (a : Name) (j : ℕ) (b : Name) (m : ℕ) → IsName set ts i a j → NoPath ts j → IsName set ts i b m → NoPath ts m → (a ≡ b) × (j ≡ m)
one_name false ts i a j b m p free q free' =
    let t : (a.text ≡ b.text) × (j ≡ m) = one_named false ts i a.text j b.text m p.0 q.0 in
    let o : a.offset ≡ b.offset = p.1 ∙ sym q.1 in
    ((λ r. record { text = t.0 r; offset = o r }), t.1)
one_name true ts i a j b m p free q free' =
    let t : (a.text ≡ b.text) × (p.0 ≡ q.0) =
    one_path ts i a.text p.0 b.text q.0 p.1 (offset_no_dot ts p.0 a.offset j p.2 free) q.1 (offset_no_dot ts q.0 b.offset m q.2 free') in
    let o : (a.offset ≡ b.offset) × (j ≡ m) = one_offset ts p.0 a.offset j b.offset m p.2 free (subst (λ z. IsOffset ts z b.offset m) (sym t.1) q.2) free' in
    ((λ r. record { text = t.0 r; offset = o.0 r }), o.1)

-- the identifier that a name begins with
path_begins : (ts : List Token) (i : ℕ) (words : List (List ℕ)) (j : ℕ) → Separated (Dot ts) (IsNamed true ts) i words j → (w : List ℕ) × IsIdentifier true ts i w
path_begins ts i [] j p = absurd p
path_begins ts i (w ∷ rest) j p = (w, p.1.0)

pub name_begins : (set : Bool) (ts : List Token) (i : ℕ) (n : Name) (j : ℕ) → IsName set ts i n j → (w : List ℕ) × IsIdentifier set ts i w
name_begins false ts i n j p = (n.text, p.0.0)
name_begins true ts i n j p = path_begins ts i p.1.words p.0 p.1.spelt

-- a name has a token or more, and ends within the tokens
more_long : (ts : List Token) (i : ℕ) (words : List (List ℕ)) (j : ℕ) → More (Dot ts) (IsNamed true ts) i words j → i ≤ j
more_long ts i [] j p = omega (arith, p)
more_long ts i (w ∷ rest) j p = omega (arith, p.2.1, more_long ts p.0 rest j p.3)

path_long : (ts : List Token) (i : ℕ) (words : List (List ℕ)) (j : ℕ) → Separated (Dot ts) (IsNamed true ts) i words j → i < j
path_long ts i [] j p = absurd p
path_long ts i (w ∷ rest) j p = omega (arith, p.1.1, more_long ts p.0 rest j p.2)

offset_long : (ts : List Token) (i o j : ℕ) → IsOffset ts i o j → i ≤ j
offset_long ts i o j (inl p) = omega (arith, p.1)
offset_long ts i o j (inr p) = omega (arith, p.last)

pub name_long : (set : Bool) (ts : List Token) (i : ℕ) (n : Name) (j : ℕ) → IsName set ts i n j → i < j
name_long false ts i n j p = omega (arith, p.0.1)
name_long true ts i n j p = omega (arith, path_long ts i p.1.words p.0 p.1.spelt, offset_long ts p.0 n.offset j p.2)

more_within : (ts : List Token) (i : ℕ) (words : List (List ℕ)) (j : ℕ) → i ≤ length ts → More (Dot ts) (IsNamed true ts) i words j → j ≤ length ts
more_within ts i [] j h p = omega (arith, h, p)
more_within ts i (w ∷ rest) j h p = more_within ts p.0 rest j (omega (arith, kind_within ts (i + 1) (k.Word w) p.2.0.stands, p.2.1)) p.3

path_within : (ts : List Token) (i : ℕ) (words : List (List ℕ)) (j : ℕ) → Separated (Dot ts) (IsNamed true ts) i words j → j ≤ length ts
path_within ts i [] j p = absurd p
path_within ts i (w ∷ rest) j p = more_within ts p.0 rest j (omega (arith, kind_within ts i (k.Word w) p.1.0.stands, p.1.1)) p.2

offset_within : (ts : List Token) (i o j : ℕ) → i ≤ length ts → IsOffset ts i o j → j ≤ length ts
offset_within ts i o j h (inl p) = omega (arith, h, p.1)
offset_within ts i o j h (inr p) = omega (arith, kind_within ts (i + 1) (k.Number p.number) p.stands, p.last)

pub name_within : (set : Bool) (ts : List Token) (i : ℕ) (n : Name) (j : ℕ) → IsName set ts i n j → j ≤ length ts
name_within false ts i n j p = omega (arith, kind_within ts i (k.Word n.text) p.0.0.stands, p.0.1)
name_within true ts i n j p = offset_within ts p.0 n.offset j (path_within ts i p.1.words p.0 p.1.spelt) p.2
