-- Names: how the readers of paths and offsets go.
use Rattle.std.proofs.Common.{true, false, ℕ, ◌+◌, ◌≡◌, ◌<◌, inl, inr, List, [], ◌∷◌, ◌++◌, Some, refl, sym, ap, subst, ◌∙◌, append_assoc, append-nil, arith}
use Rattle.std.specs.Prelude.{codes, length}
use Rattle.vlog_tree.specs.declared.token.Token.{Token}
use Rattle.vlog_tree.specs.declared.token.Number.{Number}
use Rattle.vlog_tree.specs.declared.token.Kind.TheVariants as k
use Rattle.vlog_tree.specs.declared.expr.Name.{Name}
use Rattle.vlog_tree.specs.Signs.{kind_at, IsSign}
use Rattle.vlog_tree.specs.Lists.{Separated}
use Rattle.vlog_tree.specs.Spelling.{IsIdentifier, IsNamed, Dot, dotted, after_dots, IsPath, IsOffset}
use Rattle.vlog_read_spelling.specs.Growing.{NoPath, ReadsList, ReadsMore}
use Rattle.vlog_read_spelling.proofs.Lists.{Started, starts, stops, grows, another, reads_more}
use Rattle.vlog_read_spelling.proofs.Names.{one_named, one_path, offset_no_dot, as_read}
use Rattle.vlog_read_lex.specs.declared.error.ReadFault.{ReadFault}
use Rattle.vlog_read_lex.specs.declared.error.ReadFault.TheVariants as f
use Rattle.vlog_read_expr.specs.Names.{Lacks, RefusesIdentifier, ReadsPath, ReadsOffset, ReadsName}

pub after_dots-append : (xs ys : List (List ℕ)) → after_dots (xs ++ ys) ≡ after_dots xs ++ after_dots ys
after_dots-append [] ys = refl
after_dots-append (x ∷ xs) ys =
    ap (λ z. codes "." ++ (x ++ z)) (after_dots-append xs ys) ∙ (ap (λ z. codes "." ++ z) (sym (append_assoc x (after_dots xs) (after_dots ys))) ∙ sym (append_assoc (codes ".") (x ++ after_dots xs) (after_dots ys)))

-- one more word of a path
pub dotted-append : (x : List ℕ) (xs : List (List ℕ)) (w : List ℕ) → dotted ((x ∷ xs) ++ w ∷ []) ≡ (dotted (x ∷ xs) ++ codes ".") ++ w
dotted-append x xs w =
    ap (λ z. x ++ z) (after_dots-append xs (w ∷ [])) ∙ (ap (λ z. x ++ (after_dots xs ++ (codes "." ++ z))) (append-nil w)
    ∙ (sym (append_assoc x (after_dots xs) (codes "." ++ w)) ∙ sym (append_assoc (x ++ after_dots xs) (codes ".") w)))

module _ (ts : List Token) where
  abbrev pub Words : ℕ → List (List ℕ) → ℕ → Type 0
  Words = Started length (Dot ts) (IsNamed true ts) (one_named true ts)

  -- what is read of a path so far
  pub record PathSoFar (i : ℕ) (text : List ℕ) (end : ℕ) : Type 0 where
    pub head : List ℕ
    pub rest : List (List ℕ)
    pub started : Words i (head ∷ rest) end
    pub joined : text ≡ dotted (head ∷ rest)

  as_spelt : (words : List (List ℕ)) (i j : ℕ) → ReadsList (Dot ts) (IsNamed true ts) i words j → Separated (Dot ts) (IsNamed true ts) i words j
  as_spelt [] i j p = absurd p
  as_spelt (w ∷ rest) i j p = (p.0, p.1, reads_more length (Dot ts) (IsNamed true ts) (one_named true ts) rest p.0 j p.2)

  no_dot_after : (words : List (List ℕ)) (i j : ℕ) → ReadsMore (Dot ts) (IsNamed true ts) i words j → Dot ts j → ⊥
  no_dot_after [] i j p h = p.1 (subst (Dot ts) (sym p.0) h)
  no_dot_after (w ∷ rest) i j p h = no_dot_after rest p.0 j p.3 h

  pub path_begins : (i : ℕ) (w : List ℕ) → IsIdentifier true ts i w → (end : ℕ) → end ≡ i + 1 → PathSoFar i w end
  path_begins i w p end e = record {
    head = w;
    rest = [];
    started = starts length (Dot ts) (IsNamed true ts) (one_named true ts) i w end (p, e);
    joined = sym (append-nil w);
  }

  first_refuses : (i : ℕ) (text : List ℕ) (j : ℕ) → ReadsPath ts i text j → (w : List ℕ) × IsIdentifier true ts i w
  first_refuses i text j r = by r.0.words r.0.spelt
    where
      by : (words : List (List ℕ)) → Separated (Dot ts) (IsNamed true ts) i words j → (w : List ℕ) × IsIdentifier true ts i w
      by [] p = absurd p
      by (w ∷ rest) p = (w, p.1.0)

  pub path_refuses : (i : ℕ) (fault : ReadFault) → RefusesIdentifier true ts i fault → Lacks (ReadsPath ts i) fault
  path_refuses i (f.Syntax at) h = λ text j r. let q = first_refuses i text j r in h q.0 0 q.1
  path_refuses i f.Memory h = tt
  path_refuses i f.Deep h = h
  path_refuses i (f.Bytes at) h = h
  path_refuses i (f.Number at) h = h
  path_refuses i (f.Outside at) h = h

  module _ (i : ℕ) (text : List ℕ) (end : ℕ) (s : PathSoFar i text end) where
    pub path_ends : (Dot ts end → ⊥) → ReadsPath ts i text end
    path_ends last = (
      record {
        words = s.head ∷ s.rest;
        spelt = as_spelt (s.head ∷ s.rest) i end (stops length (Dot ts) (IsNamed true ts) (one_named true ts) i (s.head ∷ s.rest) end s.started last);
        joined = s.joined;
      },
      last,
    )

    module _ (dot : Dot ts end) where
      pub word_refuses : (at : ℕ) → at ≡ end + 1 → (fault : ReadFault) → RefusesIdentifier true ts at fault → Lacks (ReadsPath ts i) fault
      word_refuses at e (f.Syntax z) h = λ w j r.
          let o = another length (Dot ts) (IsNamed true ts) (one_named true ts) i (s.head ∷ s.rest) end s.started dot r.0.words j (as_read ts r.0.words i j r.0.spelt r.1) in
          h o.0 0 (subst (λ x. IsIdentifier true ts x o.0) (sym e) o.2.0)
      word_refuses at e f.Memory h = tt
      word_refuses at e f.Deep h = h
      word_refuses at e (f.Bytes z) h = h
      word_refuses at e (f.Number z) h = h
      word_refuses at e (f.Outside z) h = h

      pub path_grows : (w : List ℕ) → IsIdentifier true ts (end + 1) w → (new : List ℕ) → new ≡ (text ++ codes ".") ++ w → (at : ℕ) → at ≡ end + 2 → PathSoFar i new at
      path_grows w p new is at e = record {
        head = s.head;
        rest = s.rest ++ w ∷ [];
        started = grows length (Dot ts) (IsNamed true ts) (one_named true ts) i (s.head ∷ s.rest) end s.started dot w at (p, omega (arith, e));
        joined = is ∙ (ap (λ z. (z ++ codes ".") ++ w) s.joined ∙ sym (dotted-append s.head s.rest w));
      }

  -- offsets
  pub no_offset : (i : ℕ) → (IsSign ts i (codes "@") → ⊥) → (end : ℕ) → end ≡ i → (o : ℕ) → o ≡ 0 → IsOffset ts i o end × ((o' j : ℕ) → ReadsOffset ts i o' j → j ≡ end)
  no_offset i h end e o z = (inl (z, e), λ o' j r. by o' j r.0)
    where
      by : (o' j : ℕ) → IsOffset ts i o' j → j ≡ end
      by o' j (inl p) = p.1 ∙ sym e
      by o' j (inr p) = absurd (h p.sign)

  pub some_offset : (i : ℕ) → IsSign ts i (codes "@") → (n : Number) → kind_at ts (i + 1) ≡ Some (k.Number n) → n.plain ≡ true → (o : ℕ) → o ≡ n.value → o < 4294967296
      → (end : ℕ) → end ≡ i + 2 → IsOffset ts i o end × ((o' j : ℕ) → ReadsOffset ts i o' j → j ≡ end)
  some_offset i h n stands plain o value fits end e =
      (inr (record { sign = h; number = n; stands = stands; plain = plain; value = value; fits = fits; last = e }), λ o' j r. by o' j r.0 r.1)
    where
      by : (o' j : ℕ) → IsOffset ts i o' j → NoPath ts j → j ≡ end
      by o' j (inl p) free = absurd (free.no_at (subst (λ z. IsSign ts z (codes "@")) (sym p.1) h))
      by o' j (inr p) free = p.last ∙ sym e

  -- a digit must follow `@`
  pub offset_lacks : (i : ℕ) → IsSign ts i (codes "@") → ((n : Number) → kind_at ts (i + 1) ≡ Some (k.Number n) → n.plain ≡ true → n.value < 4294967296 → ⊥)
      → (o j : ℕ) → ReadsOffset ts i o j → ⊥
  offset_lacks i h apart o j r = by r.0
    where
      by : IsOffset ts i o j → ⊥
      by (inl p) = r.1.no_at (subst (λ z. IsSign ts z (codes "@")) (sym p.1) h)
      by (inr p) = apart p.number p.stands p.plain (omega (arith, p.value, p.fits))

  -- names of a set
  pub set_path_refuses : (i : ℕ) (fault : ReadFault) → Lacks (ReadsPath ts i) fault → Lacks (ReadsName true ts i) fault
  set_path_refuses i (f.Syntax at) h = λ n j r. h n.text r.0.0 (r.0.1, offset_no_dot ts r.0.0 n.offset j r.0.2 r.1)
  set_path_refuses i f.Memory h = tt
  set_path_refuses i f.Deep h = h
  set_path_refuses i (f.Bytes at) h = h
  set_path_refuses i (f.Number at) h = h
  set_path_refuses i (f.Outside at) h = h

  module _ (i : ℕ) (text : List ℕ) (m : ℕ) (p : ReadsPath ts i text m) where
    same_middle : (n : Name) (j : ℕ) → (r : ReadsName true ts i n j) → r.0.0 ≡ m
    same_middle n j r = (one_path ts i n.text r.0.0 text m r.0.1 (offset_no_dot ts r.0.0 n.offset j r.0.2 r.1) p.0 p.1).1

    pub set_offset_refuses : (fault : ReadFault) → Lacks (ReadsOffset ts m) fault → Lacks (ReadsName true ts i) fault
    set_offset_refuses (f.Syntax at) h = λ n j r. h n.offset j (subst (λ z. IsOffset ts z n.offset j) (same_middle n j r) r.0.2, r.1)
    set_offset_refuses f.Memory h = tt
    set_offset_refuses f.Deep h = h
    set_offset_refuses (f.Bytes at) h = h
    set_offset_refuses (f.Number at) h = h
    set_offset_refuses (f.Outside at) h = h

    module _ (o end : ℕ) (q : IsOffset ts m o end × ((o' j : ℕ) → ReadsOffset ts m o' j → j ≡ end)) where
      pub set_followed : (NoPath ts end → ⊥) → (n : Name) (j : ℕ) → ReadsName true ts i n j → ⊥
      set_followed h n j r = h (subst (NoPath ts) (q.1 n.offset j (subst (λ z. IsOffset ts z n.offset j) (same_middle n j r) r.0.2, r.1)) r.1)

      pub set_named : NoPath ts end → (n : Name) → n.text ≡ text → n.offset ≡ o → ReadsName true ts i n end
      set_named free n t is = ((m, subst (λ z. IsPath ts i z m) (sym t) p.0, subst (λ z. IsOffset ts m z end) (sym is) q.0), free)

  -- names of a module
  pub word_name_refuses : (i : ℕ) (fault : ReadFault) → RefusesIdentifier false ts i fault → Lacks (ReadsName false ts i) fault
  word_name_refuses i (f.Syntax at) h = λ n j r. h n.text 0 r.0.0.0
  word_name_refuses i f.Memory h = tt
  word_name_refuses i f.Deep h = h
  word_name_refuses i (f.Bytes at) h = h
  word_name_refuses i (f.Number at) h = h
  word_name_refuses i (f.Outside at) h = h

  pub word_followed : (i end : ℕ) → end ≡ i + 1 → (NoPath ts end → ⊥) → (n : Name) (j : ℕ) → ReadsName false ts i n j → ⊥
  word_followed i end e h n j r = h (subst (NoPath ts) (r.0.0.1 ∙ sym e) r.1)

  pub word_named : (i end : ℕ) → end ≡ i + 1 → NoPath ts end → (n : Name) → IsIdentifier false ts i n.text → n.offset ≡ 0 → ReadsName false ts i n end
  word_named i end e free n p o = (((p, e), o), free)

  pub path_free : (j : ℕ) → (IsSign ts j (codes ".") → ⊥) → (IsSign ts j (codes "@") → ⊥) → NoPath ts j
  path_free j p q = record { no_dot = p; no_at = q }
