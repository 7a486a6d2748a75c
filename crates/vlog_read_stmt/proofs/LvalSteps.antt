-- One step of the reader of left sides: what is read, and why nothing is.
use Rattle.std.proofs.Common.{ℕ, ◌+◌, ◌-◌, ◌≡◌, ◌<◌, ◌≤◌, max, ◌⊎◌, inl, inr, List, [], ◌∷◌, ◌++◌, length, false, Some, None, refl, sym, ap, subst, ◌∙◌, arith}
use Rattle.std.specs.Prelude.{codes}
use Rattle.vlog_tree.specs.declared.token.Token.{Token}
use Rattle.vlog_tree.specs.declared.token.Kind.TheVariants as k
use Rattle.vlog_tree.specs.declared.expr.Span.{Span}
use Rattle.vlog_tree.specs.declared.stmt.Lval.{Lval, Row_of-Lval, end_of-Lval, more_of-Lval, items_hidden-the_row-Lval-0}
use Rattle.vlog_tree.specs.declared.stmt.Lval.TheVariants as l
use Rattle.vlog_tree.specs.declared.stmt.Lval.TheBlock.{hidden-the_row-Lval-0}
use Rattle.vlog_tree.specs.Signs.{IsSign, span_at}
use Rattle.vlog_tree.specs.Lists.{More, Separated, Comma, highest}
use Rattle.vlog_tree.specs.declared.expr.Expr.{Expr}
use Rattle.vlog_tree.specs.Spelling.{IsIdentifier, height, Reads}
use Rattle.vlog_tree.specs.Statements.{SpellsLval, SpellsLvals, SpellsMoreLvals, lval_height, lval_heights}
use Rattle.vlog_read_spelling.specs.Growing.{ReadsMore}
use Rattle.vlog_read_spelling.proofs.Tokens.{kind_within, stops_bracket, stops_span, no_span, two_signs}
use Rattle.vlog_read_spelling.proofs.Forms.{length_of}
use Rattle.vlog_read_spelling.proofs.Reading.{unique}
use Rattle.vlog_read_spelling.proofs.Lists.{one_list, Started, starts, stops, grows, another, highest-append}
use Rattle.vlog_read_spelling.proofs.Lvals.{list_of, listed, one_lval, Form, form, name, select, part, concat, no_brace}
use Rattle.vlog_read_lex.specs.declared.error.ReadFault.{ReadFault}
use Rattle.vlog_read_expr.specs.declared.expr.Parsed.{Parsed}
use Rattle.vlog_read_expr.specs.Answers.{IsRead, Refusal, Refuses}
use Rattle.vlog_read_expr.specs.Names.{RefusesIdentifier}
use Rattle.vlog_read_expr.proofs.Steps.{Has, passes}
use Rattle.vlog_read_stmt.specs.declared.lval.ParsedLval.{ParsedLval}
use Rattle.vlog_read_stmt.specs.declared.lval.ListedLvals.{ListedLvals}
use Rattle.vlog_read_stmt.specs.Answers.{ReadsLval, IsLval, RefusesLval, IsSpelt, ReadsLvals, IsLvals}
use Rattle.vlog_read_stmt.proofs.Passing.{lacking, lacks_refuses, tree_at}

pub lval_height_pos : (a : Lval) → 0 < lval_height a
lval_height_pos (l.Name n) = omega arith
lval_height_pos (l.Select n a) = omega arith
lval_height_pos (l.Part n w a b) = omega arith
lval_height_pos (l.Concat' q row) = omega arith

list_of-hidden : (xs : List Lval) → list_of (hidden-the_row-Lval-0 xs) ≡ xs
list_of-hidden xs = sym (listed _ (hidden-the_row-Lval-0 xs)) ∙ items_hidden-the_row-Lval-0 xs

heights_is : {m : _} (row : Row_of-Lval m) → highest lval_height (list_of row) ≡ lval_heights row
heights_is end_of-Lval = refl
heights_is (more_of-Lval a rest) = ap (max (lval_height a)) (heights_is rest)

-- a left side has a token or more, and ends within the tokens
mutual
  pub lval_span : (ts : List Token) (i : ℕ) (a : Lval) (j : ℕ) → SpellsLval ts i a j → (i < j) × (j ≤ length ts)
  lval_span ts i (l.Name n) j p = (omega (arith, p.1), omega (arith, kind_within ts i (k.Word n) p.0.stands, p.1))
  lval_span ts i (l.Select n a) j p = (omega (arith, length_of false ts (i + 2) a p.0 p.3, p.5), omega (arith, kind_within ts p.0 _ p.4, p.5))
  lval_span ts i (l.Part n w a b) j p =
      (omega (arith, length_of false ts (i + 2) a p.0 p.4, length_of false ts (p.0 + 1) b p.1 p.6, p.8), omega (arith, kind_within ts p.1 _ p.7, p.8))
  lval_span ts i (l.Concat' q row) j p = (omega (arith, lvals_span ts (i + 1) row p.0 p.2, p.4), omega (arith, kind_within ts p.0 _ p.3, p.4))

  lvals_span : {m : _} (ts : List Token) (i : ℕ) (row : Row_of-Lval m) (j : ℕ) → SpellsLvals ts i row j → i < j
  lvals_span ts i end_of-Lval j p = absurd p
  lvals_span ts i (more_of-Lval a rest) j p = omega (arith, (lval_span ts i a p.0 p.1).0, more_span ts p.0 rest j p.2)

  more_span : {m : _} (ts : List Token) (i : ℕ) (row : Row_of-Lval m) (j : ℕ) → SpellsMoreLvals ts i row j → i ≤ j
  more_span ts i end_of-Lval j p = omega (arith, p)
  more_span ts i (more_of-Lval a rest) j p = omega (arith, (lval_span ts (i + 1) a p.0 p.2).0, more_span ts p.0 rest j p.3)

module _ (ts : List Token) where
  pub unique_lval : (i : ℕ) (a : Lval) (j : ℕ) (b : Lval) (k : ℕ) → ReadsLval ts i a j → ReadsLval ts i b k → (a ≡ b) × (j ≡ k)
  unique_lval i a j b k p q = one_lval ts a i j b k p.spelt p.alone q.spelt q.alone

  more_row : {m : _} (row : Row_of-Lval m) (i j : ℕ) → ReadsMore (Comma ts) (ReadsLval ts) i (list_of row) j → SpellsMoreLvals ts i row j
  more_row end_of-Lval i j s = s.0
  more_row (more_of-Lval a rest) i j s = (s.0, s.1, s.2.spelt, more_row rest s.0 j s.3)

  list_row : {m : _} (row : Row_of-Lval m) (i j : ℕ) → ReadsLvals ts i (list_of row) j → SpellsLvals ts i row j
  list_row end_of-Lval i j s = absurd s
  list_row (more_of-Lval a rest) i j s = (s.0, s.1.spelt, more_row rest s.0 j s.2)

  -- the rows of braces as lists
  after : (xs : List Lval) (i j : ℕ) → More (Comma ts) (SpellsLval ts) i xs j → IsSign ts j (codes "}") → IsSign ts i (codes "[") → ⊥
  after [] i j p c h = two_signs ts i (codes "}") (codes "[") refl (subst (λ z. IsSign ts z (codes "}")) (sym p) c) h
  after (x ∷ xs) i j p c h = two_signs ts i (codes ",") (codes "[") refl p.1 h

  short : (xs : List Lval) (i j : ℕ) → More (Comma ts) (SpellsLval ts) i xs j → IsSign ts j (codes "}") → i < length ts
  short [] i j p c = omega (arith, p, kind_within ts j (k.Sign (codes "}")) c)
  short (x ∷ xs) i j p c = kind_within ts i (k.Sign (codes ",")) p.1

  reads_more : (xs : List Lval) (i j : ℕ) → More (Comma ts) (SpellsLval ts) i xs j → IsSign ts j (codes "}") → ReadsMore (Comma ts) (ReadsLval ts) i xs j
  reads_more [] i j p c = (p, λ s. two_signs ts i (codes ",") (codes "}") refl s (subst (λ z. IsSign ts z (codes "}")) (sym p) c))
  reads_more (x ∷ xs) i j p c = (p.0, p.1, record { spelt = p.2; alone = after xs p.0 j p.3 c; more = short xs p.0 j p.3 c }, reads_more xs p.0 j p.3 c)

  reads_list : (xs : List Lval) (i j : ℕ) → Separated (Comma ts) (SpellsLval ts) i xs j → IsSign ts j (codes "}") → ReadsLvals ts i xs j
  reads_list [] i j p c = absurd p
  reads_list (x ∷ xs) i j p c = (p.0, record { spelt = p.1; alone = after xs p.0 j p.2 c; more = short xs p.0 j p.2 c }, reads_more xs p.0 j p.2 c)

  -- a left side in braces, by its parts
  pub record Braced (i : ℕ) (tree : Lval) (k : ℕ) : Type 0 where
    pub items : List Lval
    pub last : ℕ
    pub reads : ReadsLvals ts (i + 1) items last
    pub closes : IsSign ts last (codes "}")
    pub end_is : k ≡ last + 1
    pub lower : highest lval_height items + 1 ≤ lval_height tree

  braced : (i : ℕ) → IsSign ts i (codes "{") → (b : Lval) (k : ℕ) → SpellsLval ts i b k → Braced i b k
  braced i here b k q = by (form ts i b k q)
    where
      by : Form ts i b k → Braced i b k
      by (name n is p) = absurd (no_brace ts i n p.0 here)
      by (select n x is p) = absurd (no_brace ts i n p.1 here)
      by (part n w x y is p) = absurd (no_brace ts i n p.2 here)
      by (concat xs m is h p c e) = record {
        items = xs;
        last = m;
        reads = reads_list xs (i + 1) m p c;
        closes = c;
        end_is = e;
        lower = omega (arith, ap lval_height is, heights_is (hidden-the_row-Lval-0 xs), ap (highest lval_height) (list_of-hidden xs));
      }

  -- what stands after the first expression in brackets
  abbrev pub Further : ℕ → Lval → ℕ → Type 0
  Further mid tree k = (IsSign ts mid (codes "]") × (k ≡ mid + 1))
      ⊎ ((w : Span) × (x : Expr) × (last : ℕ) × (span_at ts mid ≡ Some w) × Reads false ts 1 (mid + 1) x last × IsSign ts last (codes "]") × (k ≡ last + 1) × (height x + 1 ≤ lval_height tree))

  -- a name and brackets, by their parts
  pub record Indexed (i : ℕ) (tree : Lval) (k : ℕ) : Type 0 where
    pub index : Expr
    pub mid : ℕ
    pub reads : Reads false ts 1 (i + 2) index mid
    pub lower : height index + 1 ≤ lval_height tree
    pub other : Further mid tree k

  indexed : (i : ℕ) (n : List ℕ) → IsIdentifier false ts i n → IsSign ts (i + 1) (codes "[") → (b : Lval) (k : ℕ) → ReadsLval ts i b k → Indexed i b k
  indexed i n named open_ b k r = by (form ts i b k r.spelt)
    where
      by : Form ts i b k → Indexed i b k
      by (name m is p) = absurd (r.alone (subst (λ z. IsSign ts z (codes "[")) (sym p.1) open_))
      by (select m x is p) = record { index = x; mid = p.0; reads = tree_at ts (i + 2) x p.0 p.3 (stops_bracket false ts p.0 p.4); lower = omega (arith, ap lval_height is); other = inl (p.4, p.5) }
      by (part m w x y is p) = record {
        index = x;
        mid = p.0;
        reads = tree_at ts (i + 2) x p.0 p.4 (stops_span false ts p.0 w p.5);
        lower = omega (arith, ap lval_height is);
        other = inr (w, y, p.1, p.5, tree_at ts (p.0 + 1) y p.1 p.6 (stops_bracket false ts p.1 p.7), p.7, p.8, omega (arith, ap lval_height is));
      }
      by (concat xs m is h p c e) = absurd (no_brace ts i n named h)

  -- nothing is read past the end, nor where neither a name nor a brace stands
  pub past_end : (i : ℕ) → length ts ≤ i + 1 → (b : Lval) (k : ℕ) → ReadsLval ts i b k → ⊥
  past_end i h b k q = omega (arith, h, (lval_span ts i b k q.spelt).0, q.more)

  pub name_refuses : (i depth : ℕ) → (IsSign ts i (codes "{") → ⊥) → (fault : ReadFault) → RefusesIdentifier false ts i fault → RefusesLval ts i depth fault
  name_refuses i depth flat fault r =
      lacks_refuses lval_height (ReadsLval ts i) ts (i + 1) depth fault (lacking (λ w j. IsIdentifier false ts i w) (ReadsLval ts i) (λ b k q. by b k (form ts i b k q.spelt)) fault r)
    where
      by : (b : Lval) (k : ℕ) → Form ts i b k → (w : List ℕ) × (m : ℕ) × IsIdentifier false ts i w
      by b k (name n is p) = (n, i, p.0)
      by b k (select n x is p) = (n, i, p.1)
      by b k (part n w x y is p) = (n, i, p.2)
      by b k (concat xs m is h p c e) = absurd (flat h)

  module _ (i depth : ℕ) (positive : 0 < depth) where
    pub name_spelt : (n : List ℕ) → IsIdentifier false ts i n → (IsSign ts (i + 1) (codes "[") → ⊥) → (new : ParsedLval) → new.tree ≡ l.Name n → new.end ≡ i + 1 → new.height ≡ 1 → IsSpelt ts i depth new
    name_spelt n p free new tree end h = record {
      spelt = spelt;
      only = λ b k q. (one_lval ts b i k new.tree new.end q.spelt q.alone spelt (λ s. free (subst (λ z. IsSign ts z (codes "[")) end s))).1;
      height_is = h ∙ sym (ap lval_height tree);
      low = omega (arith, h);
    }
      where
        spelt : SpellsLval ts i new.tree new.end
        spelt = subst (λ a. SpellsLval ts i a new.end) (sym tree) (p, end)

    pub index_refuses : (n : List ℕ) → IsIdentifier false ts i n → IsSign ts (i + 1) (codes "[") → (fault : ReadFault) → Refuses false ts 1 (i + 2) (depth - 1) fault → RefusesLval ts i depth fault
    index_refuses n named open_ fault r =
        passes height (Reads false ts 1 (i + 2)) lval_height (ReadsLval ts i) ts (i + 2) (depth - 1) (i + 1) depth 1
        (λ b k q. let x = indexed i n named open_ b k q in record { part = x.index; end = x.mid; holds = x.reads; lower = x.lower }) (omega arith) (omega arith) fault r

    module _ (n : List ℕ) (named : IsIdentifier false ts i n) (open_ : IsSign ts (i + 1) (codes "[")) (p : Parsed) (r : IsRead false ts 1 (i + 2) (depth - 1) p) where
      same_mid : (b : Lval) (k : ℕ) (x : Indexed i b k) → x.mid ≡ p.end
      same_mid b k x = (unique false ts 1 (i + 2) x.index x.mid p.tree p.end x.reads r.reads).1

      pub select_open : None ≡ span_at ts p.end → (IsSign ts p.end (codes "]") → ⊥) → (b : Lval) (k : ℕ) → ReadsLval ts i b k → ⊥
      select_open none close b k q = let x = indexed i n named open_ b k q in by x (same_mid b k x) x.other
        where
          by : (x : Indexed i b k) → x.mid ≡ p.end → Further x.mid b k → ⊥
          by x same (inl h) = close (subst (λ z. IsSign ts z (codes "]")) same h.0)
          by x same (inr h) = let u = h.3 in let v : span_at ts x.mid ≡ None = ap (span_at ts) same ∙ sym none in cc

      select_only : IsSign ts p.end (codes "]") → (b : Lval) (k : ℕ) → ReadsLval ts i b k → k ≡ p.end + 1
      select_only close b k q = let x = indexed i n named open_ b k q in by x (same_mid b k x) x.other
        where
          by : (x : Indexed i b k) → x.mid ≡ p.end → Further x.mid b k → k ≡ p.end + 1
          by x same (inl h) = omega (arith, h.1, same)
          by x same (inr h) = absurd (no_span ts x.mid h.0 h.3 (subst (λ z. IsSign ts z (codes "]")) (sym same) close))

      module _ (span : Span) (sign : span_at ts p.end ≡ Some span) where
        -- the second expression in brackets
        pub record Second (tree : Lval) (k : ℕ) : Type 0 where
          pub tree_2 : Expr
          pub last : ℕ
          pub reads : Reads false ts 1 (p.end + 1) tree_2 last
          pub closes : IsSign ts last (codes "]")
          pub end_is : k ≡ last + 1
          pub lower : height tree_2 + 1 ≤ lval_height tree

        second : (b : Lval) (k : ℕ) → ReadsLval ts i b k → Second b k
        second b k q = let x = indexed i n named open_ b k q in by x (same_mid b k x) x.other
          where
            by : (x : Indexed i b k) → x.mid ≡ p.end → Further x.mid b k → Second b k
            by x same (inl h) = absurd (no_span ts p.end span sign (subst (λ z. IsSign ts z (codes "]")) same h.0))
            by x same (inr h) = record { tree_2 = h.1; last = h.2; reads = subst (λ z. Reads false ts 1 (z + 1) h.1 h.2) same h.4; closes = h.5; end_is = h.6; lower = h.7 }

        pub part_refuses : (fault : ReadFault) → Refuses false ts 1 (p.end + 1) (depth - 1) fault → RefusesLval ts i depth fault
        part_refuses fault u =
            passes height (Reads false ts 1 (p.end + 1)) lval_height (ReadsLval ts i) ts (p.end + 1) (depth - 1) (i + 1) depth 1
            (λ b k q. let x = second b k q in record { part = x.tree_2; end = x.last; holds = x.reads; lower = x.lower })
            (omega (arith, length_of false ts (i + 2) p.tree p.end r.reads.spelt)) (omega arith) fault u

        module _ (o : Parsed) (ro : IsRead false ts 1 (p.end + 1) (depth - 1) o) where
          same_last : (b : Lval) (k : ℕ) (x : Second b k) → x.last ≡ o.end
          same_last b k x = (unique false ts 1 (p.end + 1) x.tree_2 x.last o.tree o.end x.reads ro.reads).1

          pub part_open : (IsSign ts o.end (codes "]") → ⊥) → (b : Lval) (k : ℕ) → ReadsLval ts i b k → ⊥
          part_open close b k q = let x = second b k q in close (subst (λ z. IsSign ts z (codes "]")) (same_last b k x) x.closes)

          part_only : (b : Lval) (k : ℕ) → ReadsLval ts i b k → k ≡ o.end + 1
          part_only b k q = let x = second b k q in omega (arith, x.end_is, same_last b k x)

      pub select_spelt : IsSign ts p.end (codes "]") → (new : ParsedLval) → new.tree ≡ l.Select n p.tree → new.end ≡ p.end + 1 → new.height ≡ p.height + 1 → IsSpelt ts i depth new
      select_spelt close new tree end h = record {
        spelt = subst (λ a. SpellsLval ts i a new.end) (sym tree) (p.end, named, open_, r.reads.spelt, close, end);
        only = λ b k q. select_only close b k q ∙ sym end;
        height_is = omega (arith, h, r.height_is, ap lval_height tree);
        low = omega (arith, h, r.low);
      }

      pub part_spelt : (span : Span) → span_at ts p.end ≡ Some span → (o : Parsed) → IsRead false ts 1 (p.end + 1) (depth - 1) o → IsSign ts o.end (codes "]")
          → (new : ParsedLval) → new.tree ≡ l.Part n span p.tree o.tree → new.end ≡ o.end + 1 → new.height ≡ max p.height o.height + 1 → IsSpelt ts i depth new
      part_spelt span sign o q close new tree end h = record {
        spelt = subst (λ a. SpellsLval ts i a new.end) (sym tree) (p.end, o.end, named, open_, r.reads.spelt, sign, q.reads.spelt, close, end);
        only = λ b k u. part_only span sign o q b k u ∙ sym end;
        height_is = omega (arith, h, r.height_is, q.height_is, ap lval_height tree);
        low = omega (arith, h, r.low, q.low);
      }

    pub concat_refuses : IsSign ts i (codes "{") → (fault : ReadFault) → Refusal (highest lval_height) (ReadsLvals ts (i + 1)) ts (i + 1 + 1) (depth - 1) fault → RefusesLval ts i depth fault
    concat_refuses here fault r =
        passes (highest lval_height) (ReadsLvals ts (i + 1)) lval_height (ReadsLval ts i) ts (i + 1 + 1) (depth - 1) (i + 1) depth 1
        (λ b k q. let x = braced i here b k q.spelt in record { part = x.items; end = x.last; holds = x.reads; lower = x.lower }) (omega arith) (omega arith) fault r

    braced_end : (here : IsSign ts i (codes "{")) (p : ListedLvals) → IsLvals ts (i + 1) (depth - 1) p → (b : Lval) (k : ℕ) (x : Braced i b k) → x.last ≡ p.end
    braced_end here p r b k x = (one_list lval_height (Comma ts) (ReadsLval ts) unique_lval x.items p.items (i + 1) x.last p.end x.reads r.reads).1

    pub concat_open : IsSign ts i (codes "{") → (p : ListedLvals) → IsLvals ts (i + 1) (depth - 1) p → (IsSign ts p.end (codes "}") → ⊥) → (b : Lval) (k : ℕ) → ReadsLval ts i b k → ⊥
    concat_open here p r close b k q = let x = braced i here b k q.spelt in close (subst (λ z. IsSign ts z (codes "}")) (braced_end here p r b k x) x.closes)

    pub concat_spelt : IsSign ts i (codes "{") → (p : ListedLvals) → IsLvals ts (i + 1) (depth - 1) p → IsSign ts p.end (codes "}") → (new : ParsedLval)
        → new.tree ≡ l.Concat p.items → new.end ≡ p.end + 1 → new.height ≡ p.height + 1 → IsSpelt ts i depth new
    concat_spelt here p r close new tree end h = record {
      spelt = subst (λ a. SpellsLval ts i a new.end) (sym tree) (p.end, here, spelt, close, end);
      only = λ b k q. let x = braced i here b k q.spelt in omega (arith, x.end_is, end, braced_end here p r b k x);
      height_is = omega (arith, h, r.height_is, ap lval_height tree, heights_is (hidden-the_row-Lval-0 p.items), ap (highest lval_height) (list_of-hidden p.items));
      low = omega (arith, h, r.low);
    }
      where
        spelt : SpellsLvals ts (i + 1) (hidden-the_row-Lval-0 p.items) p.end
        spelt = list_row (hidden-the_row-Lval-0 p.items) (i + 1) p.end (subst (λ z. ReadsLvals ts (i + 1) z p.end) (sym (list_of-hidden p.items)) r.reads)

  abbrev pub SoFar : ℕ → List Lval → ℕ → Type 0
  SoFar = Started lval_height (Comma ts) (ReadsLval ts) unique_lval

  -- what is read of a list so far
  pub record Begun_lvals (i depth : ℕ) (items : List Lval) (tall end : ℕ) : Type 0 where
    pub started : SoFar i items end
    pub height_is : tall ≡ highest lval_height items
    pub low : tall ≤ depth
    pub past : i ≤ end

  module _ (i depth : ℕ) where
    pub list_refuses : (fault : ReadFault) → RefusesLval ts i depth fault → Refusal (highest lval_height) (ReadsLvals ts i) ts (i + 1) depth fault
    list_refuses fault r = passes lval_height (ReadsLval ts i) (highest lval_height) (ReadsLvals ts i) ts (i + 1) depth (i + 1) depth 0 first_part (omega arith) (omega arith) fault r
      where
        first_part : (ys : List Lval) (j : ℕ) → ReadsLvals ts i ys j → Has lval_height (ReadsLval ts i) 0 (highest lval_height ys)
        first_part [] j q = absurd q
        first_part (y ∷ ys) j q = record { part = y; end = q.0; holds = q.1; lower = omega arith }

    pub list_begins : (p : ParsedLval) → IsLval ts i depth p → (items : List Lval) → items ≡ p.tree ∷ [] → Begun_lvals i depth items p.height p.end
    list_begins p r items is = record {
      started = subst (λ z. SoFar i z p.end) (sym is) (starts lval_height (Comma ts) (ReadsLval ts) unique_lval i p.tree p.end r.reads);
      height_is = omega (arith, r.height_is, ap (highest lval_height) is);
      low = r.low;
      past = omega (arith, (lval_span ts i p.tree p.end r.reads.spelt).0);
    }

    module _ (items : List Lval) (tall end : ℕ) (b : Begun_lvals i depth items tall end) where
      pub list_ends : (IsSign ts end (codes ",") → ⊥) → (new : ListedLvals) → new.items ≡ items → new.end ≡ end → new.height ≡ tall → IsLvals ts i depth new
      list_ends last new is at h = record {
        reads = subst (λ z. ReadsLvals ts i z new.end) (sym is) (subst (λ z. ReadsLvals ts i items z) (sym at)
            (stops lval_height (Comma ts) (ReadsLval ts) unique_lval i items end b.started last));
        height_is = omega (arith, h, b.height_is, ap (highest lval_height) is);
        low = omega (arith, h, b.low);
      }

      pub item_refuses : IsSign ts end (codes ",") → (fault : ReadFault) → RefusesLval ts (end + 1) depth fault → Refusal (highest lval_height) (ReadsLvals ts i) ts (i + 1) depth fault
      item_refuses comma fault r =
          passes lval_height (ReadsLval ts (end + 1)) (highest lval_height) (ReadsLvals ts i) ts (end + 1 + 1) depth (i + 1) depth 0
          (λ ys j q. let o = another lval_height (Comma ts) (ReadsLval ts) unique_lval i items end b.started comma ys j q in record { part = o.0; end = o.1; holds = o.2; lower = omega (arith, o.3) })
          (omega (arith, b.past)) (omega arith) fault r

      pub list_grows : IsSign ts end (codes ",") → (p : ParsedLval) → IsLval ts (end + 1) depth p → (new : List Lval) → new ≡ items ++ p.tree ∷ [] → (tall' : ℕ) → tall' ≡ max tall p.height
          → Begun_lvals i depth new tall' p.end
      list_grows comma p r new is tall' h = record {
        started = subst (λ z. SoFar i z p.end) (sym is) (grows lval_height (Comma ts) (ReadsLval ts) unique_lval i items end b.started comma p.tree p.end r.reads);
        height_is = omega (arith, h, b.height_is, r.height_is, ap (highest lval_height) is, highest-append lval_height (Comma ts) (ReadsLval ts) unique_lval items (p.tree ∷ []));
        low = omega (arith, h, b.low, r.low);
        past = omega (arith, b.past, (lval_span ts (end + 1) p.tree p.end r.reads.spelt).0);
      }
