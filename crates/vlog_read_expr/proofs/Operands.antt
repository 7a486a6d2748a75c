-- The forms that begin with a token of their own.
use Rattle.std.proofs.Common.{Bool, ℕ, ◌+◌, ◌-◌, ◌≡◌, ◌<◌, max, ◌⊎◌, inl, inr, List, Some, None, Bool, false, sym, ap, subst, ◌∙◌, arith, lit≤}
use Rattle.std.specs.Prelude.{codes}
use Rattle.vlog_tree.specs.declared.token.Token.{Token}
use Rattle.vlog_tree.specs.declared.token.Number.{Number}
use Rattle.vlog_tree.specs.declared.token.Kind.TheVariants as k
use Rattle.vlog_tree.specs.declared.expr.Unary.{Unary}
use Rattle.vlog_tree.specs.declared.expr.Cast.{Cast}
use Rattle.vlog_tree.specs.declared.expr.Span.{Span}
use Rattle.vlog_tree.specs.declared.expr.Name.{Name}
use Rattle.vlog_tree.specs.declared.expr.Expr.{Expr}
use Rattle.vlog_tree.specs.declared.expr.Expr.TheVariants as e
use Rattle.vlog_tree.specs.Signs.{kind_at, IsSign, IsWord, unary_at, cast_of, cast_at, on_word, span_at}
use Rattle.vlog_tree.specs.Spelling.{height, IsIdentifier, IsName, NoSuffix, Spells, Ends, Reads}
use Rattle.vlog_read_spelling.specs.Growing.{NoPath}
use Rattle.vlog_read_spelling.proofs.Names.{bracket_no_path, one_name as same_name, name_begins, name_long}
use Rattle.vlog_read_expr.specs.Names.{Lacks, ReadsName}
use Rattle.vlog_read_spelling.proofs.Tokens.{First, number, word, paren, unary, nothing, first_at, first_number, first_word, first_paren, first_unary, stops_paren, stops_bracket, stops_span, no_span, word_of}
use Rattle.vlog_read_spelling.proofs.Forms.{length_of, select_of, part_of, cast_tree, paren_of, unary_tree, SelectForm, PartForm, CastForm, NamedForm, ParenForm, UnaryForm, Begun, begun}
use Rattle.vlog_read_spelling.proofs.Compare.{infix_low, named_no_cast, no_cast, suffix_path}
use Rattle.vlog_read_spelling.proofs.Reading.{level_pos, unique, stop_ends}
use Rattle.vlog_read_lex.specs.declared.error.ReadFault.{ReadFault}
use Rattle.vlog_read_lex.specs.declared.error.ReadFault.TheVariants as f
use Rattle.vlog_read_expr.specs.declared.expr.Parsed.{Parsed}
use Rattle.vlog_read_expr.specs.Answers.{Refusal, Refuses, IsRead, Closed, IsClosed}
use Rattle.vlog_read_expr.proofs.Steps.{Has, passes}

-- a tree and its closing sign
module _ (set : Bool) (ts : List Token) (i : ℕ) (close : List ℕ) (depth : ℕ) where
  pub enclosed_refuses : (fault : ReadFault) → Refuses set ts 1 i depth fault → Refusal height (Closed set ts i close) ts i depth fault
  enclosed_refuses fault r =
      passes height (Reads set ts 1 i) height (Closed set ts i close) ts i depth i depth 0
      (λ a j q. record { part = a; end = q.at; holds = q.reads; lower = omega arith }) (omega arith) (omega arith) fault r

  module _ (p : Parsed) (r : IsRead set ts 1 i depth p) where
    same_at : (a : Expr) (j : ℕ) (q : Closed set ts i close a j) → q.at ≡ p.end
    same_at a j q = (unique set ts 1 i a q.at p.tree p.end q.reads r.reads).1

    pub enclosed_open : (IsSign ts p.end close → ⊥) → (a : Expr) (j : ℕ) → Closed set ts i close a j → ⊥
    enclosed_open h a j q = h (subst (λ z. IsSign ts z close) (same_at a j q) q.close_at)

    pub enclosed_followed : (NoSuffix ts (p.end + 1) → ⊥) → (a : Expr) (j : ℕ) → Closed set ts i close a j → ⊥
    enclosed_followed h a j q = h (subst (NoSuffix ts) (omega (arith, q.end_is, same_at a j q)) q.free)

-- no tree begins so
pub nothing_begins : (set : Bool) (ts : List Token) (i : ℕ) → first_at ts i ≡ nothing → (a : Expr) (j : ℕ) → Reads set ts 12 i a j → ⊥
nothing_begins set ts i h a j r = subst (Begun set ts i a j) h (begun set ts i a j r.spelt r.binds)

module _ (set : Bool) (ts : List Token) (i depth : ℕ) (positive : 0 < depth) where
  ends_by : (j : ℕ) → NoSuffix ts j → Ends set ts 12 j
  ends_by j free = record { looser = λ op h. infix_low op; alone = free }

  begun_as : (a : Expr) (j : ℕ) (c : First) → first_at ts i ≡ c → Reads set ts 12 i a j → Begun set ts i a j c
  begun_as a j c h r = subst (Begun set ts i a j) h (begun set ts i a j r.spelt r.binds)

  -- a number
  module _ (n : Number) (here : kind_at ts i ≡ Some (k.Number n)) where
    pub number_read : n.wildcard ≡ false → NoSuffix ts (i + 1) → (new : Parsed) → new.tree ≡ e.Number n → new.end ≡ i + 1 → new.height ≡ 1 → IsRead set ts 12 i depth new
    number_read whole free new tree end h = record {
      reads = subst (λ a. Reads set ts 12 i a new.end) (sym tree) (record {
        spelt = (record { number = here; whole = whole }, end);
        binds = lit≤ tt;
        ends = ends_by new.end (subst (NoSuffix ts) (sym end) free);
      });
      height_is = h ∙ sym (ap height tree);
      low = omega (arith, h);
    }

    pub number_wild : (n.wildcard ≡ false → ⊥) → (a : Expr) (j : ℕ) → Reads set ts 12 i a j → ⊥
    number_wild h a j r =
        let q : (a ≡ e.Number n) × (n.wildcard ≡ false) × (j ≡ i + 1) = begun_as a j (number n) (first_number ts i n here) r in h q.1

    pub number_followed : (NoSuffix ts (i + 1) → ⊥) → (a : Expr) (j : ℕ) → Reads set ts 12 i a j → ⊥
    number_followed h a j r =
        let q : (a ≡ e.Number n) × (n.wildcard ≡ false) × (j ≡ i + 1) = begun_as a j (number n) (first_number ts i n here) r in
        h (subst (NoSuffix ts) q.2 r.ends.alone)

  -- a tree in parentheses
  module _ (here : IsSign ts i (codes "(")) where
    paren_part : (a : Expr) (j : ℕ) → Reads set ts 12 i a j → Has height (Closed set ts (i + 1) (codes ")")) 1 (height a)
    paren_part a j r =
        let q : ParenForm set ts i a j = begun_as a j paren (first_paren ts i here) r in record {
          part = q.part;
          end = j;
          lower = omega (arith, q.height_is);
          holds = record {
            at = q.at;
            close_at = q.close;
            end_is = q.end_is;
            free = r.ends.alone;
            reads = record { spelt = q.spells_part; binds = level_pos q.part; ends = stop_ends set ts 1 q.at (stops_paren set ts q.at q.close) };
          };
        }

    pub paren_refuses : (fault : ReadFault) → Refusal height (Closed set ts (i + 1) (codes ")")) ts (i + 1) (depth - 1) fault → Refuses set ts 12 i depth fault
    paren_refuses fault r =
        passes height (Closed set ts (i + 1) (codes ")")) height (Reads set ts 12 i) ts (i + 1) (depth - 1) i depth 1 paren_part (omega arith) (omega arith) fault r

    pub paren_read : (p : Parsed) → IsClosed set ts (i + 1) (codes ")") (depth - 1) p → (new : Parsed) → new.tree ≡ paren_of p.tree → new.end ≡ p.end
        → new.height ≡ p.height + 1 → IsRead set ts 12 i depth new
    paren_read p r new tree end h = record {
      reads = subst (λ a. Reads set ts 12 i a new.end) (sym tree) (record {
        spelt = (r.closed.at, here, r.closed.reads.spelt, r.closed.close_at, end ∙ r.closed.end_is);
        binds = lit≤ tt;
        ends = ends_by new.end (subst (NoSuffix ts) (sym end) r.closed.free);
      });
      height_is = omega (arith, h, r.height_is, ap height tree);
      low = omega (arith, h, r.low);
    }

  -- an operator before its operand
  module _ (op : Unary) (here : unary_at ts i ≡ Some op) where
    pub unary_refuses : (fault : ReadFault) → Refuses set ts 12 (i + 1) (depth - 1) fault → Refuses set ts 12 i depth fault
    unary_refuses fault r =
        passes height (Reads set ts 12 (i + 1)) height (Reads set ts 12 i) ts (i + 1) (depth - 1) i depth 1
        (λ a j s. let q : UnaryForm set ts i op a j = begun_as a j (unary op) (first_unary ts i op here) s in record {
          part = q.part;
          end = j;
          lower = omega (arith, q.height_is);
          holds = record { spelt = q.spells_part; binds = q.binds; ends = s.ends };
        })
        (omega arith) (omega arith) fault r

    pub unary_read : (p : Parsed) → IsRead set ts 12 (i + 1) (depth - 1) p → (new : Parsed) → new.tree ≡ unary_tree op p.tree → new.end ≡ p.end
        → new.height ≡ p.height + 1 → IsRead set ts 12 i depth new
    unary_read p r new tree end h = record {
      reads = subst (λ a. Reads set ts 12 i a new.end) (sym tree) (record {
        spelt = (here, subst (λ z. Spells set ts (i + 1) p.tree z) (sym end) r.reads.spelt, r.reads.binds);
        binds = lit≤ tt;
        ends = subst (Ends set ts 12) (sym end) r.reads.ends;
      });
      height_is = omega (arith, h, r.height_is, ap height tree);
      low = omega (arith, h, r.low);
    }

  -- `$signed` and `$unsigned`
  module _ (op : Cast) (here : cast_at ts i ≡ Some op) where
    cast_form : (a : Expr) (j : ℕ) → Reads set ts 12 i a j → CastForm set ts i a j
    cast_form a j r = let p = word_of cast_of (kind_at ts i) op here in by (begun_as a j (word p.0) (first_word ts i p.0 p.1) r)
      where
        by : NamedForm set ts i a j ⊎ CastForm set ts i a j → CastForm set ts i a j
        by (inl q) = absurd (no_cast set ts i a j q op here)
        by (inr q) = q

    pub cast_open : (IsSign ts (i + 1) (codes "(") → ⊥) → (a : Expr) (j : ℕ) → Reads set ts 12 i a j → ⊥
    cast_open h a j r = h (cast_form a j r).open_

    pub cast_refuses : (fault : ReadFault) → Refusal height (Closed set ts (i + 2) (codes ")")) ts (i + 2) (depth - 1) fault → Refuses set ts 12 i depth fault
    cast_refuses fault r =
        passes height (Closed set ts (i + 2) (codes ")")) height (Reads set ts 12 i) ts (i + 2) (depth - 1) i depth 1
        (λ a j s. let q = cast_form a j s in record {
          part = q.part;
          end = j;
          lower = omega (arith, q.height_is);
          holds = record {
            at = q.at;
            close_at = q.close;
            end_is = q.end_is;
            free = s.ends.alone;
            reads = record { spelt = q.spells_part; binds = level_pos q.part; ends = stop_ends set ts 1 q.at (stops_paren set ts q.at q.close) };
          };
        })
        (omega arith) (omega arith) fault r

    pub cast_read : IsSign ts (i + 1) (codes "(") → (p : Parsed) → IsClosed set ts (i + 2) (codes ")") (depth - 1) p → (new : Parsed) → new.tree ≡ cast_tree op p.tree → new.end ≡ p.end
        → new.height ≡ p.height + 1 → IsRead set ts 12 i depth new
    cast_read open_ p r new tree end h = record {
      reads = subst (λ a. Reads set ts 12 i a new.end) (sym tree) (record {
        spelt = (r.closed.at, here, open_, r.closed.reads.spelt, r.closed.close_at, end ∙ r.closed.end_is);
        binds = lit≤ tt;
        ends = ends_by new.end (subst (NoSuffix ts) (sym end) r.closed.free);
      });
      height_is = omega (arith, h, r.height_is, ap height tree);
      low = omega (arith, h, r.low);
    }

  -- a name
  module _ (text : List ℕ) (here : IsWord ts i text) (plain : cast_of text ≡ None) where
    named_form : (a : Expr) (j : ℕ) → Reads set ts 12 i a j → NamedForm set ts i a j
    named_form a j r = by (begun_as a j (word text) (first_word ts i text here) r)
      where
        by : NamedForm set ts i a j ⊎ CastForm set ts i a j → NamedForm set ts i a j
        by (inl q) = q
        by (inr q) = let w = q.word in let u : cast_at ts i ≡ None = ap (on_word cast_of) here ∙ plain in absurd (cc)

    -- the name that a tree begins with
    name_of : (a : Expr) (j : ℕ) → Reads set ts 12 i a j → (n : Name) × (l : ℕ) × ReadsName set ts i n l
    name_of a j r = by (named_form a j r)
      where
        by : NamedForm set ts i a j → (n : Name) × (l : ℕ) × ReadsName set ts i n l
        by (inl q) = (q.name, j, (q.named, suffix_path ts j r.ends.alone))
        by (inr (inl q)) = (q.name, q.past, (q.named, bracket_no_path ts q.past q.open_))
        by (inr (inr q)) = (q.name, q.past, (q.named, bracket_no_path ts q.past q.open_))

    pub name_refuses : (fault : ReadFault) → Lacks (ReadsName set ts i) fault → Refuses set ts 12 i depth fault
    name_refuses (f.Syntax at) h = λ a j r. let q = name_of a j r in h q.0 q.1 q.2
    name_refuses f.Memory h = tt
    name_refuses f.Deep h = absurd h
    name_refuses (f.Bytes at) h = h
    name_refuses (f.Number at) h = h
    name_refuses (f.Outside at) h = h

  pub name_read : (n : Name) (j : ℕ) → ReadsName set ts i n j → (IsSign ts j (codes "[") → ⊥) → (new : Parsed) → new.tree ≡ e.Name n → new.end ≡ j → new.height ≡ 1
      → IsRead set ts 12 i depth new
  name_read n j r open_ new tree end h = record {
    reads = subst (λ a. Reads set ts 12 i a new.end) (sym tree) (record {
      spelt = subst (IsName set ts i n) (sym end) r.0;
      binds = lit≤ tt;
      ends = ends_by new.end (subst (NoSuffix ts) (sym end) (record { no_select = open_; no_dot = r.1.no_dot; no_at = r.1.no_at }));
    });
    height_is = h ∙ sym (ap height tree);
    low = omega (arith, h);
  }

  -- a name and its brackets
  module _ (n : Name) (past : ℕ) (named : IsName set ts i n past) (open_ : IsSign ts past (codes "[")) where
    same_past : (m : Name) (l : ℕ) → IsName set ts i m l → NoPath ts l → l ≡ past
    same_past m l p u = (same_name set ts i m l n past p u named (bracket_no_path ts past open_)).1

    bracket_form : (a : Expr) (j : ℕ) → Reads set ts 12 i a j → SelectForm set ts i a j ⊎ PartForm set ts i a j
    bracket_form a j r = let w = name_begins set ts i n past named in by w.0 w.1 (begun_as a j (word w.0) (first_word ts i w.0 w.1.stands) r)
      where
        by : (w : List ℕ) → IsIdentifier set ts i w → NamedForm set ts i a j ⊎ CastForm set ts i a j → SelectForm set ts i a j ⊎ PartForm set ts i a j
        by w x (inl (inl q)) =
            absurd (r.ends.alone.no_select (subst (λ z. IsSign ts z (codes "[")) (sym (same_past q.name j q.named (suffix_path ts j r.ends.alone))) open_))
        by w x (inl (inr q)) = q
        by w x (inr q) = absurd (named_no_cast set ts i w x q.cast q.word)

    reads_select : (a : Expr) (j : ℕ) (q : SelectForm set ts i a j) → Reads set ts 1 (past + 1) q.part q.at
    reads_select a j q =
        subst (λ z. Reads set ts 1 (z + 1) q.part q.at) (same_past q.name q.past q.named (bracket_no_path ts q.past q.open_))
        (record { spelt = q.spells_part; binds = level_pos q.part; ends = stop_ends set ts 1 q.at (stops_bracket set ts q.at q.close) })

    reads_part : (a : Expr) (j : ℕ) (q : PartForm set ts i a j) → Reads set ts 1 (past + 1) q.part q.at
    reads_part a j q =
        subst (λ z. Reads set ts 1 (z + 1) q.part q.at) (same_past q.name q.past q.named (bracket_no_path ts q.past q.open_))
        (record { spelt = q.spells_part; binds = level_pos q.part; ends = stop_ends set ts 1 q.at (stops_span set ts q.at q.span q.sign) })

    bracket_part : (a : Expr) (j : ℕ) → Reads set ts 12 i a j → Has height (Reads set ts 1 (past + 1)) 1 (height a)
    bracket_part a j r = by (bracket_form a j r)
      where
        by : SelectForm set ts i a j ⊎ PartForm set ts i a j → Has height (Reads set ts 1 (past + 1)) 1 (height a)
        by (inl q) = record { part = q.part; end = q.at; holds = reads_select a j q; lower = omega (arith, q.height_is) }
        by (inr q) = record { part = q.part; end = q.at; holds = reads_part a j q; lower = omega (arith, q.height_is) }

    pub bracket_refuses : (fault : ReadFault) → Refuses set ts 1 (past + 1) (depth - 1) fault → Refuses set ts 12 i depth fault
    bracket_refuses fault r =
        passes height (Reads set ts 1 (past + 1)) height (Reads set ts 12 i) ts (past + 1) (depth - 1) i depth 1 bracket_part
        (omega (arith, name_long set ts i n past named)) (omega arith) fault r

    module _ (p : Parsed) (r : IsRead set ts 1 (past + 1) (depth - 1) p) where
      at_select : (a : Expr) (j : ℕ) (q : SelectForm set ts i a j) → q.at ≡ p.end
      at_select a j q = (unique set ts 1 (past + 1) q.part q.at p.tree p.end (reads_select a j q) r.reads).1

      at_part : (a : Expr) (j : ℕ) (q : PartForm set ts i a j) → q.at ≡ p.end
      at_part a j q = (unique set ts 1 (past + 1) q.part q.at p.tree p.end (reads_part a j q) r.reads).1

      module _ (none : span_at ts p.end ≡ None) where
        only_select : (a : Expr) (j : ℕ) → Reads set ts 12 i a j → SelectForm set ts i a j
        only_select a j s = by (bracket_form a j s)
          where
            by : SelectForm set ts i a j ⊎ PartForm set ts i a j → SelectForm set ts i a j
            by (inl q) = q
            by (inr q) = let u : span_at ts p.end ≡ Some q.span = ap (span_at ts) (sym (at_part a j q)) ∙ q.sign in absurd (cc)

        pub select_open : (IsSign ts p.end (codes "]") → ⊥) → (a : Expr) (j : ℕ) → Reads set ts 12 i a j → ⊥
        select_open h a j s = let q = only_select a j s in h (subst (λ z. IsSign ts z (codes "]")) (at_select a j q) q.close)

        pub select_followed : (NoSuffix ts (p.end + 1) → ⊥) → (a : Expr) (j : ℕ) → Reads set ts 12 i a j → ⊥
        select_followed h a j s =
            let q = only_select a j s in h (subst (NoSuffix ts) (omega (arith, q.end_is, at_select a j q)) s.ends.alone)

      pub select_read : IsSign ts p.end (codes "]") → NoSuffix ts (p.end + 1) → (new : Parsed) → new.tree ≡ select_of n p.tree → new.end ≡ p.end + 1
          → new.height ≡ p.height + 1 → IsRead set ts 12 i depth new
      select_read close free new tree end h = record {
        reads = subst (λ a. Reads set ts 12 i a new.end) (sym tree) (record {
          spelt = (past, p.end, named, open_, r.reads.spelt, close, end);
          binds = lit≤ tt;
          ends = ends_by new.end (subst (NoSuffix ts) (sym end) free);
        });
        height_is = omega (arith, h, r.height_is, ap height tree);
        low = omega (arith, h, r.low);
      }

      module _ (span : Span) (sign : span_at ts p.end ≡ Some span) where
        other_part : (a : Expr) (j : ℕ) → Reads set ts 12 i a j → Has height (Closed set ts (p.end + 1) (codes "]")) 1 (height a)
        other_part a j s = by (bracket_form a j s)
          where
            by : SelectForm set ts i a j ⊎ PartForm set ts i a j → Has height (Closed set ts (p.end + 1) (codes "]")) 1 (height a)
            by (inl q) = absurd (no_span ts p.end span sign (subst (λ z. IsSign ts z (codes "]")) (at_select a j q) q.close))
            by (inr q) = record {
              part = q.other;
              end = j;
              lower = omega (arith, q.height_is);
              holds = subst (λ z. Closed set ts (z + 1) (codes "]") q.other j) (at_part a j q) (record {
                at = q.last;
                close_at = q.close;
                end_is = q.end_is;
                free = s.ends.alone;
                reads = record { spelt = q.spells_other; binds = level_pos q.other; ends = stop_ends set ts 1 q.last (stops_bracket set ts q.last q.close) };
              });
            }

        pub part_refuses : (fault : ReadFault) → Refusal height (Closed set ts (p.end + 1) (codes "]")) ts (p.end + 1) (depth - 1) fault → Refuses set ts 12 i depth fault
        part_refuses fault q =
            passes height (Closed set ts (p.end + 1) (codes "]")) height (Reads set ts 12 i) ts (p.end + 1) (depth - 1) i depth 1 other_part
            (omega (arith, name_long set ts i n past named, length_of set ts (past + 1) p.tree p.end r.reads.spelt)) (omega arith) fault q

        pub part_read : (o : Parsed) → IsClosed set ts (p.end + 1) (codes "]") (depth - 1) o → (new : Parsed) → new.tree ≡ part_of n span p.tree o.tree → new.end ≡ o.end
            → new.height ≡ max p.height o.height + 1 → IsRead set ts 12 i depth new
        part_read o q new tree end h = record {
          reads = subst (λ a. Reads set ts 12 i a new.end) (sym tree) (record {
            spelt = (past, p.end, q.closed.at, named, open_, r.reads.spelt, sign, q.closed.reads.spelt, q.closed.close_at, end ∙ q.closed.end_is);
            binds = lit≤ tt;
            ends = ends_by new.end (subst (NoSuffix ts) (sym end) q.closed.free);
          });
          height_is = omega (arith, h, r.height_is, q.height_is, ap height tree);
          low = omega (arith, h, r.low, q.low);
        }
