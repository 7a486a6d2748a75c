-- Trees with commas between, and the concatenation of them.
use Rattle.std.proofs.Common.{Bool, ℕ, ◌+◌, ◌-◌, ◌≡◌, ◌<◌, ◌≤◌, max, ◌⊎◌, inl, inr, List, [], ◌∷◌, ◌++◌, refl, sym, ap, subst, ◌∙◌, arith, lit≤}
use Rattle.std.specs.Prelude.{codes}
use Rattle.vlog_tree.specs.declared.token.Token.{Token}
use Rattle.vlog_tree.specs.declared.expr.Expr.{Expr, Row_of-Expr, end_of-Expr, more_of-Expr}
use Rattle.vlog_tree.specs.declared.expr.Expr.TheVariants as e
use Rattle.vlog_tree.specs.declared.expr.Expr.TheBlock.{shape-the_row-Expr-0, hidden-the_row-Expr-0, shape-the_row-Expr-1, hidden-the_row-Expr-1}
use denote.Hole.Carrier
use Rattle.vlog_tree.specs.Signs.{IsSign}
use Rattle.vlog_tree.specs.Spelling.{height, heights, Spells, SpellsList, SpellsMore, Reads, NoSuffix}
use Rattle.vlog_read_spelling.proofs.Rows.{list_of, list_of-hidden}
use Rattle.vlog_read_spelling.proofs.Tokens.{first_brace, Stops, stops_brace, stops_comma, stops_open_brace}
use Rattle.vlog_read_spelling.proofs.Forms.{length_of, ConcatForm, RepeatForm, Begun, begun}
use Rattle.vlog_read_spelling.proofs.Compare.{infix_low, no_open}
use Rattle.vlog_read_spelling.proofs.Reading.{level_pos, unique, stop_ends}
use Rattle.vlog_read_lex.specs.declared.error.ReadFault.{ReadFault}
use Rattle.vlog_read_expr.specs.declared.expr.Parsed.{Parsed}
use Rattle.vlog_read_expr.specs.declared.expr.Listed.{Listed}
use Rattle.vlog_read_expr.specs.Answers.{Refusal, Refuses, IsRead, ReadsTrees, IsListed}
use Rattle.vlog_tree.specs.Lists.{Comma, highest}
use Rattle.vlog_read_spelling.specs.Growing.{ReadsMore}
use Rattle.vlog_read_spelling.proofs.Lists.{one_list, Started, starts, stops, grows, another, highest-append}
use Rattle.vlog_read_expr.proofs.Steps.{Has, passes}

module _ (set : Bool) (ts : List Token) where
  same_list : (xs ys : List Expr) (i j m : ℕ) → ReadsTrees set ts i xs j → ReadsTrees set ts i ys m → j ≡ m
  same_list xs ys i j m p q = (one_list height (Comma ts) (Reads set ts 1) (unique set ts 1) xs ys i j m p q).1

  abbrev pub SoFar : ℕ → List Expr → ℕ → Type 0
  SoFar = Started height (Comma ts) (Reads set ts 1) (unique set ts 1)

  -- what is read of a list so far
  pub record Begun_list (i depth : ℕ) (items : List Expr) (tall end : ℕ) : Type 0 where
    pub started : SoFar i items end
    pub height_is : tall ≡ highest height items
    pub low : tall ≤ depth
    pub past : i ≤ end

  module _ (i depth : ℕ) where
    pub list_refuses : (fault : ReadFault) → Refuses set ts 1 i depth fault → Refusal (highest height) (ReadsTrees set ts i) ts i depth fault
    list_refuses fault r = passes height (Reads set ts 1 i) (highest height) (ReadsTrees set ts i) ts i depth i depth 0 first_tree (omega arith) (omega arith) fault r
      where
        first_tree : (ys : List Expr) (j : ℕ) → ReadsTrees set ts i ys j → Has height (Reads set ts 1 i) 0 (highest height ys)
        first_tree [] j q = absurd q
        first_tree (y ∷ ys) j q = record { part = y; end = q.0; holds = q.1; lower = omega arith }

    pub list_begins : (p : Parsed) → IsRead set ts 1 i depth p → Begun_list i depth (p.tree ∷ []) p.height p.end
    list_begins p r = record {
      started = starts height (Comma ts) (Reads set ts 1) (unique set ts 1) i p.tree p.end r.reads;
      height_is = omega (arith, r.height_is);
      low = r.low;
      past = omega (arith, length_of set ts i p.tree p.end r.reads.spelt);
    }

    module _ (items : List Expr) (tall end : ℕ) (b : Begun_list i depth items tall end) where
      pub list_ends : (IsSign ts end (codes ",") → ⊥) → (new : Listed) → new.items ≡ items → new.end ≡ end → new.height ≡ tall → IsListed set ts i depth new
      list_ends last new is at h = record {
        reads = subst (λ z. ReadsTrees set ts i z new.end) (sym is) (subst (λ z. ReadsTrees set ts i items z) (sym at)
            (stops height (Comma ts) (Reads set ts 1) (unique set ts 1) i items end b.started last));
        height_is = omega (arith, h, b.height_is, ap (highest height) is);
        low = omega (arith, h, b.low);
      }

      module _ (comma : IsSign ts end (codes ",")) where
        pub item_refuses : (fault : ReadFault) → Refuses set ts 1 (end + 1) depth fault → Refusal (highest height) (ReadsTrees set ts i) ts i depth fault
        item_refuses fault r =
            passes height (Reads set ts 1 (end + 1)) (highest height) (ReadsTrees set ts i) ts (end + 1) depth i depth 0
            (λ ys j q. let o = another height (Comma ts) (Reads set ts 1) (unique set ts 1) i items end b.started comma ys j q in record { part = o.0; end = o.1; holds = o.2; lower = omega (arith, o.3) })
            (omega (arith, b.past)) (omega arith) fault r

        pub list_grows : (p : Parsed) → IsRead set ts 1 (end + 1) depth p → (new : List Expr) → new ≡ items ++ p.tree ∷ [] → (tall' : ℕ) → tall' ≡ max tall p.height
            → Begun_list i depth new tall' p.end
        list_grows p r new is tall' h = record {
          started = subst (λ z. SoFar i z p.end) (sym is) (grows height (Comma ts) (Reads set ts 1) (unique set ts 1) i items end b.started comma p.tree p.end r.reads);
          height_is = omega (arith, h, b.height_is, r.height_is, ap (highest height) is, highest-append height (Comma ts) (Reads set ts 1) (unique set ts 1) items (p.tree ∷ []));
          low = omega (arith, h, b.low, r.low);
          past = omega (arith, b.past, length_of set ts (end + 1) p.tree p.end r.reads.spelt);
        }

  -- a row as the list that is read
  heights_is : {m : _} (row : Row_of-Expr m) → highest height (list_of row) ≡ heights row
  heights_is end_of-Expr = refl
  heights_is (more_of-Expr a rest) = ap (max (height a)) (heights_is rest)

  no_comma : (i : ℕ) → IsSign ts i (codes "}") → IsSign ts i (codes ",") → ⊥
  no_comma i p q = cc

  after_more : {m : _} (row : Row_of-Expr m) (i j : ℕ) → SpellsMore set ts i row j → IsSign ts j (codes "}") → Stops set ts i
  after_more end_of-Expr i j s h = subst (Stops set ts) (sym s) (stops_brace set ts j h)
  after_more (more_of-Expr a rest) i j s h = stops_comma set ts i s.1

  read_as : (i : ℕ) (a : Expr) (j : ℕ) → Spells set ts i a j → Stops set ts j → Reads set ts 1 i a j
  read_as i a j s p = record { spelt = s; binds = level_pos a; ends = stop_ends set ts 1 j p }

  row_more : {m : _} (row : Row_of-Expr m) (i j : ℕ) → SpellsMore set ts i row j → IsSign ts j (codes "}") → ReadsMore (Comma ts) (Reads set ts 1) i (list_of row) j
  row_more end_of-Expr i j s h = (s, no_comma i (subst (λ z. IsSign ts z (codes "}")) (sym s) h))
  row_more (more_of-Expr a rest) i j s h = (s.0, s.1, read_as (i + 1) a s.0 s.2 (after_more rest s.0 j s.3 h), row_more rest s.0 j s.3 h)

  row_list : {m : _} (row : Row_of-Expr m) (i j : ℕ) → SpellsList set ts i row j → IsSign ts j (codes "}") → ReadsTrees set ts i (list_of row) j
  row_list end_of-Expr i j s h = absurd s
  row_list (more_of-Expr a rest) i j s h = (s.0, read_as i a s.0 s.1 (after_more rest s.0 j s.2 h), row_more rest s.0 j s.2 h)

  more_row : {m : _} (row : Row_of-Expr m) (i j : ℕ) → ReadsMore (Comma ts) (Reads set ts 1) i (list_of row) j → SpellsMore set ts i row j
  more_row end_of-Expr i j s = s.0
  more_row (more_of-Expr a rest) i j s = (s.0, s.1, s.2.spelt, more_row rest s.0 j s.3)

  list_row : {m : _} (row : Row_of-Expr m) (i j : ℕ) → ReadsTrees set ts i (list_of row) j → SpellsList set ts i row j
  list_row end_of-Expr i j s = absurd s
  list_row (more_of-Expr a rest) i j s = (s.0, s.1.spelt, more_row rest s.0 j s.2)

  -- the braces: the first tree in them
  module _ (i depth : ℕ) (positive : 0 < depth) (here : IsSign ts i (codes "{")) where
    brace_form : (a : Expr) (j : ℕ) → Reads set ts 12 i a j → ConcatForm set ts i a j ⊎ RepeatForm set ts i a j
    brace_form a j r = subst (Begun set ts i a j) (first_brace ts i here) (begun set ts i a j r.spelt r.binds)

    reads_count : (a : Expr) (j : ℕ) (q : RepeatForm set ts i a j) → Reads set ts 1 (i + 1) q.count q.at
    reads_count a j q = read_as (i + 1) q.count q.at q.spells_count (stops_open_brace set ts q.at q.open_)

    first_row : {m : _} (row : Row_of-Expr m) (at : ℕ) → SpellsList set ts (i + 1) row at → IsSign ts at (codes "}") → Has height (Reads set ts 1 (i + 1)) 0 (heights row)
    first_row end_of-Expr at s h = absurd s
    first_row (more_of-Expr a rest) at s h = record { part = a; end = s.0; holds = read_as (i + 1) a s.0 s.1 (after_more rest s.0 at s.2 h); lower = omega arith }

    brace_part : (a : Expr) (j : ℕ) → Reads set ts 12 i a j → Has height (Reads set ts 1 (i + 1)) 1 (height a)
    brace_part a j r = by (brace_form a j r)
      where
        by : ConcatForm set ts i a j ⊎ RepeatForm set ts i a j → Has height (Reads set ts 1 (i + 1)) 1 (height a)
        by (inl q) = let x = first_row q.row q.at q.spells_row q.close in record { part = x.part; end = x.end; holds = x.holds; lower = omega (arith, x.lower, q.height_is) }
        by (inr q) = record { part = q.count; end = q.at; holds = reads_count a j q; lower = omega (arith, q.height_is) }

    pub brace_refuses : (fault : ReadFault) → Refuses set ts 1 (i + 1) (depth - 1) fault → Refuses set ts 12 i depth fault
    brace_refuses fault r = passes height (Reads set ts 1 (i + 1)) height (Reads set ts 12 i) ts (i + 1) (depth - 1) i depth 1 brace_part (omega arith) (omega arith) fault r

  -- a replication
  module _ (i depth : ℕ) (positive : 0 < depth) (here : IsSign ts i (codes "{")) (c : Parsed) (rc : IsRead set ts 1 (i + 1) (depth - 1) c) (open_ : IsSign ts c.end (codes "{")) where
    not_flat : {m : _} (row : Row_of-Expr m) (at : ℕ) → SpellsList set ts (i + 1) row at → IsSign ts at (codes "}") → ⊥
    not_flat end_of-Expr at s h = s
    not_flat (more_of-Expr a rest) at s h =
        let u = unique set ts 1 (i + 1) a s.0 c.tree c.end (read_as (i + 1) a s.0 s.1 (after_more rest s.0 at s.2 h)) rc.reads in
        no_open set ts rest s.0 at s.2 h (subst (λ z. IsSign ts z (codes "{")) (sym u.1) open_)

    repeat_form : (a : Expr) (j : ℕ) → Reads set ts 12 i a j → RepeatForm set ts i a j
    repeat_form a j r = by (brace_form i depth positive here a j r)
      where
        by : ConcatForm set ts i a j ⊎ RepeatForm set ts i a j → RepeatForm set ts i a j
        by (inl q) = absurd (not_flat q.row q.at q.spells_row q.close)
        by (inr q) = q

    at_count : (a : Expr) (j : ℕ) (q : RepeatForm set ts i a j) → q.at ≡ c.end
    at_count a j q = (unique set ts 1 (i + 1) q.count q.at c.tree c.end (reads_count i depth positive here a j q) rc.reads).1

    repeat_list : (a : Expr) (j : ℕ) (q : RepeatForm set ts i a j) → ReadsTrees set ts (c.end + 1) (list_of q.row) q.last
    repeat_list a j q = subst (λ z. ReadsTrees set ts (z + 1) (list_of q.row) q.last) (at_count a j q) (row_list q.row (q.at + 1) q.last q.spells_row q.close)

    pub repeat_refuses : (fault : ReadFault) → Refusal (highest height) (ReadsTrees set ts (c.end + 1)) ts (c.end + 1) (depth - 1) fault → Refuses set ts 12 i depth fault
    repeat_refuses fault r =
        passes (highest height) (ReadsTrees set ts (c.end + 1)) height (Reads set ts 12 i) ts (c.end + 1) (depth - 1) i depth 1
        (λ a j s. let q = repeat_form a j s in record { part = list_of q.row; end = q.last; holds = repeat_list a j q; lower = omega (arith, q.height_is, heights_is q.row) })
        (omega (arith, length_of set ts (i + 1) c.tree c.end rc.reads.spelt)) (omega arith) fault r

    module _ (p : Listed) (r : IsListed set ts (c.end + 1) (depth - 1) p) where
      last_is : (a : Expr) (j : ℕ) (q : RepeatForm set ts i a j) → q.last ≡ p.end
      last_is a j q = same_list (list_of q.row) p.items (c.end + 1) q.last p.end (repeat_list a j q) r.reads

      pub repeat_open : (IsSign ts p.end (codes "}") → ⊥) → (a : Expr) (j : ℕ) → Reads set ts 12 i a j → ⊥
      repeat_open h a j s = let q = repeat_form a j s in h (subst (λ z. IsSign ts z (codes "}")) (last_is a j q) q.close)

      pub repeat_open_2 : (IsSign ts (p.end + 1) (codes "}") → ⊥) → (a : Expr) (j : ℕ) → Reads set ts 12 i a j → ⊥
      repeat_open_2 h a j s = let q = repeat_form a j s in h (subst (λ z. IsSign ts (z + 1) (codes "}")) (last_is a j q) q.close_2)

      pub repeat_followed : (NoSuffix ts (p.end + 2) → ⊥) → (a : Expr) (j : ℕ) → Reads set ts 12 i a j → ⊥
      repeat_followed h a j s =
          let q = repeat_form a j s in h (subst (NoSuffix ts) (omega (arith, q.end_is, last_is a j q)) s.ends.alone)

      pub repeat_read : IsSign ts p.end (codes "}") → IsSign ts (p.end + 1) (codes "}") → NoSuffix ts (p.end + 2) → (new : Parsed) → (t : Expr) → t ≡ c.tree → new.tree ≡ e.Repeat t p.items
          → new.end ≡ p.end + 2 → new.height ≡ max c.height p.height + 1 → IsRead set ts 12 i depth new
      unfolding shape-the_row-Expr-0 hidden-the_row-Expr-0 denote.Hole.Carrier.hidden
      repeat_read close close_2 free new t same tree end h = record {
        reads = subst (λ a. Reads set ts 12 i a new.end) (sym tree_is) (record {
          spelt = (c.end, p.end, here, rc.reads.spelt, open_, spelt, close, close_2, end);
          binds = lit≤ tt;
          ends = record { looser = λ op h. infix_low op; alone = subst (NoSuffix ts) (sym end) free };
        });
        height_is = omega (arith, h, rc.height_is, r.height_is, ap height tree_is, heights_is (hidden-the_row-Expr-1 p.items), ap (highest height) (list_of-hidden p.items));
        low = omega (arith, h, rc.low, r.low);
      }
        where
          tree_is : new.tree ≡ e.Repeat' tt (more_of-Expr c.tree end_of-Expr) (shape-the_row-Expr-1 p.items) (hidden-the_row-Expr-1 p.items)
          tree_is = tree ∙ ap (λ z. e.Repeat z p.items) same

          spelt : SpellsList set ts (c.end + 1) (hidden-the_row-Expr-1 p.items) p.end
          spelt = list_row (hidden-the_row-Expr-1 p.items) (c.end + 1) p.end (subst (λ z. ReadsTrees set ts (c.end + 1) z p.end) (sym (list_of-hidden p.items)) r.reads)

  -- a concatenation
  module _ (i depth : ℕ) (positive : 0 < depth) (here : IsSign ts i (codes "{")) (c : Parsed) (rc : IsRead set ts 1 (i + 1) (depth - 1) c) (flat : IsSign ts c.end (codes "{") → ⊥) where
    concat_form : (a : Expr) (j : ℕ) → Reads set ts 12 i a j → ConcatForm set ts i a j
    concat_form a j r = by (brace_form i depth positive here a j r)
      where
        by : ConcatForm set ts i a j ⊎ RepeatForm set ts i a j → ConcatForm set ts i a j
        by (inl q) = q
        by (inr q) =
            let u = unique set ts 1 (i + 1) q.count q.at c.tree c.end (reads_count i depth positive here a j q) rc.reads in
            absurd (flat (subst (λ z. IsSign ts z (codes "{")) u.1 q.open_))

    concat_list : (a : Expr) (j : ℕ) (r : Reads set ts 12 i a j) → ReadsTrees set ts (i + 1) (list_of (concat_form a j r).row) (concat_form a j r).at
    concat_list a j r = let q = concat_form a j r in row_list q.row (i + 1) q.at q.spells_row q.close

    pub concat_refuses : (fault : ReadFault) → Refusal (highest height) (ReadsTrees set ts (i + 1)) ts (i + 1) (depth - 1) fault → Refuses set ts 12 i depth fault
    concat_refuses fault r =
        passes (highest height) (ReadsTrees set ts (i + 1)) height (Reads set ts 12 i) ts (i + 1) (depth - 1) i depth 1
        (λ a j s. let q = concat_form a j s in
        record { part = list_of q.row; end = q.at; holds = concat_list a j s; lower = omega (arith, q.height_is, heights_is q.row) })
        (omega arith) (omega arith) fault r

    module _ (p : Listed) (r : IsListed set ts (i + 1) (depth - 1) p) where
      same_at : (a : Expr) (j : ℕ) (s : Reads set ts 12 i a j) → (concat_form a j s).at ≡ p.end
      same_at a j s = let q = concat_form a j s in same_list (list_of q.row) p.items (i + 1) q.at p.end (concat_list a j s) r.reads

      pub concat_open : (IsSign ts p.end (codes "}") → ⊥) → (a : Expr) (j : ℕ) → Reads set ts 12 i a j → ⊥
      concat_open h a j s = let q = concat_form a j s in h (subst (λ z. IsSign ts z (codes "}")) (same_at a j s) q.close)

      pub concat_followed : (NoSuffix ts (p.end + 1) → ⊥) → (a : Expr) (j : ℕ) → Reads set ts 12 i a j → ⊥
      concat_followed h a j s =
          let q = concat_form a j s in h (subst (NoSuffix ts) (omega (arith, q.end_is, same_at a j s)) s.ends.alone)

      pub concat_read : IsSign ts p.end (codes "}") → NoSuffix ts (p.end + 1) → (new : Parsed) → new.tree ≡ e.Concat p.items → new.end ≡ p.end + 1
          → new.height ≡ p.height + 1 → IsRead set ts 12 i depth new
      concat_read close free new tree end h = record {
        reads = subst (λ a. Reads set ts 12 i a new.end) (sym tree) (record {
          spelt = (p.end, here, spelt, close, end);
          binds = lit≤ tt;
          ends = record { looser = λ op h. infix_low op; alone = subst (NoSuffix ts) (sym end) free };
        });
        height_is = omega (arith, h, r.height_is, ap height tree, heights_is (hidden-the_row-Expr-1 p.items), ap (highest height) (list_of-hidden p.items));
        low = omega (arith, h, r.low);
      }
        where
          spelt : SpellsList set ts (i + 1) (hidden-the_row-Expr-1 p.items) p.end
          spelt = list_row (hidden-the_row-Expr-1 p.items) (i + 1) p.end (subst (λ z. ReadsTrees set ts (i + 1) z p.end) (sym (list_of-hidden p.items)) r.reads)
