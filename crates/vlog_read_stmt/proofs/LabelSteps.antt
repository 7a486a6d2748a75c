-- One step of the reader of labels: what is read, and why nothing is.
use Rattle.std.proofs.Common.{ℕ, ◌+◌, ◌≡◌, ◌<◌, ◌≤◌, max, ◌⊎◌, inl, inr, List, [], ◌∷◌, ◌++◌, length, true, false, Some, None, refl, sym, ap, subst, ◌∙◌, arith}
use Rattle.std.specs.Prelude.{codes}
use Rattle.vlog_tree.specs.declared.token.Token.{Token}
use Rattle.vlog_tree.specs.declared.token.Number.{Number}
use Rattle.vlog_tree.specs.declared.token.Kind.TheVariants as k
use Rattle.vlog_tree.specs.declared.expr.Expr.{Expr}
use Rattle.vlog_tree.specs.declared.expr.Expr.TheVariants as e
use Rattle.vlog_tree.specs.declared.stmt.CaseKind.{CaseKind}
use Rattle.vlog_tree.specs.declared.stmt.Labels.{Labels}
use Rattle.vlog_tree.specs.declared.stmt.Labels.TheVariants as b
use Rattle.vlog_tree.specs.Signs.{kind_at, IsSign, IsWord, is_reserved, cast_of, cast_at, on_word}
use Rattle.vlog_tree.specs.Lists.{More, Separated, Comma, highest}
use Rattle.vlog_tree.specs.Spelling.{Reads, height}
use Rattle.vlog_tree.specs.Statements.{SpellsLabel, SpellsLabels, labels_height, defaults_in}
use Rattle.vlog_read_spelling.specs.Growing.{ReadsMore}
use Rattle.vlog_read_spelling.proofs.Tokens.{Stops, kind_within, stops_comma, stops_colon, two_signs, first_number, first_word}
use Rattle.vlog_read_spelling.proofs.Names.{name_begins}
use Rattle.vlog_read_spelling.proofs.Forms.{height_pos, length_of, within, NamedForm, CastForm, Begun, begun}
use Rattle.vlog_read_spelling.proofs.Reading.{unique, begins}
use Rattle.vlog_read_spelling.proofs.Lists.{one_list, Started, starts, stops, grows, another, highest-append}
use Rattle.vlog_read_spelling.proofs.Statements.{no_word, reserved_default}
use Rattle.vlog_read_lex.specs.declared.error.ReadFault.{ReadFault}
use Rattle.vlog_read_lex.specs.declared.error.ReadFault.TheVariants as f
use Rattle.vlog_read_expr.specs.declared.expr.Parsed.{Parsed}
use Rattle.vlog_read_expr.specs.Answers.{IsRead, Refusal, Refuses}
use Rattle.vlog_read_expr.proofs.Steps.{Has, passes}
use Rattle.vlog_read_stmt.specs.declared.label.ListedLabels.{ListedLabels}
use Rattle.vlog_read_stmt.specs.declared.label.ParsedLabels.{ParsedLabels}
use Rattle.vlog_read_stmt.specs.Answers.{ReadsLabel, IsLabel, IsWildAt, ReadsLabelList, IsLabelList, ReadsLabels, IsLabels}
use Rattle.vlog_read_stmt.proofs.Passing.{tree_at}

cast_of_default : cast_of (codes "default") ≡ None
unfolding cast_of
cast_of_default = refl

module _ (kind : CaseKind) (ts : List Token) where
  -- no expression begins with a number that has such digits, nor with a word of the grammar
  not_wild : (i : ℕ) (a : Expr) (j : ℕ) (n : Number) → Reads false ts 1 i a j → kind_at ts i ≡ Some (k.Number n) → n.wildcard ≡ true → ⊥
  not_wild i a j n r here wild =
      let o = begins false ts 1 i a j r in
      let q : (o.operand ≡ e.Number n) × (n.wildcard ≡ false) × (o.end ≡ i + 1) =
      subst (Begun false ts i o.operand o.end) (first_number ts i n here) (begun false ts i o.operand o.end o.reads.spelt o.reads.binds) in
      let v = q.1 in cc

  tree_no_word : (i : ℕ) (a : Expr) (j : ℕ) (w : List ℕ) → Reads false ts 1 i a j → is_reserved false w ≡ true → cast_of w ≡ None → IsWord ts i w → ⊥
  tree_no_word i a j w p r none here =
      let o = begins false ts 1 i a j p in
      by o.operand o.end (subst (Begun false ts i o.operand o.end) (first_word ts i w here) (begun false ts i o.operand o.end o.reads.spelt o.reads.binds))
    where
      by : (x : Expr) (m : ℕ) → NamedForm false ts i x m ⊎ CastForm false ts i x m → ⊥
      by x m (inl (inl q)) = let n = name_begins false ts i q.name m q.named in no_word ts i n.0 w n.1 here r
      by x m (inl (inr (inl q))) = let n = name_begins false ts i q.name q.past q.named in no_word ts i n.0 w n.1 here r
      by x m (inl (inr (inr q))) = let n = name_begins false ts i q.name q.past q.named in no_word ts i n.0 w n.1 here r
      by x m (inr q) = let t = q.word in let v : cast_at ts i ≡ None = ap (on_word cast_of) here ∙ none in cc

  label_no_word : (i : ℕ) (a : Expr) (j : ℕ) (w : List ℕ) → ReadsLabel kind ts i a j → is_reserved false w ≡ true → cast_of w ≡ None → IsWord ts i w → ⊥
  label_no_word i a j w (inl p) r none here = tree_no_word i a j w p r none here
  label_no_word i a j w (inr p) r none here = let t = p.3 in cc

  pub unique_label : (i : ℕ) (x : Expr) (j : ℕ) (y : Expr) (m : ℕ) → ReadsLabel kind ts i x j → ReadsLabel kind ts i y m → (x ≡ y) × (j ≡ m)
  unique_label i x j y m (inl p) (inl q) = unique false ts 1 i x j y m p q
  unique_label i x j y m (inl p) (inr q) = absurd (not_wild i x j q.0 p q.3 q.4)
  unique_label i x j y m (inr p) (inl q) = absurd (not_wild i y m p.0 q p.3 p.4)
  unique_label i x j y m (inr p) (inr q) = let s = p.3 in let t = q.3 in let n : p.0 ≡ q.0 = cc in (p.2 ∙ (ap e.Number n ∙ sym q.2), p.5 ∙ sym q.5)

  pub label_span : (i : ℕ) (x : Expr) (j : ℕ) → ReadsLabel kind ts i x j → (i < j) × (j ≤ length ts)
  label_span i x j (inl p) = (omega (arith, length_of false ts i x j p.spelt, height_pos x), within false ts i x j p.spelt)
  label_span i x j (inr p) = (omega (arith, p.5), omega (arith, p.5, kind_within ts i (k.Number p.0) p.3))

  label_spelt : (i : ℕ) (x : Expr) (j : ℕ) → ReadsLabel kind ts i x j → SpellsLabel kind ts i x j
  label_spelt i x j (inl p) = inl p.spelt
  label_spelt i x j (inr p) = inr p

  label_height : (x : Expr) (n : Number) → x ≡ e.Number n → 0 < height x
  label_height x n is = height_pos x

  -- a label, by what stands there
  pub wild_read : (i depth : ℕ) (n : Number) → IsWildAt kind ts i (Some n) → 0 < depth → (new : Parsed) → new.tree ≡ e.Number n → new.end ≡ i + 1 → new.height ≡ 1 → IsLabel kind ts i depth new
  wild_read i depth n w positive new tree end h = record {
    reads = inr (n, w.0, tree, w.1, w.2, end);
    height_is = h ∙ sym (ap height tree);
    low = omega (arith, h);
  }

  pub wild_deep : (i : ℕ) (n : Number) → IsWildAt kind ts i (Some n) → Refusal height (ReadsLabel kind ts i) ts i 0 f.Deep
  wild_deep i n w = record { higher = λ a j q. height_pos a; tokens = omega (arith, kind_within ts i (k.Number n) w.1) }

  pub tree_read : (i depth : ℕ) (p : Parsed) → IsRead false ts 1 i depth p → IsLabel kind ts i depth p
  tree_read i depth p r = record { reads = inl r.reads; height_is = r.height_is; low = r.low }

  pub tree_refuses : (i depth : ℕ) → IsWildAt kind ts i None → (fault : ReadFault) → Refuses false ts 1 i depth fault → Refusal height (ReadsLabel kind ts i) ts i depth fault
  tree_refuses i depth none fault r = passes height (Reads false ts 1 i) height (ReadsLabel kind ts i) ts i depth i depth 0 by (omega arith) (omega arith) fault r
    where
      by : (a : Expr) (j : ℕ) → ReadsLabel kind ts i a j → Has height (Reads false ts 1 i) 0 (height a)
      by a j (inl q) = record { part = a; end = j; holds = q; lower = omega arith }
      by a j (inr q) = absurd (none q.0 q.1 q.3 q.4)

  -- lists of labels
  abbrev pub SoFar : ℕ → List Expr → ℕ → Type 0
  SoFar = Started height (Comma ts) (ReadsLabel kind ts) unique_label

  -- what is read of a list so far
  pub record Begun_labels (i depth : ℕ) (items : List Expr) (tall end : ℕ) : Type 0 where
    pub started : SoFar i items end
    pub height_is : tall ≡ highest height items
    pub low : tall ≤ depth
    pub past : i ≤ end

  module _ (i depth : ℕ) where
    pub first_refuses : (fault : ReadFault) → Refusal height (ReadsLabel kind ts i) ts i depth fault → Refusal (highest height) (ReadsLabelList kind ts i) ts i depth fault
    first_refuses fault r = passes height (ReadsLabel kind ts i) (highest height) (ReadsLabelList kind ts i) ts i depth i depth 0 first_part (omega arith) (omega arith) fault r
      where
        first_part : (ys : List Expr) (j : ℕ) → ReadsLabelList kind ts i ys j → Has height (ReadsLabel kind ts i) 0 (highest height ys)
        first_part [] j q = absurd q
        first_part (y ∷ ys) j q = record { part = y; end = q.0; holds = q.1; lower = omega arith }

    pub labels_begin : (p : Parsed) → IsLabel kind ts i depth p → (items : List Expr) → items ≡ p.tree ∷ [] → Begun_labels i depth items p.height p.end
    labels_begin p r items is = record {
      started = subst (λ z. SoFar i z p.end) (sym is) (starts height (Comma ts) (ReadsLabel kind ts) unique_label i p.tree p.end r.reads);
      height_is = omega (arith, r.height_is, ap (highest height) is);
      low = r.low;
      past = omega (arith, (label_span i p.tree p.end r.reads).0);
    }

    module _ (items : List Expr) (tall end : ℕ) (g : Begun_labels i depth items tall end) where
      pub labels_end : (IsSign ts end (codes ",") → ⊥) → (new : ListedLabels) → new.items ≡ items → new.end ≡ end → new.height ≡ tall → IsLabelList kind ts i depth new
      labels_end last new is at h = record {
        reads = subst (λ z. ReadsLabelList kind ts i z new.end) (sym is) (subst (λ z. ReadsLabelList kind ts i items z) (sym at)
            (stops height (Comma ts) (ReadsLabel kind ts) unique_label i items end g.started last));
        height_is = omega (arith, h, g.height_is, ap (highest height) is);
        low = omega (arith, h, g.low);
      }

      pub next_refuses : IsSign ts end (codes ",") → (fault : ReadFault) → Refusal height (ReadsLabel kind ts (end + 1)) ts (end + 1) depth fault
          → Refusal (highest height) (ReadsLabelList kind ts i) ts i depth fault
      next_refuses comma fault r =
          passes height (ReadsLabel kind ts (end + 1)) (highest height) (ReadsLabelList kind ts i) ts (end + 1) depth i depth 0
          (λ ys j q. let o = another height (Comma ts) (ReadsLabel kind ts) unique_label i items end g.started comma ys j q in record { part = o.0; end = o.1; holds = o.2; lower = omega (arith, o.3) })
          (omega (arith, g.past)) (omega arith) fault r

      pub labels_grow : IsSign ts end (codes ",") → (p : Parsed) → IsLabel kind ts (end + 1) depth p → (new : List Expr) → new ≡ items ++ p.tree ∷ [] → (tall' : ℕ) → tall' ≡ max tall p.height
          → Begun_labels i depth new tall' p.end
      labels_grow comma p r new is tall' h = record {
        started = subst (λ z. SoFar i z p.end) (sym is) (grows height (Comma ts) (ReadsLabel kind ts) unique_label i items end g.started comma p.tree p.end r.reads);
        height_is = omega (arith, h, g.height_is, r.height_is, ap (highest height) is, highest-append height (Comma ts) (ReadsLabel kind ts) unique_label items (p.tree ∷ []));
        low = omega (arith, h, g.low, r.low);
        past = omega (arith, g.past, (label_span (end + 1) p.tree p.end r.reads).0);
      }

  -- labels up to their colon
  list_no_word : (i : ℕ) (xs : List Expr) (j : ℕ) → ReadsLabelList kind ts i xs j → IsWord ts i (codes "default") → ⊥
  list_no_word i [] j p here = p
  list_no_word i (x ∷ xs) j p here = label_no_word i x p.0 (codes "default") p.1 reserved_default cast_of_default here

  pub unique_labels : (i : ℕ) (x : Labels) (j : ℕ) (y : Labels) (m : ℕ) → ReadsLabels kind ts i x j → ReadsLabels kind ts i y m → (x ≡ y) × (j ≡ m)
  unique_labels i (b.Exprs xs) j (b.Exprs ys) m p q =
      let u : (xs ≡ ys) × (p.0 ≡ q.0) = one_list height (Comma ts) (ReadsLabel kind ts) unique_label xs ys i p.0 q.0 p.1 q.1 in (ap b.Exprs u.0, omega (arith, u.1, p.3, q.3))
  unique_labels i (b.Exprs xs) j b.Default m p q = absurd (list_no_word i xs p.0 p.1 q.0)
  unique_labels i b.Default j (b.Exprs ys) m p q = absurd (list_no_word i ys q.0 q.1 p.0)
  unique_labels i b.Default j b.Default m (w, inl p) (w', inl q) = (refl, p.0 ∙ sym q.0)
  unique_labels i b.Default j b.Default m (w, inl p) (w', inr q) = absurd (p.1 q.0)
  unique_labels i b.Default j b.Default m (w, inr p) (w', inl q) = absurd (q.1 p.0)
  unique_labels i b.Default j b.Default m (w, inr p) (w', inr q) = (refl, p.1 ∙ sym q.1)

  pub labels_within : (i : ℕ) (x : Labels) (j : ℕ) → ReadsLabels kind ts i x j → i < j
  labels_within i (b.Exprs []) j p = absurd p.1
  labels_within i (b.Exprs (x ∷ xs)) j p = omega (arith, (label_span i x p.1.0 p.1.1).0, more_within xs p.1.0 p.0 p.1.2, p.3)
    where
      more_within : (xs : List Expr) (i j : ℕ) → ReadsMore (Comma ts) (ReadsLabel kind ts) i xs j → i ≤ j
      more_within [] i j p = omega (arith, p.0)
      more_within (x ∷ xs) i j p = omega (arith, (label_span (i + 1) x p.0 p.2).0, more_within xs p.0 j p.3)
  labels_within i b.Default j (w, inl p) = omega (arith, p.0)
  labels_within i b.Default j (w, inr p) = omega (arith, p.1)

  more_spelt : (xs : List Expr) (i j : ℕ) → ReadsMore (Comma ts) (ReadsLabel kind ts) i xs j → More (Comma ts) (SpellsLabel kind ts) i xs j
  more_spelt [] i j p = p.0
  more_spelt (x ∷ xs) i j p = (p.0, p.1, label_spelt (i + 1) x p.0 p.2, more_spelt xs p.0 j p.3)

  list_spelt : (xs : List Expr) (i j : ℕ) → ReadsLabelList kind ts i xs j → Separated (Comma ts) (SpellsLabel kind ts) i xs j
  list_spelt [] i j p = p
  list_spelt (x ∷ xs) i j p = (p.0, label_spelt i x p.0 p.1, more_spelt xs p.0 j p.2)

  pub labels_spelt : (i : ℕ) (x : Labels) (j : ℕ) → ReadsLabels kind ts i x j → SpellsLabels kind ts i x j
  labels_spelt i (b.Exprs xs) j p = (p.0, list_spelt xs i p.0 p.1, p.2, p.3)
  labels_spelt i b.Default j (w, inl p) = (w, inl p.0)
  labels_spelt i b.Default j (w, inr p) = (w, inr p)

  -- and back, where no colon follows
  label_reads : (i : ℕ) (x : Expr) (j : ℕ) → SpellsLabel kind ts i x j → Stops false ts j → ReadsLabel kind ts i x j
  label_reads i x j (inl p) s = inl (tree_at ts i x j p s)
  label_reads i x j (inr p) s = inr p

  after_label : (xs : List Expr) (i j : ℕ) → More (Comma ts) (SpellsLabel kind ts) i xs j → IsSign ts j (codes ":") → Stops false ts i
  after_label [] i j p h = stops_colon false ts i (subst (λ z. IsSign ts z (codes ":")) (sym p) h)
  after_label (x ∷ xs) i j p h = stops_comma false ts i p.1

  more_reads : (xs : List Expr) (i j : ℕ) → More (Comma ts) (SpellsLabel kind ts) i xs j → IsSign ts j (codes ":") → ReadsMore (Comma ts) (ReadsLabel kind ts) i xs j
  more_reads [] i j p h = (p, λ s. two_signs ts i (codes ",") (codes ":") refl s (subst (λ z. IsSign ts z (codes ":")) (sym p) h))
  more_reads (x ∷ xs) i j p h = (p.0, p.1, label_reads (i + 1) x p.0 p.2 (after_label xs p.0 j p.3 h), more_reads xs p.0 j p.3 h)

  pub labels_read : (i : ℕ) (x : Labels) (j : ℕ) → SpellsLabels kind ts i x j → (IsSign ts j (codes ":") → ⊥) → ReadsLabels kind ts i x j
  labels_read i (b.Exprs []) j p free = absurd p.1
  labels_read i (b.Exprs (x ∷ xs)) j p free =
      (p.0, (p.1.0, label_reads i x p.1.0 p.1.1 (after_label xs p.1.0 p.0 p.1.2 p.2), more_reads xs p.1.0 p.0 p.1.2 p.2), p.2, p.3)
  labels_read i b.Default j (w, inl p) free = (w, inl (p, λ s. free (subst (λ z. IsSign ts z (codes ":")) (sym p) s)))
  labels_read i b.Default j (w, inr p) free = (w, inr p)

  pub default_read : (i depth : ℕ) → IsWord ts i (codes "default") → (new : ParsedLabels) → new.labels ≡ b.Default → new.defaults ≡ 1 → new.height ≡ 0
      → ((new.end ≡ i + 1) × (IsSign ts (i + 1) (codes ":") → ⊥)) ⊎ (IsSign ts (i + 1) (codes ":") × (new.end ≡ i + 2)) → IsLabels kind ts i depth new
  default_read i depth here new is d h end = record {
    defaults_is = d ∙ sym (ap defaults_in is);
    reads = subst (λ z. ReadsLabels kind ts i z new.end) (sym is) (here, end);
    height_is = h ∙ sym (ap labels_height is);
    low = omega (arith, h);
  }

  module _ (i depth : ℕ) (other : IsWord ts i (codes "default") → ⊥) where
    list_has : (x : Labels) (j : ℕ) → ReadsLabels kind ts i x j → (xs : List Expr) × (m : ℕ) × ReadsLabelList kind ts i xs m × IsSign ts m (codes ":") × (highest height xs ≤ labels_height x)
    list_has (b.Exprs xs) j p = (xs, p.0, p.1, p.2, omega arith)
    list_has b.Default j p = absurd (other p.0)

    pub list_refuses : (fault : ReadFault) → Refusal (highest height) (ReadsLabelList kind ts i) ts i depth fault → Refusal labels_height (ReadsLabels kind ts i) ts i depth fault
    list_refuses fault r =
        passes (highest height) (ReadsLabelList kind ts i) labels_height (ReadsLabels kind ts i) ts i depth i depth 0
        (λ x j q. let o = list_has x j q in record { part = o.0; end = o.1; holds = o.2; lower = omega (arith, o.4) }) (omega arith) (omega arith) fault r

    module _ (p : ListedLabels) (r : IsLabelList kind ts i depth p) where
      pub list_open : (IsSign ts p.end (codes ":") → ⊥) → (x : Labels) (j : ℕ) → ReadsLabels kind ts i x j → ⊥
      list_open colon x j q =
          let o = list_has x j q in
          let u = one_list height (Comma ts) (ReadsLabel kind ts) unique_label o.0 p.items i o.1 p.end o.2 r.reads in
          colon (subst (λ z. IsSign ts z (codes ":")) u.1 o.3)

      pub list_read : IsSign ts p.end (codes ":") → (new : ParsedLabels) → new.labels ≡ b.Exprs p.items → new.defaults ≡ 0 → new.height ≡ p.height → new.end ≡ p.end + 1 → IsLabels kind ts i depth new
      list_read colon new is d h end = record {
        defaults_is = d ∙ sym (ap defaults_in is);
        reads = subst (λ z. ReadsLabels kind ts i z new.end) (sym is) (p.end, r.reads, colon, end);
        height_is = omega (arith, h, r.height_is, ap labels_height is);
        low = omega (arith, h, r.low);
      }

pub few_defaults : (x : Labels) → defaults_in x ≤ 1
few_defaults (b.Exprs xs) = omega arith
few_defaults b.Default = omega arith
