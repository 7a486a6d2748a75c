-- One step of the reader of case statements: what is read, and why nothing is.
use Rattle.std.proofs.Common.{ℕ, ◌+◌, ◌-◌, ◌≡◌, ◌<◌, ◌≤◌, max, List, [], ◌∷◌, ◌++◌, length, false, refl, sym, ap, subst, ◌∙◌, arith}
use Rattle.std.specs.Prelude.{codes}
use Rattle.vlog_tree.specs.declared.token.Token.{Token}
use Rattle.vlog_tree.specs.declared.stmt.CaseKind.{CaseKind}
use Rattle.vlog_tree.specs.declared.stmt.CaseKind.TheVariants as c
use Rattle.vlog_tree.specs.declared.stmt.CaseItem.{CaseItem}
use Rattle.vlog_tree.specs.declared.stmt.Stmt.{Stmt, Row_of-CaseItem, end_of-CaseItem, more_of-CaseItem, items_hidden-the_row-CaseItem-2}
use Rattle.vlog_tree.specs.declared.stmt.Stmt.TheVariants as s
use Rattle.vlog_tree.specs.declared.stmt.Stmt.TheBlock.{hidden-the_row-CaseItem-2}
use Rattle.vlog_tree.specs.Signs.{IsWord}
use Rattle.vlog_tree.specs.Lists.{highest, Sequence}
use Rattle.vlog_tree.specs.Spelling.{height}
use Rattle.vlog_tree.specs.Statements.{SpellsCases, case_word, case_heights, defaults, defaults_in, labels_height, stmt_height}
use Rattle.vlog_read_spelling.proofs.Tokens.{stops_paren}
use Rattle.vlog_read_spelling.proofs.Statements.{choice, head_at, by_kind, formed_as, CaseForm, cases_of, listed_cases, case_of, cases_no_else, item_no_end, no_colon}
use Rattle.vlog_read_lex.specs.declared.error.ReadFault.{ReadFault}
use Rattle.vlog_read_expr.specs.declared.expr.Parsed.{Parsed}
use Rattle.vlog_read_expr.specs.Answers.{Refusal}
use Rattle.vlog_read_expr.proofs.Steps.{passes}
use Rattle.vlog_read_stmt.specs.declared.label.ParsedLabels.{ParsedLabels}
use Rattle.vlog_read_stmt.specs.declared.stmt.ParsedStmt.{ParsedStmt}
use Rattle.vlog_read_stmt.specs.declared.stmt.ParsedItem.{ParsedItem}
use Rattle.vlog_read_stmt.specs.declared.stmt.ParsedCases.{ParsedCases}
use Rattle.vlog_read_stmt.specs.Answers.{ReadsStmt, IsStmt, RefusesStmt, ReadsHeader, IsHeader, ReadsLabels, IsLabels, ReadsItem, item_height, IsItem, defaults_of, ReadsCases, IsCases}
use Rattle.vlog_read_stmt.proofs.Passing.{tree_at, highest-append, sequence_snoc, rest, next}
use Rattle.vlog_read_stmt.proofs.LabelSteps.{unique_labels, labels_spelt, labels_read, labels_within, few_defaults}
use Rattle.vlog_read_stmt.proofs.StmtSteps.{span, unique_stmt, same_header, header_past}

list_of-hidden : (xs : List CaseItem) → cases_of (hidden-the_row-CaseItem-2 xs) ≡ xs
list_of-hidden xs = sym (listed_cases _ (hidden-the_row-CaseItem-2 xs)) ∙ items_hidden-the_row-CaseItem-2 xs

heights_is : {m : _} (row : Row_of-CaseItem m) → highest item_height (cases_of row) ≡ case_heights row
heights_is end_of-CaseItem = refl
heights_is (more_of-CaseItem labels body rest) = ap (max (max (labels_height labels) (stmt_height body))) (heights_is rest)

defaults_is : {m : _} (row : Row_of-CaseItem m) → defaults_of (cases_of row) ≡ defaults row
defaults_is end_of-CaseItem = refl
defaults_is (more_of-CaseItem labels body rest) = ap (λ z. defaults_in labels + z) (defaults_is rest)

defaults-append : (xs ys : List CaseItem) → defaults_of (xs ++ ys) ≡ defaults_of xs + defaults_of ys
defaults-append [] ys = omega arith
defaults-append (x ∷ xs) ys = omega (arith, defaults-append xs ys)

module _ (kind : CaseKind) (ts : List Token) where
  unique_item : (i : ℕ) (x : CaseItem) (j : ℕ) (y : CaseItem) (k : ℕ) → ReadsItem kind ts i x j → ReadsItem kind ts i y k → (x ≡ y) × (j ≡ k)
  unique_item i x j y k p q =
      let l : (x.labels ≡ y.labels) × (p.at ≡ q.at) = unique_labels kind ts i x.labels p.at y.labels q.at p.labels q.labels in
      let b : (x.body ≡ y.body) × (j ≡ k) = unique_stmt ts p.at x.body j y.body k p.body (subst (λ z. ReadsStmt ts z y.body k) (sym l.1) q.body) in
      ((λ z. case_of (l.0 z) (b.0 z)), b.1)

  item_no_stop : (i : ℕ) (x : CaseItem) (j : ℕ) → ReadsItem kind ts i x j → IsWord ts i (codes "endcase") → ⊥
  item_no_stop i x j p = item_no_end ts kind i x.labels p.at (labels_spelt kind ts i x.labels p.at p.labels)

  pub item_span : (i : ℕ) (x : CaseItem) (j : ℕ) → ReadsItem kind ts i x j → (i < j) × (j ≤ length ts)
  item_span i x j p = let u = span ts p.at x.body j p.body.spelt in (omega (arith, labels_within kind ts i x.labels p.at p.labels, u.0), u.1)

  -- the rows of a case statement as lists
  row_items : {m : _} (row : Row_of-CaseItem m) (i j : ℕ) → SpellsCases kind ts i row j → IsWord ts j (codes "endcase") → Sequence (ReadsItem kind ts) i (cases_of row) j
  row_items end_of-CaseItem i j p h = p
  row_items (more_of-CaseItem labels body rest) i j p h = (
    p.1,
    record {
      at = p.0;
      labels = labels_read kind ts i labels p.0 p.2 (no_colon ts p.0 body p.1 p.3);
      body = record { spelt = p.3; ends = λ w o. cases_no_else ts kind rest p.1 j p.4 h w };
    },
    row_items rest p.1 j p.4 h,
  )

  items_row : {m : _} (row : Row_of-CaseItem m) (i j : ℕ) → Sequence (ReadsItem kind ts) i (cases_of row) j → SpellsCases kind ts i row j
  items_row end_of-CaseItem i j p = p
  items_row (more_of-CaseItem labels body rest) i j p = (p.1.at, p.0, labels_spelt kind ts i labels p.1.at p.1.labels, p.1.body.spelt, items_row rest p.0 j p.2)

  -- an item
  module _ (i depth : ℕ) where
    pub labels_refuse : (fault : ReadFault) → Refusal labels_height (ReadsLabels kind ts i) ts i depth fault → Refusal item_height (ReadsItem kind ts i) ts i depth fault
    labels_refuse fault r =
        passes labels_height (ReadsLabels kind ts i) item_height (ReadsItem kind ts i) ts i depth i depth 0
        (λ x j q. record { part = x.labels; end = q.at; holds = q.labels; lower = omega arith }) (omega arith) (omega arith) fault r

    module _ (l : ParsedLabels) (rl : IsLabels kind ts i depth l) where
      pub body_refuses : (fault : ReadFault) → RefusesStmt ts l.end depth fault → Refusal item_height (ReadsItem kind ts i) ts i depth fault
      body_refuses fault r =
          passes stmt_height (ReadsStmt ts l.end) item_height (ReadsItem kind ts i) ts l.end depth i depth 0
          (λ x j q. record {
            part = x.body;
            end = j;
            holds = subst (λ z. ReadsStmt ts z x.body j) (unique_labels kind ts i x.labels q.at l.labels l.end q.labels rl.reads).1 q.body;
            lower = omega arith;
          })
          (omega (arith, labels_within kind ts i l.labels l.end rl.reads)) (omega arith) fault r

      pub item_read : (p : ParsedStmt) → IsStmt ts l.end depth p → (new : ParsedItem) → new.item ≡ case_of l.labels p.tree → new.defaults ≡ l.defaults → new.height ≡ max l.height p.height → new.end ≡ p.end
          → IsItem kind ts i depth new
      item_read p r new is d h end = record {
        defaults_is = d ∙ (rl.defaults_is ∙ sym (ap (λ z. defaults_in z.labels) is));
        reads = subst (λ z. ReadsItem kind ts i z new.end) (sym is) (record { at = l.end; labels = rl.reads; body = subst (λ z. ReadsStmt ts l.end p.tree z) (sym end) r.reads });
        height_is = omega (arith, h, rl.height_is, r.height_is, ap item_height is);
        low = omega (arith, h, rl.low, r.low);
      }

  -- what is read of the items so far
  pub record Begun_cases (i depth : ℕ) (items : List CaseItem) (tall end defaults : ℕ) : Type 0 where
    pub reads : Sequence (ReadsItem kind ts) i items end
    pub height_is : tall ≡ highest item_height items
    pub low : tall ≤ depth
    pub past : i ≤ end
    pub counted : defaults_of items ≡ defaults
    pub one : defaults ≤ 1

  module _ (i depth : ℕ) where
    pub cases_begin : Begun_cases i depth [] 0 i 0
    cases_begin = record { reads = refl; height_is = refl; low = omega arith; past = omega arith; counted = refl; one = omega arith }

    -- none at all
    pub cases_empty : IsWord ts i (codes "endcase") → (xs : List CaseItem) (j : ℕ) → ReadsCases kind ts i xs j → ⊥
    cases_empty here [] j q = omega (arith, q.items, q.some)
    cases_empty here (x ∷ xs) j q = item_no_stop i x q.items.0 q.items.1 here

    module _ (items : List CaseItem) (tall end defaults : ℕ) (g : Begun_cases i depth items tall end defaults) where
      pub case_refuses : (IsWord ts end (codes "endcase") → ⊥) → (fault : ReadFault) → Refusal item_height (ReadsItem kind ts end) ts end depth fault
          → Refusal (highest item_height) (ReadsCases kind ts i) ts i depth fault
      case_refuses open_ fault r =
          passes item_height (ReadsItem kind ts end) (highest item_height) (ReadsCases kind ts i) ts end depth i depth 0
          (λ ys j q. let o = next item_height (λ z. IsWord ts z (codes "endcase")) (ReadsItem kind ts) unique_item item_no_stop items i end g.reads open_ ys j q.items q.ends in
          record { part = o.0; end = o.1; holds = o.2; lower = omega (arith, o.3) })
          (omega (arith, g.past)) (omega arith) fault r

      -- a second `default`
      pub second_default : (IsWord ts end (codes "endcase") → ⊥) → (p : ParsedItem) → IsItem kind ts end depth p → 1 < defaults + p.defaults → (ys : List CaseItem) (j : ℕ)
          → ReadsCases kind ts i ys j → ⊥
      second_default open_ p r many ys j q =
          let o = rest item_height (λ z. IsWord ts z (codes "endcase")) (ReadsItem kind ts) unique_item item_no_stop items ys i end j g.reads q.items q.ends in by o.0 o.1 o.2
        where
          by : (xs : List CaseItem) → Sequence (ReadsItem kind ts) end xs j → ys ≡ items ++ xs → ⊥
          by [] u e = open_ (subst (λ z. IsWord ts z (codes "endcase")) (sym u) q.ends)
          by (x ∷ xs) u e =
              omega (
                arith,
                many,
                q.one_default,
                ap defaults_of e,
                defaults-append items (x ∷ xs),
                g.counted,
                r.defaults_is,
                ap (λ z. defaults_in z.labels) (unique_item end x u.0 p.item p.end u.1 r.reads).0,
              )

      pub few : (p : ParsedItem) → IsItem kind ts end depth p → defaults + p.defaults ≤ 2
      few p r = omega (arith, g.one, r.defaults_is, few_defaults p.item.labels)

      pub cases_end : IsWord ts end (codes "endcase") → i < end → (new : ParsedCases) → new.items ≡ items → new.end ≡ end → new.height ≡ tall → IsCases kind ts i depth new
      cases_end last some new is at h = record {
        reads = subst (λ z. ReadsCases kind ts i z new.end) (sym is) (subst (λ z. ReadsCases kind ts i items z) (sym at) (record {
          items = g.reads;
          ends = last;
          one_default = omega (arith, g.counted, g.one);
          some = some;
        }));
        height_is = omega (arith, h, g.height_is, ap (highest item_height) is);
        low = omega (arith, h, g.low);
      }

      pub cases_grow : (p : ParsedItem) → IsItem kind ts end depth p → (new : List CaseItem) → new ≡ items ++ p.item ∷ [] → (tall' : ℕ) → tall' ≡ max tall p.height
          → (sum : ℕ) → sum ≡ defaults + p.defaults → sum ≤ 1 → Begun_cases i depth new tall' p.end sum
      cases_grow p r new is tall' h sum total one = record {
        reads = subst (λ z. Sequence (ReadsItem kind ts) i z p.end) (sym is) (sequence_snoc (ReadsItem kind ts) items i end p.item p.end g.reads r.reads);
        height_is = omega (arith, h, g.height_is, r.height_is, ap (highest item_height) is, highest-append item_height items (p.item ∷ []));
        low = omega (arith, h, g.low, r.low);
        past = omega (arith, g.past, (item_span end p.item p.end r.reads).0);
        counted = omega (arith, ap defaults_of is, defaults-append items (p.item ∷ []), total, g.counted, r.defaults_is);
        one = one;
      }

-- a case statement
head_case : (kind : CaseKind) (ts : List Token) (i : ℕ) → IsWord ts i (case_word kind) → head_at ts i ≡ choice kind
head_case c.Case ts i p = ap by_kind p
head_case c.Casez ts i p = ap by_kind p

module _ (kind : CaseKind) (ts : List Token) (i depth : ℕ) (positive : 0 < depth) (here : IsWord ts i (case_word kind)) where
  case_form : (a : Stmt) (j : ℕ) → ReadsStmt ts i a j → CaseForm ts kind i a j
  case_form a j r = formed_as ts i a j (choice kind) r.spelt (head_case kind ts i here)

  case_header : (a : Stmt) (j : ℕ) (g : CaseForm ts kind i a j) → ReadsHeader ts i g.value (g.at + 1)
  case_header a j g = record { opens = g.open_; at = g.at; reads = tree_at ts (i + 2) g.value g.at g.spells_value (stops_paren false ts g.at g.close); closes = g.close; end_is = refl }

  case_reads : (a : Stmt) (j : ℕ) (g : CaseForm ts kind i a j) → ReadsCases kind ts (g.at + 1) (cases_of g.row) g.last
  case_reads a j g = record {
    items = row_items kind ts g.row (g.at + 1) g.last g.spells_row g.end_word;
    ends = g.end_word;
    one_default = omega (arith, g.one_default, defaults_is g.row);
    some = g.some;
  }

  pub value_refuses : (fault : ReadFault) → Refusal height (ReadsHeader ts i) ts (i + 1) (depth - 1) fault → RefusesStmt ts i depth fault
  value_refuses fault r =
      passes height (ReadsHeader ts i) stmt_height (ReadsStmt ts i) ts (i + 1) (depth - 1) i depth 1
      (λ a j q. let g = case_form a j q in record { part = g.value; end = g.at + 1; holds = case_header a j g; lower = omega (arith, ap stmt_height g.is) })
      (omega arith) (omega arith) fault r

  module _ (v : Parsed) (rv : IsHeader ts i (depth - 1) v) where
    pub cases_refuse : (fault : ReadFault) → Refusal (highest item_height) (ReadsCases kind ts v.end) ts v.end (depth - 1) fault → RefusesStmt ts i depth fault
    cases_refuse fault r =
        passes (highest item_height) (ReadsCases kind ts v.end) stmt_height (ReadsStmt ts i) ts v.end (depth - 1) i depth 1
        (λ a j q. let g = case_form a j q in record {
          part = cases_of g.row;
          end = g.last;
          holds = subst (λ z. ReadsCases kind ts z (cases_of g.row) g.last) (same_header ts i g.value (g.at + 1) v.tree v.end (case_header a j g) rv.reads) (case_reads a j g);
          lower = omega (arith, ap stmt_height g.is, heights_is g.row);
        })
        (omega (arith, header_past ts i (depth - 1) v rv)) (omega arith) fault r

    pub case_read : (p : ParsedCases) → IsCases kind ts v.end (depth - 1) p → (new : ParsedStmt) → new.tree ≡ s.Case kind v.tree p.items → new.end ≡ p.end + 1
        → new.height ≡ max v.height p.height + 1 → IsStmt ts i depth new
    case_read p r new tree end h = record {
      reads = subst (λ a. ReadsStmt ts i a new.end) (sym tree) (record {
        spelt = (
          rv.reads.at,
          p.end,
          here,
          rv.reads.opens,
          rv.reads.reads.spelt,
          rv.reads.closes,
          subst (λ z. SpellsCases kind ts z (hidden-the_row-CaseItem-2 p.items) p.end) rv.reads.end_is
              (items_row kind ts (hidden-the_row-CaseItem-2 p.items) v.end p.end (subst (λ z. Sequence (ReadsItem kind ts) v.end z p.end) (sym (list_of-hidden p.items)) r.reads.items)),
          omega (arith, r.reads.one_default, defaults_is (hidden-the_row-CaseItem-2 p.items), ap defaults_of (list_of-hidden p.items)),
          omega (arith, r.reads.some, rv.reads.end_is),
          r.reads.ends,
          end,
        );
        ends = λ w o. o;
      });
      height_is = omega (arith, h, rv.height_is, r.height_is, ap stmt_height tree, heights_is (hidden-the_row-CaseItem-2 p.items), ap (highest item_height) (list_of-hidden p.items));
      low = omega (arith, h, rv.low, r.low);
    }
