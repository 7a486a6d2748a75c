-- Statements and the items of case statements, one after another.
use Rattle.std.proofs.Common.{◌≡◌, ◌↔◌, ◌⊎◌, ℕ, ◌+◌, ◌≤◌, ◌<◌, inl, inr, List, [], ◌∷◌, ◌++◌, length, get_or, drop, refl, sym, ap, ◌∙◌, subst}
use Rattle.std.specs.Prelude.{IsTrue}
use Rattle.vlog_tree.specs.declared.expr.Expr.{Expr}
use Rattle.vlog_tree.specs.declared.stmt.CaseItem.{CaseItem}
use Rattle.vlog_tree.specs.declared.stmt.CaseKind.{CaseKind}
use Rattle.vlog_tree.specs.declared.stmt.Stmt.{Stmt, Row_of-Stmt, end_of-Stmt, more_of-Stmt, items-the_row-Stmt, items_hidden-the_row-Stmt-0, Row_of-CaseItem, end_of-CaseItem, more_of-CaseItem, items-the_row-CaseItem, items_hidden-the_row-CaseItem-2}
use Rattle.vlog_tree.specs.declared.stmt.Stmt.TheVariants as s
use Rattle.vlog_tree.specs.declared.stmt.Stmt.TheBlock.{shape-the_row-Stmt-1, hidden-the_row-Stmt-1, hidden-the_row-Stmt-0, hidden-the_row-CaseItem-2}
use Rattle.vlog_tree_runs.specs.declared.flat.Signal.{Signal}
use Rattle.vlog_tree_runs.specs.Blocks.{labels_in, is_default, exprs_in}
use Rattle.elab_flat_faults.specs.Paths.{HasDefault, IsFull}
use Rattle.elab_step_laws.specs.Laws.{place_over}
use Rattle.elab_step_flow.specs.Sets.{Tables}
use Rattle.elab_step_flow.specs.Cases.{at_rest, labels_of, AnyDefault, IsComparable}
use Rattle.elab_step_flow.specs.Passes.{MeetTo, EnterTo, LeadsPast, PastTo, LeadsPastEach, Passes, RowPasses, ItemsPass, EachPasses, EachItemPasses}
use Rattle.elab_step_flow.specs.Ready.{IsReady, AreReady, AreItemsReady, EachReady, EachItemReady}
use Rattle.elab_step_flow.proofs.Listing.{among_at}
use Rattle.elab_step_flow.proofs.Marking.{cut}
use denote.Hole.Carrier

-- ---- rows as lists

labels_row : {m : _} (row : Row_of-CaseItem m) → labels_in row ≡ labels_of (items-the_row-CaseItem m row)
labels_row end_of-CaseItem = refl
labels_row (more_of-CaseItem labels body rest) = ap (λ xs. exprs_in labels ++ xs) (labels_row rest)

default_row : {m : _} (row : Row_of-CaseItem m) → HasDefault row → AnyDefault (items-the_row-CaseItem m row)
default_row end_of-CaseItem h = absurd h
default_row (more_of-CaseItem labels body rest) (inl h) = (record { labels = labels; body = body }, inl refl, h)
default_row (more_of-CaseItem labels body rest) (inr h) = let r = default_row rest h in (r.0, inr r.1, r.2)

row_default : {m : _} (row : Row_of-CaseItem m) → AnyDefault (items-the_row-CaseItem m row) → HasDefault row
row_default end_of-CaseItem h = absurd h.1
row_default (more_of-CaseItem labels body rest) (i, inl e, h) = inl (subst (λ (z : CaseItem). IsTrue (is_default z.labels)) (sym e) h)
row_default (more_of-CaseItem labels body rest) (i, inr m, h) = inr (row_default rest (i, m, h))

module _ (gs : List Signal) where
  row_ready : {m : _} (row : Row_of-Stmt m) → AreReady gs row → EachReady gs (items-the_row-Stmt m row)
  row_ready end_of-Stmt h a m = absurd m
  row_ready (more_of-Stmt b rest) h a (inl e) = subst (λ z. IsReady gs z) e h.0
  row_ready (more_of-Stmt b rest) h a (inr m) = row_ready rest h.1 a m

  items_ready : {m : _} (row : Row_of-CaseItem m) → AreItemsReady gs row → EachItemReady gs (items-the_row-CaseItem m row)
  items_ready end_of-CaseItem h i m = absurd m
  items_ready (more_of-CaseItem labels body rest) h i (inl e) = subst (λ (z : CaseItem). IsReady gs z.body) e h.0
  items_ready (more_of-CaseItem labels body rest) h i (inr m) = items_ready rest h.1 i m

  row_passes : {m : _} (around : List ℕ) (row : Row_of-Stmt m) (v w : Tables) → EachPasses gs around (items-the_row-Stmt m row) v w → RowPasses gs around row v w
  row_passes around end_of-Stmt v w h = h
  row_passes around (more_of-Stmt a rest) v w (u, p, h) = (u, p, row_passes around rest u w h)

  items_pass : {m : _} (around : List ℕ) (row : Row_of-CaseItem m) (v : Tables) (us : List Tables) → EachItemPasses gs around (items-the_row-CaseItem m row) v us → ItemsPass gs around row v us
  items_pass around end_of-CaseItem v us h = h
  items_pass around (more_of-CaseItem labels body rest) v us (u, others, p, h, e) = (u, others, p, items_pass around rest v others h, e)

  -- ---- what is asked of the parts of a statement

  pub block_ready : (n : _) (xs : List Stmt) (tree : Stmt) → tree ≡ s.Block n xs → IsReady gs tree → EachReady gs xs
  block_ready n xs tree is h =
      let k : AreReady gs (hidden-the_row-Stmt-0 xs) = subst (λ z. IsReady gs z) is h in
      subst (λ z. EachReady gs z) (items_hidden-the_row-Stmt-0 xs) (row_ready (hidden-the_row-Stmt-0 xs) k)

  pub if_ready : (a : Expr) (body tree : Stmt) → tree ≡ s.If a body → IsReady gs tree → IsReady gs body
  unfolding shape-the_row-Stmt-1 hidden-the_row-Stmt-1 denote.Hole.Carrier.hidden
  if_ready a body tree is h = rw is at h

  pub if_else_ready : (a : Expr) (body other tree : Stmt) → tree ≡ s.IfElse a body other → IsReady gs tree → IsReady gs body × IsReady gs other
  unfolding shape-the_row-Stmt-1 hidden-the_row-Stmt-1 denote.Hole.Carrier.hidden
  if_else_ready a body other tree is h = rw is at h

  pub case_ready : (kind : CaseKind) (a : Expr) (xs : List CaseItem) (tree : Stmt) → tree ≡ s.Case kind a xs → IsReady gs tree → IsComparable (at_rest gs) a (labels_of xs) × EachItemReady gs xs
  case_ready kind a xs tree is h =
      let row = hidden-the_row-CaseItem-2 xs in
      let listed : items-the_row-CaseItem _ row ≡ xs = items_hidden-the_row-CaseItem-2 xs in
      let labels : labels_in row ≡ labels_of xs = labels_row row ∙ ap labels_of listed in
      let k : IsComparable (at_rest gs) a (labels_in row) × AreItemsReady gs row = subst (λ z. IsReady gs z) is h in
      (subst (λ (es : List Expr). IsComparable (at_rest gs) a es) labels k.0, subst (λ z. EachItemReady gs z) listed (items_ready row k.1))

  -- ---- statements by their parts

  pub block_passes : (around : List ℕ) (n : _) (xs ys : List Stmt) (tree : Stmt) (v w : Tables) → tree ≡ s.Block n xs → ys ≡ xs → EachPasses gs around ys v w → Passes gs around tree v w
  block_passes around n xs ys tree v w is same h =
      let k : RowPasses gs around (hidden-the_row-Stmt-0 xs) v w = row_passes around (hidden-the_row-Stmt-0 xs) v w (subst (λ z. EachPasses gs around z v w) (same ∙ sym (items_hidden-the_row-Stmt-0 xs)) h) in
      subst (λ z. Passes gs around z v w) (sym is) k

  pub if_passes : (around inner : List ℕ) (a : Expr) (body tree : Stmt) (v t u w : Tables) → tree ≡ s.If a body → EnterTo gs around (a ∷ []) v t inner → Passes gs inner body t u → MeetTo (u ∷ t ∷ []) w → Passes gs around tree v w
  unfolding shape-the_row-Stmt-1 hidden-the_row-Stmt-1 denote.Hole.Carrier.hidden
  if_passes around inner a body tree v t u w is e p j = subst (λ z. Passes gs around z v w) (sym is) (t, u, inner, e, p, j)

  pub if_else_passes : (around inner : List ℕ) (a : Expr) (body other tree : Stmt) (v t u u' w : Tables) → tree ≡ s.IfElse a body other → EnterTo gs around (a ∷ []) v t inner → Passes gs inner body t u → Passes gs inner other t u'
      → MeetTo (u ∷ u' ∷ []) w → Passes gs around tree v w
  unfolding shape-the_row-Stmt-1 hidden-the_row-Stmt-1 denote.Hole.Carrier.hidden
  if_else_passes around inner a body other tree v t u u' w is e p q j = subst (λ z. Passes gs around z v w) (sym is) (t, u, u', inner, e, p, q, j)

  -- a path leads past the items of a row where one leads past those of its list
  past_row : {m : _} (kind : CaseKind) (a : Expr) (row : Row_of-CaseItem m) → LeadsPastEach gs kind a (items-the_row-CaseItem m row) ↔ LeadsPast gs kind a row
  past_row {m} kind a row = (there, back)
    where
      there : LeadsPastEach gs kind a (items-the_row-CaseItem m row) → LeadsPast gs kind a row
      there k = (λ d. k.0 (default_row row d), λ d. k.1 (subst (λ es. IsFull (place_over gs) kind a es) (labels_row row) d))

      back : LeadsPast gs kind a row → LeadsPastEach gs kind a (items-the_row-CaseItem m row)
      back k = (λ d. k.0 (row_default row d), λ d. k.1 (subst (λ es. IsFull (place_over gs) kind a es) (sym (labels_row row)) d))

  -- what leads past the items of a list
  abbrev pub PastEach : CaseKind → Expr → List CaseItem → Tables → List Tables → Type 0
  PastEach kind a xs t past = (LeadsPastEach gs kind a xs × (past ≡ t ∷ [])) ⊎ ((LeadsPastEach gs kind a xs → ⊥) × (past ≡ []))

  pub case_passes : (around inner : List ℕ) (kind : CaseKind) (a : Expr) (xs : List CaseItem) (tree : Stmt) (v t : Tables) (us past : List Tables) (w : Tables) → tree ≡ s.Case kind a xs → EnterTo gs around (a ∷ labels_of xs) v t inner
      → PastEach kind a xs t past → EachItemPasses gs inner xs t us → MeetTo (us ++ past) w → Passes gs around tree v w
  case_passes around inner kind a xs tree v t us past w is e o h j =
      let row = hidden-the_row-CaseItem-2 xs in
      let listed : xs ≡ items-the_row-CaseItem _ row = sym (items_hidden-the_row-CaseItem-2 xs) in
      let labels : labels_of xs ≡ labels_in row = ap labels_of listed ∙ sym (labels_row row) in
      let enters : EnterTo gs around (a ∷ labels_in row) v t inner = subst (λ (es : List Expr). EnterTo gs around (a ∷ es) v t inner) labels e in
      let leads : PastTo gs kind a row t past = past_there row (subst (λ z. PastEach kind a z t past) listed o) in
      let items : ItemsPass gs inner row t us = items_pass inner row t us (subst (λ z. EachItemPasses gs inner z t us) listed h) in
      subst (λ z. Passes gs around z v w) (sym is) (t, us, past, inner, enters, leads, items, j)
    where
      past_there : {m : _} (row : Row_of-CaseItem m) → PastEach kind a (items-the_row-CaseItem m row) t past → PastTo gs kind a row t past
      past_there row (inl f) = inl ((past_row kind a row).0 f.0, f.1)
      past_there row (inr f) = inr (λ k. f.0 ((past_row kind a row).1 k), f.1)

  -- ---- one after another

  -- what the statements that are left lead to, all of them do
  abbrev pub Passing : List ℕ → List Stmt → List Stmt → Tables → Tables → Type 0
  Passing around all rest v now = (w : Tables) → EachPasses gs around rest now w → EachPasses gs around all v w

  pub passing_next : (around : List ℕ) (xs : List Stmt) (i : ℕ) (x : Stmt) (v now next : Tables) → i < length xs → x ≡ get_or xs i x → Passing around xs (drop i xs) v now → Passes gs around x now next → Passing around xs (drop (i + 1) xs) v next
  passing_next around xs i x v now next lt is h p w k = h w (subst (λ z. EachPasses gs around z now w) (sym (cut xs i x lt is)) (next, p, k))

  -- one more item
  pub items_more : (around : List ℕ) (xs : List CaseItem) (x : CaseItem) (v u : Tables) (us : List Tables) → EachItemPasses gs around xs v us → Passes gs around x.body v u → EachItemPasses gs around (xs ++ x ∷ []) v (us ++ u ∷ [])
  items_more around [] x v u us h p = (u, [], p, refl, ap (λ z. z ++ u ∷ []) h)
  items_more around (y ∷ xs) x v u us (w, others, q, h, e) p = (w, others ++ u ∷ [], q, items_more around xs x v u others h p, ap (λ z. z ++ u ∷ []) e)

pub each_ready : (gs : List Signal) (xs : List Stmt) (i : ℕ) (x : Stmt) → EachReady gs xs → i < length xs → x ≡ get_or xs i x → IsReady gs x
each_ready gs xs i x h lt is = h x (among_at xs i x lt is)

pub item_ready : (gs : List Signal) (xs : List CaseItem) (i : ℕ) (x : CaseItem) → EachItemReady gs xs → i < length xs → x ≡ get_or xs i x → IsReady gs x.body
item_ready gs xs i x h lt is = h x (among_at xs i x lt is)
