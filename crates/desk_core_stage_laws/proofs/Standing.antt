-- Where no fault stands, the texts of a scope are fit.
use Rattle.std.proofs.Common.{◌≡◌, ◌<◌, ◌≤◌, nat_lt, Bool, true, false, List, [], ◌∷◌, ◌++◌, Option, Some, None, map, sym, refl, subst, inl, inr, ⊎_elim, arith}
use Rattle.std.specs.Prelude.{pos, ◌≤ℤ◌}
use Rattle.std.specs.List.{flat_map}
use Rattle.std.proofs.lemmas.Bool.{ltb-true, ltb-false}
use Rattle.vlog_tree.specs.declared.expr.Expr.{Expr, Row_of-Expr, end_of-Expr, more_of-Expr}
use Rattle.vlog_tree.specs.declared.expr.Expr.TheVariants as e
use Rattle.vlog_tree.specs.declared.expr.Span.{Span}
use Rattle.vlog_tree.specs.declared.expr.Span.TheVariants as w
use Rattle.vlog_tree.specs.declared.item.Assign.{Assign}
use Rattle.vlog_tree.specs.declared.item.Range.{Range}
use Rattle.vlog_tree.specs.declared.module.Module.{Module}
use Rattle.vlog_tree.specs.declared.stmt.Lval.{Lval, Row_of-Lval, end_of-Lval, more_of-Lval}
use Rattle.vlog_tree.specs.declared.stmt.Lval.TheVariants as l
use Rattle.vlog_tree.specs.declared.stmt.Stmt.{Stmt, Row_of-Stmt, end_of-Stmt, more_of-Stmt, Row_of-CaseItem, end_of-CaseItem, more_of-CaseItem}
use Rattle.vlog_tree.specs.declared.stmt.Stmt.TheVariants as s
use Rattle.vlog_tree.specs.Valuation.{IsLength}
use Rattle.vlog_tree.specs.Value.{operand_of, own_integer, NamesOnly, AllNamesOnly, IsFormed}
use Rattle.vlog_tree_runs.specs.Places.{Name, Among, Place, pieces, total}
use Rattle.vlog_tree_runs.specs.Blocks.{is_parameter, exprs_in, lefts, row_lefts, case_lefts, left_names, row_names}
use Rattle.vlog_tree_runs.specs.Contents.{Decl, decls_in, signals_in, port_names, assigns_in, Block, blocks_in, Inner, instances_in}
use Rattle.vlog_tree_runs.specs.Scopes.{Scope, scope_at, place_of, child, range_width, width_in, depth_in, Given, given_to, decl_at, left_of, signal_of}
use Rattle.elab_flat_laws.specs.Uses.{has_signal, is_declared, UsesDeclared, AllUseDeclared, AssignsSignals, AllAssignSignals, IsDeclared, AreDeclared, AreItemsDeclared}
use Rattle.elab_flat_laws.proofs.Lists.{bool_cases, among_append, append_left, append_right, among_map, map_among, flat_among}
use Rattle.elab_flat_faults.specs.declared.flattening.FlatFault.{FlatFault}
use Rattle.elab_flat_faults.specs.declared.flattening.FlatFault.TheVariants as f
use Rattle.elab_flat_faults.specs.Texts.{Compared, names_in, row_names_in, numbers_in, row_numbers_in, stores_in, row_stores_in, case_stores_in, alone_in, row_alone_in, case_alone_in, compared_in, row_compared_in, case_compared_in, all_labels_in}
use Rattle.elab_flat_faults.specs.Constants.{at_rest, Taken, alone, stored, assigned_to, compared, IsBoundDefined, HasConstantNumbers, AllHaveConstantNumbers, IsSpanConstant, HasConstantSpans, AllHaveConstantSpans, AreSpansDefined, AllSpansDefined, IsOrdered, IsFromZero, bounds_of, BreaksBounds, BreaksRange, BreaksWords, InRange}
use Rattle.elab_flat_faults.specs.FlatStands.{path_name, full, assigns_taken, block_taken, port_taken, port_left, inner_taken, inner_lefts, all_taken, fixed_lefts, block_lefts, BreaksConstant, BreaksWidth, Stands}
use Rattle.desk_core_stage_laws.specs.Fit.{IsFit, IsFitLeft, AreFit}
use Rattle.desk_core_stage_laws.proofs.Stable as stable

-- ---- names

mutual
  names_pass : (test : Name → Bool) (a : Expr) → NamesOnly test a → (x : Name) → Among (names_in a) x → test x ≡ true
  names_pass test (e.Number n) d x h = absurd h
  names_pass test (e.Name y) d x h = ⊎_elim (λ (i : y.text ≡ x). subst (λ z. test z ≡ true) i d) (λ n. absurd n) h
  names_pass test (e.Select' y p (more_of-Expr a end_of-Expr)) d x h = ⊎_elim (λ (i : y.text ≡ x). subst (λ z. test z ≡ true) i d.0) (λ n. names_pass test a d.1 x n) h
  names_pass test (e.Part' y span p (more_of-Expr a end_of-Expr) q (more_of-Expr b end_of-Expr)) d x h =
      ⊎_elim (λ (i : y.text ≡ x). subst (λ z. test z ≡ true) i d.0)
      (λ n. ⊎_elim (λ k. names_pass test a d.1 x k) (λ k. names_pass test b d.2 x k) (among_append (names_in a) (names_in b) x n)) h
  names_pass test (e.ConstantSelect' k p (more_of-Expr a end_of-Expr)) d x h = names_pass test a d x h
  names_pass test (e.ConstantPart' k span p (more_of-Expr a end_of-Expr) q (more_of-Expr b end_of-Expr)) d x h =
      ⊎_elim (λ k. names_pass test a d.0 x k) (λ k. names_pass test b d.1 x k) (among_append (names_in a) (names_in b) x h)
  names_pass test (e.Cast' cast p (more_of-Expr a end_of-Expr)) d x h = names_pass test a d x h
  names_pass test (e.Paren' p (more_of-Expr a end_of-Expr)) d x h = names_pass test a d x h
  names_pass test (e.Concat' p row) d x h = row_pass test row d x h
  names_pass test (e.Repeat' p (more_of-Expr a end_of-Expr) q row) d x h =
      ⊎_elim (λ k. names_pass test a d.0 x k) (λ k. row_pass test row d.1 x k) (among_append (names_in a) (row_names_in row) x h)
  names_pass test (e.Unary' op p (more_of-Expr a end_of-Expr)) d x h = names_pass test a d x h
  names_pass test (e.Binary' op p (more_of-Expr a end_of-Expr) q (more_of-Expr b end_of-Expr)) d x h =
      ⊎_elim (λ k. names_pass test a d.0 x k) (λ k. names_pass test b d.1 x k) (among_append (names_in a) (names_in b) x h)
  names_pass test (e.Choice' p (more_of-Expr c end_of-Expr) q (more_of-Expr a end_of-Expr) i (more_of-Expr b end_of-Expr)) d x h =
      ⊎_elim (λ n. ⊎_elim (λ k. names_pass test c d.0 x k) (λ k. names_pass test a d.1 x k) (among_append (names_in c) (names_in a) x n))
      (λ k. names_pass test b d.2 x k) (among_append (names_in c ++ names_in a) (names_in b) x h)

  row_pass : {m : _} (test : Name → Bool) (row : Row_of-Expr m) → AllNamesOnly test row → (x : Name) → Among (row_names_in row) x → test x ≡ true
  row_pass test end_of-Expr d x h = absurd h
  row_pass test (more_of-Expr a rest) d x h =
      ⊎_elim (λ k. names_pass test a d.0 x k) (λ k. row_pass test rest d.1 x k) (among_append (names_in a) (row_names_in rest) x h)

mutual
  pub names_are : (p : Place) (left : Lval) → AssignsSignals p left → (x : Name) → Among (left_names left) x → has_signal p.signals x ≡ true
  names_are p (l.Name y) d x h = ⊎_elim (λ (i : y ≡ x). subst (λ z. has_signal p.signals z ≡ true) i d.1) (λ n. absurd n) h
  names_are p (l.Select y a) d x h = ⊎_elim (λ (i : y ≡ x). subst (λ z. has_signal p.signals z ≡ true) i d.0.1) (λ n. absurd n) h
  names_are p (l.Part y span a b) d x h = ⊎_elim (λ (i : y ≡ x). subst (λ z. has_signal p.signals z ≡ true) i d.0.1) (λ n. absurd n) h
  names_are p (l.Concat' q row) d x h = row_are p row d x h

  row_are : {m : _} (p : Place) (row : Row_of-Lval m) → AllAssignSignals p row → (x : Name) → Among (row_names row) x → has_signal p.signals x ≡ true
  row_are p end_of-Lval d x h = absurd h
  row_are p (more_of-Lval a rest) d x h = ⊎_elim (λ k. names_are p a d.0 x k) (λ k. row_are p rest d.1 x k) (among_append (left_names a) (row_names rest) x h)

-- the numbers of a left side use declared names
mutual
  pub numbers_use : (p : Place) (left : Lval) → AssignsSignals p left → (a : Expr) → Among (numbers_in left) a → UsesDeclared p a
  numbers_use p (l.Name x) d a h = absurd h
  numbers_use p (l.Select x b) d a h = ⊎_elim (λ (i : b ≡ a). subst (λ z. UsesDeclared p z) i d.1) (λ n. absurd n) h
  numbers_use p (l.Part x span b c) d a h =
      ⊎_elim (λ (i : b ≡ a). subst (λ z. UsesDeclared p z) i d.1) (λ k. ⊎_elim (λ (i : c ≡ a). subst (λ z. UsesDeclared p z) i d.2) (λ n. absurd n) k) h
  numbers_use p (l.Concat' q row) d a h = row_use p row d a h

  row_use : {m : _} (p : Place) (row : Row_of-Lval m) → AllAssignSignals p row → (a : Expr) → Among (row_numbers_in row) a → UsesDeclared p a
  row_use p end_of-Lval d a h = absurd h
  row_use p (more_of-Lval b rest) d a h = ⊎_elim (λ k. numbers_use p b d.0 a k) (λ k. row_use p rest d.1 a k) (among_append (numbers_in b) (row_numbers_in rest) a h)

-- ---- constant numbers

span_of : (test : Name → Bool) (span : Span) (a b : Expr) → NamesOnly test a → NamesOnly test b → IsSpanConstant test span a b
span_of test w.Fixed a b h k = (h, k)
span_of test w.Up a b h k = k
span_of test w.Down a b h k = k

mutual
  pub numbers_span : (test : Name → Bool) (left : Lval) → HasConstantNumbers test left → HasConstantSpans test left
  numbers_span test (l.Name x) h = tt
  numbers_span test (l.Select x a) h = tt
  numbers_span test (l.Part x span a b) h = span_of test span a b h.0 h.1
  numbers_span test (l.Concat' q row) h = row_span test row h

  row_span : {m : _} (test : Name → Bool) (row : Row_of-Lval m) → AllHaveConstantNumbers test row → AllHaveConstantSpans test row
  row_span test end_of-Lval h = tt
  row_span test (more_of-Lval a rest) h = (numbers_span test a h.0, row_span test rest h.1)

mutual
  pub number_constant : (test : Name → Bool) (left : Lval) → HasConstantNumbers test left → (a : Expr) → Among (numbers_in left) a → NamesOnly test a
  number_constant test (l.Name x) h a n = absurd n
  number_constant test (l.Select x b) h a n = ⊎_elim (λ (i : b ≡ a). subst (λ z. NamesOnly test z) i h) (λ n. absurd n) n
  number_constant test (l.Part x span b c) h a n =
      ⊎_elim (λ (i : b ≡ a). subst (λ z. NamesOnly test z) i h.0) (λ k. ⊎_elim (λ (i : c ≡ a). subst (λ z. NamesOnly test z) i h.1) (λ n. absurd n) k) n
  number_constant test (l.Concat' q row) h a n = row_constant test row h a n

  row_constant : {m : _} (test : Name → Bool) (row : Row_of-Lval m) → AllHaveConstantNumbers test row → (a : Expr) → Among (row_numbers_in row) a → NamesOnly test a
  row_constant test end_of-Lval h a n = absurd n
  row_constant test (more_of-Lval b rest) h a n =
      ⊎_elim (λ k. number_constant test b h.0 a k) (λ k. row_constant test rest h.1 a k) (among_append (numbers_in b) (row_numbers_in rest) a n)

-- ---- divisors in spans

bound_of : (p : Place) (span : Span) (a b : Expr) → IsFit p (alone (at_rest p) a) → IsFit p (alone (at_rest p) b) → IsBoundDefined (at_rest p) span a b
bound_of p w.Fixed a b h k = (λ i. h.defined, λ i. k.defined)
bound_of p w.Up a b h k = λ i. k.defined
bound_of p w.Down a b h k = λ i. k.defined

mutual
  spans_defined : (p : Place) (left : Lval) → ((a : Expr) → Among (numbers_in left) a → IsFit p (alone (at_rest p) a)) → AreSpansDefined (at_rest p) left
  spans_defined p (l.Name x) h = tt
  spans_defined p (l.Select x a) h = tt
  spans_defined p (l.Part x span a b) h = bound_of p span a b (h a (inl refl)) (h b (inr (inl refl)))
  spans_defined p (l.Concat' q row) h = row_defined p row h

  row_defined : {m : _} (p : Place) (row : Row_of-Lval m) → ((a : Expr) → Among (row_numbers_in row) a → IsFit p (alone (at_rest p) a)) → AllSpansDefined (at_rest p) row
  row_defined p end_of-Lval h = tt
  row_defined p (more_of-Lval a rest) h = (
    spans_defined p a (λ b n. h b (append_left (numbers_in a) (row_numbers_in rest) b n)),
    row_defined p rest (λ b n. h b (append_right (numbers_in a) (row_numbers_in rest) b n)),
  )

-- ---- the texts of a block use declared names

record AreUsing (p : Place) (stores : List Assign) (singles : List Expr) (cases : List Compared) (sides : List Lval) : Type 0 where
  assigned : (a : Assign) → Among stores a → UsesDeclared p a.right
  single : (a : Expr) → Among singles a → UsesDeclared p a
  matched : (k : Compared) → Among cases k → AllUseDeclared p (k.value ∷ k.labels)
  left_sides : (left : Lval) → Among sides left → AssignsSignals p left

joined : (p : Place) (as' cs : List Assign) (bs ds : List Expr) (es gs : List Compared) (hs is : List Lval) → AreUsing p as' bs es hs → AreUsing p cs ds gs is →
    AreUsing p (as' ++ cs) (bs ++ ds) (es ++ gs) (hs ++ is)
joined p as' cs bs ds es gs hs is u v = record {
  assigned = λ a n. ⊎_elim (λ k. u.assigned a k) (λ k. v.assigned a k) (among_append as' cs a n);
  single = λ a n. ⊎_elim (λ k. u.single a k) (λ k. v.single a k) (among_append bs ds a n);
  matched = λ a n. ⊎_elim (λ k. u.matched a k) (λ k. v.matched a k) (among_append es gs a n);
  left_sides = λ a n. ⊎_elim (λ k. u.left_sides a k) (λ k. v.left_sides a k) (among_append hs is a n);
}

nothing_used : (p : Place) → AreUsing p [] [] [] []
nothing_used p = record { assigned = λ a n. absurd n; single = λ a n. absurd n; matched = λ a n. absurd n; left_sides = λ a n. absurd n }

with_condition : (p : Place) (x : Expr) (as' : List Assign) (bs : List Expr) (es : List Compared) (hs : List Lval) → UsesDeclared p x → AreUsing p as' bs es hs → AreUsing p as' (x ∷ bs) es hs
with_condition p x as' bs es hs d u = record {
  assigned = u.assigned;
  single = λ a n. ⊎_elim (λ (i : x ≡ a). subst (λ z. UsesDeclared p z) i d) (λ k. u.single a k) n;
  matched = u.matched;
  left_sides = u.left_sides;
}

with_case : (p : Place) (x : Compared) (as' : List Assign) (bs : List Expr) (es : List Compared) (hs : List Lval) → AllUseDeclared p (x.value ∷ x.labels) → AreUsing p as' bs es hs → AreUsing p as' bs (x ∷ es) hs
with_case p x as' bs es hs d u = record {
  assigned = u.assigned;
  single = u.single;
  matched = λ a n. ⊎_elim (λ (i : x ≡ a). subst (λ (z : Compared). AllUseDeclared p (z.value ∷ z.labels)) i d) (λ k. u.matched a k) n;
  left_sides = u.left_sides;
}

one_store : (p : Place) (left : Lval) (right : Expr) → AssignsSignals p left → UsesDeclared p right → AreUsing p (record { left = left; right = right } ∷ []) (numbers_in left) [] (left ∷ [])
one_store p left right d u = record {
  assigned = λ a n. ⊎_elim (λ (i : record { left = left; right = right } ≡ a). subst (λ (z : Assign). UsesDeclared p z.right) i u) (λ k. absurd k) n;
  single = λ a n. numbers_use p left d a n;
  matched = λ a n. absurd n;
  left_sides = λ a n. ⊎_elim (λ (i : left ≡ a). subst (λ z. AssignsSignals p z) i d) (λ k. absurd k) n;
}

all_append : (p : Place) (xs ys : List Expr) → AllUseDeclared p xs → AllUseDeclared p ys → AllUseDeclared p (xs ++ ys)
all_append p [] ys h k = k
all_append p (x ∷ xs) ys h k = (h.0, all_append p xs ys h.1 k)

pub labels_declared : {n : _} (p : Place) (row : Row_of-CaseItem n) → AreItemsDeclared p row → AllUseDeclared p (all_labels_in row)
labels_declared p end_of-CaseItem d = tt
labels_declared p (more_of-CaseItem labels body rest) d = all_append p (exprs_in labels) (all_labels_in rest) d.0 (labels_declared p rest d.2)

mutual
  body_uses : (p : Place) (body : Stmt) → IsDeclared p body → AreUsing p (stores_in body) (alone_in body) (compared_in body) (lefts body)
  body_uses p s.Empty d = nothing_used p
  body_uses p (s.Block' n h row) d = row_uses p row d
  body_uses p (s.If' a h (more_of-Stmt x end_of-Stmt)) d = with_condition p a (stores_in x) (alone_in x) (compared_in x) (lefts x) d.0 (body_uses p x d.1)
  body_uses p (s.IfElse' a h (more_of-Stmt x end_of-Stmt) g (more_of-Stmt y end_of-Stmt)) d =
      with_condition p a (stores_in x ++ stores_in y) (alone_in x ++ alone_in y) (compared_in x ++ compared_in y) (lefts x ++ lefts y) d.0
      (joined p (stores_in x) (stores_in y) (alone_in x) (alone_in y) (compared_in x) (compared_in y) (lefts x) (lefts y) (body_uses p x d.1) (body_uses p y d.2))
  body_uses p (s.Case' kind a h row) d =
      with_case p (record { value = a; labels = all_labels_in row }) (case_stores_in row) (case_alone_in row) (case_compared_in row) (case_lefts row) (d.0, labels_declared p row d.1) (items_use p row d.1)
  body_uses p (s.Blocking left right) d = one_store p left right d.0 d.1
  body_uses p (s.Nonblocking left right) d = one_store p left right d.0 d.1

  row_uses : {n : _} (p : Place) (row : Row_of-Stmt n) → AreDeclared p row → AreUsing p (row_stores_in row) (row_alone_in row) (row_compared_in row) (row_lefts row)
  row_uses p end_of-Stmt d = nothing_used p
  row_uses p (more_of-Stmt a rest) d =
      joined p (stores_in a) (row_stores_in rest) (alone_in a) (row_alone_in rest) (compared_in a) (row_compared_in rest) (lefts a) (row_lefts rest) (body_uses p a d.0) (row_uses p rest d.1)

  items_use : {n : _} (p : Place) (row : Row_of-CaseItem n) → AreItemsDeclared p row → AreUsing p (case_stores_in row) (case_alone_in row) (case_compared_in row) (case_lefts row)
  items_use p end_of-CaseItem d = nothing_used p
  items_use p (more_of-CaseItem labels body rest) d =
      joined p (stores_in body) (case_stores_in rest) (alone_in body) (case_alone_in rest) (compared_in body) (case_compared_in rest) (lefts body) (case_lefts rest) (body_uses p body d.1) (items_use p rest d.2)

-- so do the left sides of its assignments
pub lefts_use : (p : Place) (body : Stmt) → IsDeclared p body → (left : Lval) → Among (lefts body) left → AssignsSignals p left
lefts_use p body d left h = (body_uses p body d).left_sides left h

-- each of those that are compared is one of the expressions
compared_uses : (p : Place) (k : Compared) → AllUseDeclared p (k.value ∷ k.labels) → (t : Taken) → Among (compared (at_rest p) k) t → NamesOnly (is_declared p) t.value
compared_uses p k d t h =
    let r = among_map _ (k.value ∷ k.labels) t h in
    subst (λ (z : Taken). NamesOnly (is_declared p) z.value) r.2 (one_of (k.value ∷ k.labels) d r.0 r.1).0
  where
    one_of : (xs : List Expr) → AllUseDeclared p xs → (x : Expr) → Among xs x → UsesDeclared p x
    one_of [] d x h = absurd h
    one_of (y ∷ ys) d x h = ⊎_elim (λ (i : y ≡ x). subst (λ z. UsesDeclared p z) i d.0) (λ k. one_of ys d.1 x k) h

-- the numbers of a left side in a block stand in it by themselves
mutual
  left_numbers : (body : Stmt) (left : Lval) (a : Expr) → Among (lefts body) left → Among (numbers_in left) a → Among (alone_in body) a
  left_numbers s.Empty left a h k = absurd h
  left_numbers (s.Block' n q row) left a h k = row_left_numbers row left a h k
  left_numbers (s.If' c q (more_of-Stmt x end_of-Stmt)) left a h k = inr (left_numbers x left a h k)
  left_numbers (s.IfElse' c q (more_of-Stmt x end_of-Stmt) g (more_of-Stmt y end_of-Stmt)) left a h k =
      inr (⊎_elim (λ n. append_left (alone_in x) (alone_in y) a (left_numbers x left a n k)) (λ n. append_right (alone_in x) (alone_in y) a (left_numbers y left a n k))
      (among_append (lefts x) (lefts y) left h))
  left_numbers (s.Case' kind c q row) left a h k = case_left_numbers row left a h k
  left_numbers (s.Blocking to from) left a h k = ⊎_elim (λ (i : to ≡ left). subst (λ z. Among (numbers_in z) a) (sym i) k) (λ n. absurd n) h
  left_numbers (s.Nonblocking to from) left a h k = ⊎_elim (λ (i : to ≡ left). subst (λ z. Among (numbers_in z) a) (sym i) k) (λ n. absurd n) h

  row_left_numbers : {m : _} (row : Row_of-Stmt m) (left : Lval) (a : Expr) → Among (row_lefts row) left → Among (numbers_in left) a → Among (row_alone_in row) a
  row_left_numbers end_of-Stmt left a h k = absurd h
  row_left_numbers (more_of-Stmt x rest) left a h k =
      ⊎_elim (λ n. append_left (alone_in x) (row_alone_in rest) a (left_numbers x left a n k)) (λ n. append_right (alone_in x) (row_alone_in rest) a (row_left_numbers rest left a n k))
      (among_append (lefts x) (row_lefts rest) left h)

  case_left_numbers : {m : _} (row : Row_of-CaseItem m) (left : Lval) (a : Expr) → Among (case_lefts row) left → Among (numbers_in left) a → Among (case_alone_in row) a
  case_left_numbers end_of-CaseItem left a h k = absurd h
  case_left_numbers (more_of-CaseItem labels body rest) left a h k =
      ⊎_elim (λ n. append_left (alone_in body) (case_alone_in rest) a (left_numbers body left a n k)) (λ n. append_right (alone_in body) (case_alone_in rest) a (case_left_numbers rest left a n k))
      (among_append (lefts body) (case_lefts rest) left h)

-- ---- a scope in which no fault stands

module _ (ms : List Module) (top : Name) (none : (fault : FlatFault) → Stands ms top fault → ⊥) (s : Scope) (path : List Name) (at : scope_at ms top path ≡ Some s) where
  abbrev p : Place
  p = place_of s

  no_constant : (n : Name) → BreaksConstant ms (path_name top path) s n → ⊥
  no_constant n b = none (f.Constant n) (path, s, at, b)

  no_width : (n : Name) → BreaksWidth ms (path_name top path) s n → ⊥
  no_width n b = none (f.Width n) (path, s, at, b)

  abbrev test : Name → Bool
  test = is_parameter p

  abbrev here : Name
  here = path_name top path

  -- an expression in its place
  taken_fit : (t : Taken) → Among (all_taken ms s) t → NamesOnly (is_declared p) t.value → IsFit p t
  taken_fit t n d =
      let constant = stable.constant_parts test t.value (λ no. no_constant here (inr (inr (inr (inl (t, n, inl no, refl)))))) in
      let divisors = stable.divisors (at_rest p) t (λ no. no_constant here (inr (inr (inr (inl (t, n, inr (constant, no), refl)))))) in
      let formed = stable.formed (at_rest p) t.value (λ no. no_width here (inr (inr (inr (inl (t, n, names_pass (is_declared p) t.value d, (constant, divisors.0, no), refl)))))) in
      record { constant = constant; formed = formed; defined = divisors.1 formed }

  -- a left side whose spans are constant
  side_fit : (left : Lval) → Among (fixed_lefts ms s ++ block_lefts s) left → AssignsSignals p left → HasConstantSpans test left →
      ((a : Expr) → Among (numbers_in left) a → IsFit p (alone (at_rest p) a)) → IsFitLeft p left
  side_fit left n d spans numbers =
      let defined = spans_defined p left numbers in
      let names : (x : Name) → Among (left_names left) x → has_signal p.signals x ≡ true = names_are p left d in
      record {
        spans = spans;
        formed = stable.left_formed (at_rest p) left (λ no. no_width here (inr (inr (inr (inr (left, n, names, spans, defined, inl no, refl))))));
        length = stable.length (total (pieces p (λ x. 0) left)) (λ no. no_width here (inr (inr (inr (inr (left, n, names, spans, defined, inr no, refl))))));
      }

  -- that of an equation has constant numbers
  pub fixed_numbers : (left : Lval) → Among (fixed_lefts ms s) left → HasConstantNumbers test left
  fixed_numbers left n = stable.constant_numbers test left (λ no. no_constant here (inr (inr (inr (inr (left, inl (n, no), refl))))))

  pub fixed_fit : (left : Lval) → Among (fixed_lefts ms s) left → AssignsSignals p left → ((a : Expr) → Among (numbers_in left) a → IsFit p (alone (at_rest p) a)) → IsFitLeft p left
  fixed_fit left n d numbers = side_fit left (append_left (fixed_lefts ms s) (block_lefts s) left n) d (numbers_span test left (fixed_numbers left n)) numbers

  block_side : (left : Lval) → Among (block_lefts s) left → AssignsSignals p left → ((a : Expr) → Among (numbers_in left) a → IsFit p (alone (at_rest p) a)) → IsFitLeft p left
  block_side left n d numbers =
      side_fit left (append_right (fixed_lefts ms s) (block_lefts s) left n) d
      (stable.constant_spans test left (λ no. no_constant here (inr (inr (inr (inr (left, inr (n, no), refl))))))) numbers

  -- ---- assignments

  pub own_number : (a : Assign) → Among (assigns_in s.module') a → (n : Expr) → Among (numbers_in a.left) n → UsesDeclared p n → IsFit p (alone (at_rest p) n)
  own_number a m n k d =
      let taken = inr (map_among (alone (at_rest p)) (numbers_in a.left) n k) in
      taken_fit (alone (at_rest p) n)
      (append_left (assigns_taken s ++ flat_map (block_taken s) (blocks_in s.module')) (flat_map (λ i. inner_taken s i (child ms s i)) (instances_in s.module')) (alone (at_rest p) n)
      (append_left (assigns_taken s) (flat_map (block_taken s) (blocks_in s.module')) (alone (at_rest p) n)
      (flat_among (λ a. assigned_to p a ∷ map (alone (at_rest p)) (numbers_in a.left)) (assigns_in s.module') a (alone (at_rest p) n) m taken))) d.0

  pub own_right : (a : Assign) → Among (assigns_in s.module') a → UsesDeclared p a.right → IsFit p (assigned_to p a)
  own_right a m d =
      taken_fit (assigned_to p a)
      (append_left (assigns_taken s ++ flat_map (block_taken s) (blocks_in s.module')) (flat_map (λ i. inner_taken s i (child ms s i)) (instances_in s.module')) (assigned_to p a)
      (append_left (assigns_taken s) (flat_map (block_taken s) (blocks_in s.module')) (assigned_to p a)
      (flat_among (λ a. assigned_to p a ∷ map (alone (at_rest p)) (numbers_in a.left)) (assigns_in s.module') a (assigned_to p a) m (inl refl)))) d.0

  pub own_left : (a : Assign) → Among (assigns_in s.module') a → Among (fixed_lefts ms s) a.left
  own_left a m = append_left (map (λ (z : Assign). z.left) (assigns_in s.module')) (flat_map (λ i. inner_lefts i (child ms s i)) (instances_in s.module')) a.left (map_among (λ (z : Assign). z.left) (assigns_in s.module') a m)

  -- ---- blocks

  in_block : (k : Block) → Among (blocks_in s.module') k → (t : Taken) → Among (block_taken s k) t → Among (all_taken ms s) t
  in_block k m t n =
      append_left (assigns_taken s ++ flat_map (block_taken s) (blocks_in s.module')) (flat_map (λ i. inner_taken s i (child ms s i)) (instances_in s.module')) t
      (append_right (assigns_taken s) (flat_map (block_taken s) (blocks_in s.module')) t (flat_among (block_taken s) (blocks_in s.module') k t m n))

  module _ (k : Block) (m : Among (blocks_in s.module') k) (d : IsDeclared p k.body) where
    abbrev right_sides : List Taken
    right_sides = map (assigned_to p) (stores_in k.body)

    abbrev singles : List Taken
    singles = map (alone (at_rest p)) (alone_in k.body)

    abbrev cases : List Taken
    cases = flat_map (compared (at_rest p)) (compared_in k.body)

    uses : AreUsing p (stores_in k.body) (alone_in k.body) (compared_in k.body) (lefts k.body)
    uses = body_uses p k.body d

    right_fit : (a : Assign) → Among (stores_in k.body) a → IsFit p (assigned_to p a)
    right_fit a n =
        let t = map_among (assigned_to p) (stores_in k.body) a n in
        taken_fit (assigned_to p a) (in_block k m (assigned_to p a) (append_left (right_sides ++ singles) cases (assigned_to p a) (append_left right_sides singles (assigned_to p a) t))) (uses.assigned a n).0

    single_fit : (a : Expr) → Among (alone_in k.body) a → IsFit p (alone (at_rest p) a)
    single_fit a n =
        let t = map_among (alone (at_rest p)) (alone_in k.body) a n in
        let x = alone (at_rest p) a in
        taken_fit x (in_block k m x (append_left (right_sides ++ singles) cases x (append_right right_sides singles x t))) (uses.single a n).0

    case_fit : (c : Compared) (t : Taken) → Among (compared_in k.body) c → Among (compared (at_rest p) c) t → IsFit p t
    case_fit c t n i =
        taken_fit t (in_block k m t (append_right (right_sides ++ singles) cases t (flat_among (compared (at_rest p)) (compared_in k.body) c t n i)))
        (compared_uses p c (uses.matched c n) t i)

    pub block_fit : AreFit p (stores_in k.body) (alone_in k.body) (compared_in k.body) (lefts k.body)
    block_fit = record {
      assigned = right_fit;
      single = single_fit;
      matched = case_fit;
      left_sides = λ left n. block_side left (flat_among (λ (z : Block). lefts z.body) (blocks_in s.module') k left m n) (uses.left_sides left n) (λ a h. single_fit a (left_numbers k.body left a n h));
    }

  -- ---- connections

  module _ (i : Inner) (m : Among (instances_in s.module') i) (t : Scope) (e : child ms s i ≡ Some t) (d : Given) (n : Among (given_to (port_names t.module') i.args) d) where
    in_port : (x : Taken) → Among (port_taken s t d (decl_at (signals_in t.module') d.name)) x → Among (all_taken ms s) x
    in_port x k =
        let one = flat_among (λ (z : Given). port_taken s t z (decl_at (signals_in t.module') z.name)) (given_to (port_names t.module') i.args) d x n k in
        append_right (assigns_taken s ++ flat_map (block_taken s) (blocks_in s.module')) (flat_map (λ j. inner_taken s j (child ms s j)) (instances_in s.module')) x
        (flat_among (λ j. inner_taken s j (child ms s j)) (instances_in s.module') i x m (subst (λ o. Among (inner_taken s i o) x) (sym e) one))

    module _ (port : Decl) (declared : decl_at (signals_in t.module') d.name ≡ Some port) where
      pub input_fit : port.input ≡ true → UsesDeclared p d.value → IsFit p (stored (at_rest p) (signal_of t.params port).width d.value)
      input_fit h u =
          let x = stored (at_rest p) (signal_of t.params port).width d.value in
          taken_fit x (in_port x (rw (declared, h) (inl refl))) u.0

      pub output_number : port.input ≡ false → (a : Expr) → Among (numbers_in (left_of d.value)) a → UsesDeclared p a → IsFit p (alone (at_rest p) a)
      output_number h a k u =
          let x = alone (at_rest p) a in
          taken_fit x (in_port x (rw (declared, h) (map_among (alone (at_rest p)) (numbers_in (left_of d.value)) a k))) u.0

      pub output_left : port.input ≡ false → Among (fixed_lefts ms s) (left_of d.value)
      output_left h =
          let left = left_of d.value in
          let k : Among (port_left d (decl_at (signals_in t.module') d.name)) left = rw (declared, h) (inl refl) in
          let one = flat_among (λ (z : Given). port_left z (decl_at (signals_in t.module') z.name)) (given_to (port_names t.module') i.args) d left n k in
          append_right (map (λ (z : Assign). z.left) (assigns_in s.module')) (flat_map (λ j. inner_lefts j (child ms s j)) (instances_in s.module')) left
          (flat_among (λ j. inner_lefts j (child ms s j)) (instances_in s.module') i left m (subst (λ o. Among (inner_lefts i o) left) (sym e) one))

  -- ---- declarations

  module _ (d : Decl) (m : Among (decls_in s.module') d) where
    in_range : (P : Range → Type 0) (x : Range) → d.shape.range ≡ Some x → P x → InRange P d.shape.range
    in_range P x e h = subst (InRange P) (sym e) h

    module _ (x : Range) (e : d.shape.range ≡ Some x) where
      bound_formed : (t : Taken) → Among (bounds_of s.params x) t → IsFormed s.params t.value
      bound_formed t n =
          let names = stable.names test t.value (λ no. no_constant (full s d.name) (inl (d, m, refl, inl (in_range (BreaksBounds IsOrdered test s.params) x e (inl (t, n, inl no)))))) in
          let divisors = stable.divisors s.params t (λ no. no_constant (full s d.name) (inl (d, m, refl, inl (in_range (BreaksBounds IsOrdered test s.params) x e (inl (t, n, inr (names, no))))))) in
          stable.formed s.params t.value (λ no. no_width (full s d.name) (inl (d, m, refl, inl (in_range (BreaksRange test s.params) x e (inl (t, n, (names, divisors.0, no)))))))

      range_wide : IsLength (range_width s.params x)
      range_wide =
          let forms : IsFormed s.params x.high × IsFormed s.params x.low = (bound_formed (alone s.params x.high) (inl refl), bound_formed (alone s.params x.low) (inr (inl refl))) in
          let low = own_integer (operand_of s.params x.low) in
          let high = own_integer (operand_of s.params x.high) in
          let order : IsOrdered s.params x = stable.both (pos 0 ≤ℤ low) (low ≤ℤ high) (stable.int_at_most (pos 0) low) (stable.int_at_most low high)
          (λ no. no_constant (full s d.name) (inl (d, m, refl, inl (in_range (BreaksBounds IsOrdered test s.params) x e (inr (forms, no)))))) in
          stable.length (range_width s.params x) (λ no. no_width (full s d.name) (inl (d, m, refl, inl (in_range (BreaksRange test s.params) x e (inr (forms, order, no))))))

    wide_by : (o : Option Range) → d.shape.range ≡ o → IsLength (width_in o 1 s.params)
    wide_by None e = (omega arith, omega arith)
    wide_by (Some x) e = range_wide x e

    pub decl_wide : IsLength (width_in d.shape.range 1 s.params)
    decl_wide = wide_by d.shape.range refl

    -- ---- words

    in_words : (P : Range → Type 0) (x : Range) → d.words ≡ Some x → P x → InRange P d.words
    in_words P x e h = subst (InRange P) (sym e) h

    module _ (x : Range) (e : d.words ≡ Some x) where
      words_formed : (t : Taken) → Among (bounds_of s.params x) t → IsFormed s.params t.value
      words_formed t n =
          let names = stable.names test t.value (λ no. no_constant (full s d.name) (inl (d, m, refl, inr (in_words (BreaksBounds IsFromZero test s.params) x e (inl (t, n, inl no)))))) in
          let divisors = stable.divisors s.params t (λ no. no_constant (full s d.name) (inl (d, m, refl, inr (in_words (BreaksBounds IsFromZero test s.params) x e (inl (t, n, inr (names, no))))))) in
          stable.formed s.params t.value (λ no. no_width (full s d.name) (inl (d, m, refl, inr (in_words (BreaksWords test s.params) x e (inl (t, n, (names, divisors.0, no)))))))

      -- there aren't more than 64
      words_not_many : 64 < depth_in (Some x) s.params → ⊥
      words_not_many more =
          let forms : IsFormed s.params x.high × IsFormed s.params x.low = (words_formed (alone s.params x.high) (inl refl), words_formed (alone s.params x.low) (inr (inl refl))) in
          no_constant (full s d.name) (inl (
            d,
            m,
            refl,
            inr (in_words (BreaksBounds IsFromZero test s.params) x e (inr (
              forms,
              λ zero.
                  no_width (full s d.name) (inl (d, m, refl, inr (in_words (BreaksWords test s.params) x e (inr (forms, zero, more))))),
            ))),
          ))

    words_few : (o : Option Range) → d.words ≡ o → depth_in o s.params ≤ 64
    words_few None e = omega arith
    words_few (Some x) e =
        let n = depth_in (Some x) s.params in
        ⊎_elim (λ (t : nat_lt 64 n ≡ true). absurd (words_not_many x e (ltb-true 64 n t))) (λ (t : nat_lt 64 n ≡ false). ltb-false 64 n t) (bool_cases (nat_lt 64 n))

    pub decl_shallow : depth_in d.words s.params ≤ 64
    decl_shallow = words_few d.words refl
