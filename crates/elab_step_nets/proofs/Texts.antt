-- Texts that can be taken where they stand use declared names.
use Rattle.std.proofs.Common.{◌≡◌, true, false, List, [], ◌∷◌, ◌++◌, Option, Some, None, refl, sym, ap, ◌∙◌, subst, inl, inr, ⊎_elim}
use Rattle.std.specs.Prelude.{IsSomeAnd}
use Rattle.std.specs.Option.{option_map}
use Rattle.std.specs.List.{flat_map}
use Rattle.std.specs.Str.{bytes_eq}
use Rattle.std.proofs.lemmas.Slice.Eq.{bytes_eq-Decides}
use Rattle.vlog_tree.specs.declared.expr.Expr.{Expr}
use Rattle.vlog_tree.specs.declared.stmt.Lval.{Lval, Row_of-Lval, end_of-Lval, more_of-Lval}
use Rattle.vlog_tree.specs.declared.stmt.Lval.TheVariants as l
use Rattle.vlog_tree.specs.declared.stmt.Stmt.{Stmt, Row_of-Stmt, end_of-Stmt, more_of-Stmt, Row_of-CaseItem, end_of-CaseItem, more_of-CaseItem}
use Rattle.vlog_tree.specs.declared.stmt.Stmt.TheVariants as s
use Rattle.vlog_tree.specs.declared.valuation.Entry.{Entry}
use Rattle.vlog_tree.specs.Valuation.{IsLength, entry_at, meant}
use Rattle.vlog_tree.specs.Value.{HasConstantParts, Stands}
use Rattle.vlog_tree_runs.specs.declared.flat.Flat.{Flat}
use Rattle.vlog_tree_runs.specs.declared.flat.Signal.{Signal}
use Rattle.vlog_tree_runs.specs.Places.{Name, Cycle, Among, read, entries_of, held_entry}
use Rattle.vlog_tree_runs.specs.Blocks.{lefts, row_lefts, case_lefts, left_names, row_names}
use Rattle.elab_flat_laws.proofs.Lists.{among_append, among_flat}
use Rattle.elab_flat_faults.specs.Texts.{Compared, compared_in, row_compared_in, case_compared_in}
use Rattle.elab_step_expr.specs.Terms.{nothing}
use Rattle.elab_step_blocks.specs.Ready.{IsReadyLeft, AreReadyLefts, IsReadyStore, IsReadyStmt, AreReadyStmts, AreReadyItems}
use Rattle.elab_step_nets.specs.Solving.{ArePlain}
use Rattle.elab_step_nets.specs.Asked.{at_rest, CanElaborate}
use Rattle.elab_step_nets.proofs.Solving.{bool_cases}
use Rattle.elab_step_nets.proofs.Fitting.{one_entry}
use Rattle.elab_step_nets.proofs.Elaborating.{IsText}

-- ---- a name that stands for something is that of a signal

found_signal : (gs : List Signal) (c : Cycle) (x : Name) (e : Entry) → ArePlain gs → entry_at (flat_map (entries_of [] c) gs) x 0 ≡ Some e → (g : Signal) × Among gs g × (g.name ≡ x)
found_signal [] c x e z h = cc
found_signal (g ∷ gs) c x e z h =
    ⊎_elim
    (λ (t : bytes_eq g.name x ≡ true). (g, inl refl, (bytes_eq-Decides g.name x).0 t))
    (λ (t : bytes_eq g.name x ≡ false).
    let k : entry_at ((held_entry [] c g ∷ []) ++ flat_map (entries_of [] c) gs) x 0 ≡ Some e = ap (λ es. entry_at (es ++ flat_map (entries_of [] c) gs) x 0) (sym (one_entry g c z.0)) ∙ h in
    let r = found_signal gs c x e z.1 (rw t at k) in (r.0, inr r.1, r.2))
    (bool_cases (bytes_eq g.name x))

stands_signal : (gs : List Signal) (c : Cycle) (x : Name) → ArePlain gs → Stands (flat_map (entries_of [] c) gs) (read x) → (g : Signal) × Among gs g × (g.name ≡ x)
stands_signal gs c x z h = by (entry_at (flat_map (entries_of [] c) gs) x 0) refl h
  where
    by : (o : Option Entry) → entry_at (flat_map (entries_of [] c) gs) x 0 ≡ o → IsSomeAnd (option_map meant o) (λ k. IsLength k.width) → (g : Signal) × Among gs g × (g.name ≡ x)
    by None e k = absurd k
    by (Some u) e k = found_signal gs c x u z e

-- ---- left sides

one : (v : List Entry) (x y : Name) → Stands v (read y) → Among (y ∷ []) x → Stands v (read x)
one v x y h m = ⊎_elim (λ (e : y ≡ x). subst (λ z. Stands v (read z)) e h) (λ n. absurd n) m

mutual
  left_stands : (v : List Entry) (left : Lval) (x : Name) → IsReadyLeft v left → Among (left_names left) x → Stands v (read x)
  left_stands v (l.Name y) x h m = one v x y h m
  left_stands v (l.Select y a) x h m = one v x y h.0 m
  left_stands v (l.Part y span a b) x h m = one v x y h.0 m
  left_stands v (l.Concat' h row) x r m = row_stands v row x r m

  row_stands : {m : _} (v : List Entry) (row : Row_of-Lval m) (x : Name) → AreReadyLefts v row → Among (row_names row) x → Stands v (read x)
  row_stands v end_of-Lval x h m = absurd m
  row_stands v (more_of-Lval a rest) x h m =
      ⊎_elim (λ n. left_stands v a x h.0 n) (λ n. row_stands v rest x h.1 n) (among_append (left_names a) (row_names rest) x m)

-- ---- statements

store_ready : (v : List Entry) (to : Lval) (from : Expr) (left : Lval) → IsReadyStore v to from → Among (to ∷ []) left → IsReadyLeft v left
store_ready v to from left h m = ⊎_elim (λ (e : to ≡ left). subst (λ z. IsReadyLeft v z) e h.left_side) (λ n. absurd n) m

mutual
  lefts_ready : (v : List Entry) (body : Stmt) (left : Lval) → IsReadyStmt v body → Among (lefts body) left → IsReadyLeft v left
  lefts_ready v s.Empty left h m = absurd m
  lefts_ready v (s.Block' n k row) left h m = row_lefts_ready v row left h m
  lefts_ready v (s.If' a k (more_of-Stmt body end_of-Stmt)) left h m = lefts_ready v body left h.1 m
  lefts_ready v (s.IfElse' a k (more_of-Stmt body end_of-Stmt) g (more_of-Stmt other end_of-Stmt)) left h m =
      ⊎_elim (λ n. lefts_ready v body left h.1 n) (λ n. lefts_ready v other left h.2 n) (among_append (lefts body) (lefts other) left m)
  lefts_ready v (s.Case' kind a k row) left h m = case_lefts_ready v row left h.1 m
  lefts_ready v (s.Blocking to from) left h m = store_ready v to from left h m
  lefts_ready v (s.Nonblocking to from) left h m = store_ready v to from left h m

  row_lefts_ready : {m : _} (v : List Entry) (row : Row_of-Stmt m) (left : Lval) → AreReadyStmts v row → Among (row_lefts row) left → IsReadyLeft v left
  row_lefts_ready v end_of-Stmt left h m = absurd m
  row_lefts_ready v (more_of-Stmt a rest) left h m =
      ⊎_elim (λ n. lefts_ready v a left h.0 n) (λ n. row_lefts_ready v rest left h.1 n) (among_append (lefts a) (row_lefts rest) left m)

  case_lefts_ready : {m : _} (v : List Entry) (row : Row_of-CaseItem m) (left : Lval) → AreReadyItems v row → Among (case_lefts row) left → IsReadyLeft v left
  case_lefts_ready v end_of-CaseItem left h m = absurd m
  case_lefts_ready v (more_of-CaseItem labels body rest) left h m =
      ⊎_elim (λ n. lefts_ready v body left h.0 n) (λ n. case_lefts_ready v rest left h.1 n) (among_append (lefts body) (case_lefts rest) left m)

mutual
  subjects_constant : (v : List Entry) (body : Stmt) (k : Compared) → IsReadyStmt v body → Among (compared_in body) k → HasConstantParts nothing k.value
  subjects_constant v s.Empty k h m = absurd m
  subjects_constant v (s.Block' n q row) k h m = row_constant v row k h m
  subjects_constant v (s.If' a q (more_of-Stmt body end_of-Stmt)) k h m = subjects_constant v body k h.1 m
  subjects_constant v (s.IfElse' a q (more_of-Stmt body end_of-Stmt) g (more_of-Stmt other end_of-Stmt)) k h m =
      ⊎_elim (λ n. subjects_constant v body k h.1 n) (λ n. subjects_constant v other k h.2 n) (among_append (compared_in body) (compared_in other) k m)
  subjects_constant v (s.Case' kind a q row) k h m =
      ⊎_elim (λ e. let P : Compared → Type 0 = λ z. HasConstantParts nothing z.value in subst P e h.0.0.constant) (λ n. case_constant v row k h.1 n) m
  subjects_constant v (s.Blocking to from) k h m = absurd m
  subjects_constant v (s.Nonblocking to from) k h m = absurd m

  row_constant : {m : _} (v : List Entry) (row : Row_of-Stmt m) (k : Compared) → AreReadyStmts v row → Among (row_compared_in row) k → HasConstantParts nothing k.value
  row_constant v end_of-Stmt k h m = absurd m
  row_constant v (more_of-Stmt a rest) k h m =
      ⊎_elim (λ n. subjects_constant v a k h.0 n) (λ n. row_constant v rest k h.1 n) (among_append (compared_in a) (row_compared_in rest) k m)

  case_constant : {m : _} (v : List Entry) (row : Row_of-CaseItem m) (k : Compared) → AreReadyItems v row → Among (case_compared_in row) k → HasConstantParts nothing k.value
  case_constant v end_of-CaseItem k h m = absurd m
  case_constant v (more_of-CaseItem labels body rest) k h m =
      ⊎_elim (λ n. subjects_constant v body k h.0 n) (λ n. case_constant v rest k h.1 n) (among_append (compared_in body) (case_compared_in rest) k m)

pub text_is : (f : Flat) → CanElaborate f → IsText f
text_is f can = record {
  distinct = can.distinct;
  plain = can.plain;
  constant = can.constant;
  subjects = λ k m c n. subjects_constant (at_rest f) k.body c (can.blocks k m) n;
  assigned = λ a x m n. stands_signal f.signals (λ y. 0) x can.plain (left_stands (at_rest f) a.left x (can.assigns a m).left_side n);
  blocked = λ k x m n.
      let r = among_flat left_names (lefts k.body) x n in
      stands_signal f.signals (λ y. 0) x can.plain (left_stands (at_rest f) r.0 x (lefts_ready (at_rest f) k.body r.0 (can.blocks k m) r.1) r.2);
}
