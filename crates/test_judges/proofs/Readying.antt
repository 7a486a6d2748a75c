-- The numbers in left sides that can be taken where they stand have values by themselves where they are constant.
use Rattle.std.proofs.Common.{◌≡◌, Bool, true, false, IsTrue, List, [], ◌∷◌, refl, subst, inl, inr, ⊎_elim}
use Rattle.vlog_tree.specs.declared.expr.Expr.{Expr, Row_of-Expr, end_of-Expr, more_of-Expr}
use Rattle.vlog_tree.specs.declared.expr.Expr.TheVariants as e
use Rattle.vlog_tree.specs.declared.item.Assign.{Assign}
use Rattle.vlog_tree.specs.declared.stmt.Lval.{Lval, Row_of-Lval, end_of-Lval, more_of-Lval}
use Rattle.vlog_tree.specs.declared.stmt.Lval.TheVariants as l
use Rattle.vlog_tree.specs.declared.stmt.Stmt.{Stmt, Row_of-Stmt, end_of-Stmt, more_of-Stmt, Row_of-CaseItem, end_of-CaseItem, more_of-CaseItem}
use Rattle.vlog_tree.specs.declared.stmt.Stmt.TheVariants as s
use Rattle.vlog_tree.specs.declared.valuation.Entry.{Entry}
use Rattle.vlog_tree.specs.Valuation.{IsLength}
use Rattle.vlog_tree.specs.Value.{Operand, own_defined, part_of, repeated, IsFormed, AllFormed, IsPart, NamesOnly, AllNamesOnly}
use Rattle.vlog_tree_runs.specs.declared.flat.Flat.{Flat}
use Rattle.vlog_tree_runs.specs.Places.{Among}
use Rattle.vlog_tree_runs.specs.Blocks.{lefts, row_lefts, case_lefts}
use Rattle.elab_flat_laws.proofs.Lists.{among_append, among_flat}
use Rattle.elab_flat_faults.specs.Drivers.{parts_of, row_parts_of}
use Rattle.elab_flat_drivers.specs.Claims.{nothing, IsEvaluable, IsPartReady}
use Rattle.elab_step_expr.proofs.Alike.{constant_same, constant_rows}
use Rattle.elab_step_blocks.specs.Ready.{IsSingle, IsReadyLeft, AreReadyLefts, IsReadyStore, IsReadyStmt, AreReadyStmts, AreReadyItems}
use Rattle.elab_step_nets.specs.Asked.{CanElaborate, at_rest}
use Rattle.test_judges.specs.Driving.{ArePartsReady, body_parts, block_parts, assign_parts, net_parts, clocked_parts}
use Rattle.test_judges.proofs.Driven.{chosen}

-- ---- a constant expression is well formed whatever names stand for

both : (P : Operand → Operand → Type 0) (x y z w : Operand) → x ≡ y → z ≡ w → P x z → P y w
both P x y z w p q h = subst (λ t. P y t) q (subst (λ t. P t z) p h)

mutual
  formed : (v u : List Entry) (a : Expr) → NamesOnly nothing a → IsFormed v a → IsFormed u a
  formed v u (e.Number n) d f = f
  formed v u (e.Name x) d f = let z : false ≡ true = d in cc
  formed v u (e.Select' x h (more_of-Expr a end_of-Expr)) d f = let z : false ≡ true = d.0 in cc
  formed v u (e.Part' x span h (more_of-Expr a end_of-Expr) g (more_of-Expr b end_of-Expr)) d f = let z : false ≡ true = d.0 in cc
  formed v u (e.ConstantSelect' k h (more_of-Expr a end_of-Expr)) d f = (f.0, formed v u a d f.1)
  formed v u (e.ConstantPart' k span h (more_of-Expr a end_of-Expr) g (more_of-Expr b end_of-Expr)) d f =
      let p = constant_same v u a d.0 in
      let q = constant_same v u b d.1 in
      let P : Operand → Operand → Type 0 = λ x y. IsPart k span x y in
      let Q : Operand → Operand → Type 0 = λ x y. IsLength (part_of k span x y).width in
      (f.0, formed v u a d.0 f.1, formed v u b d.1 f.2, both P _ _ _ _ p q f.3, both Q _ _ _ _ p q f.4)
  formed v u (e.Cast' cast h (more_of-Expr a end_of-Expr)) d f = formed v u a d f
  formed v u (e.Paren' h (more_of-Expr a end_of-Expr)) d f = formed v u a d f
  formed v u (e.Concat' h row) d f = (rows_formed v u row d f.0, subst (λ (z : Operand). IsLength z.width) (constant_rows v u row d) f.1)
  formed v u (e.Repeat' h (more_of-Expr a end_of-Expr) g row) d f =
      let p = constant_same v u a d.0 in
      let q = constant_rows v u row d.1 in
      let Q : Operand → Operand → Type 0 = λ x y. IsLength (repeated x y).width in
      (formed v u a d.0 f.0, subst (λ (z : Operand). IsTrue (own_defined z)) p f.1, rows_formed v u row d.1 f.2, both Q _ _ _ _ p q f.3)
  formed v u (e.Unary' op h (more_of-Expr a end_of-Expr)) d f = formed v u a d f
  formed v u (e.Binary' op h (more_of-Expr a end_of-Expr) g (more_of-Expr b end_of-Expr)) d f = (formed v u a d.0 f.0, formed v u b d.1 f.1)
  formed v u (e.Choice' h (more_of-Expr c end_of-Expr) g (more_of-Expr a end_of-Expr) i (more_of-Expr b end_of-Expr)) d f = (formed v u c d.0 f.0, formed v u a d.1 f.1, formed v u b d.2 f.2)

  rows_formed : {m : _} (v u : List Entry) (row : Row_of-Expr m) → AllNamesOnly nothing row → AllFormed v row → AllFormed u row
  rows_formed v u end_of-Expr d f = tt
  rows_formed v u (more_of-Expr a rest) d f = (formed v u a d.0 f.0, rows_formed v u rest d.1 f.1)

evaluable : (v : List Entry) (a : Expr) → IsSingle v a → IsEvaluable a
evaluable v a h n = (formed v [] a n h.formed, subst (λ (z : Operand). IsTrue (own_defined z)) (constant_same v [] a n) h.defined)

-- ---- left sides

mutual
  left_parts : (v : List Entry) (left q : Lval) → IsReadyLeft v left → Among (parts_of left) q → IsPartReady q
  left_parts v (l.Name x) q h (inl i) = subst IsPartReady i tt
  left_parts v (l.Name x) q h (inr n) = absurd n
  left_parts v (l.Select x a) q h (inl i) = subst IsPartReady i (evaluable v a h.1)
  left_parts v (l.Select x a) q h (inr n) = absurd n
  left_parts v (l.Part x span a b) q h (inl i) = subst IsPartReady i (evaluable v a h.1, evaluable v b h.2)
  left_parts v (l.Part x span a b) q h (inr n) = absurd n
  left_parts v (l.Concat' g row) q h n = row_parts v row q h n

  row_parts : {m : _} (v : List Entry) (row : Row_of-Lval m) (q : Lval) → AreReadyLefts v row → Among (row_parts_of row) q → IsPartReady q
  row_parts v end_of-Lval q h n = absurd n
  row_parts v (more_of-Lval a rest) q h n = ⊎_elim (λ k. left_parts v a q h.0 k) (λ k. row_parts v rest q h.1 k) (among_append (parts_of a) (row_parts_of rest) q n)

one_ready : (v : List Entry) (to : Lval) (from : Expr) (left : Lval) → IsReadyStore v to from → Among (to ∷ []) left → IsReadyLeft v left
one_ready v to from left h m = ⊎_elim (λ (e : to ≡ left). subst (λ z. IsReadyLeft v z) e h.left_side) (λ n. absurd n) m

mutual
  lefts_ready : (v : List Entry) (body : Stmt) (left : Lval) → IsReadyStmt v body → Among (lefts body) left → IsReadyLeft v left
  lefts_ready v s.Empty left h m = absurd m
  lefts_ready v (s.Block' n k row) left h m = row_ready v row left h m
  lefts_ready v (s.If' a k (more_of-Stmt body end_of-Stmt)) left h m = lefts_ready v body left h.1 m
  lefts_ready v (s.IfElse' a k (more_of-Stmt body end_of-Stmt) g (more_of-Stmt other end_of-Stmt)) left h m =
      ⊎_elim (λ n. lefts_ready v body left h.1 n) (λ n. lefts_ready v other left h.2 n) (among_append (lefts body) (lefts other) left m)
  lefts_ready v (s.Case' kind a k row) left h m = items_ready v row left h.1 m
  lefts_ready v (s.Blocking to from) left h m = one_ready v to from left h m
  lefts_ready v (s.Nonblocking to from) left h m = one_ready v to from left h m

  row_ready : {m : _} (v : List Entry) (row : Row_of-Stmt m) (left : Lval) → AreReadyStmts v row → Among (row_lefts row) left → IsReadyLeft v left
  row_ready v end_of-Stmt left h m = absurd m
  row_ready v (more_of-Stmt a rest) left h m = ⊎_elim (λ n. lefts_ready v a left h.0 n) (λ n. row_ready v rest left h.1 n) (among_append (lefts a) (row_lefts rest) left m)

  items_ready : {m : _} (v : List Entry) (row : Row_of-CaseItem m) (left : Lval) → AreReadyItems v row → Among (case_lefts row) left → IsReadyLeft v left
  items_ready v end_of-CaseItem left h m = absurd m
  items_ready v (more_of-CaseItem labels body rest) left h m = ⊎_elim (λ n. lefts_ready v body left h.0 n) (λ n. items_ready v rest left h.1 n) (among_append (lefts body) (case_lefts rest) left m)

-- ---- the parts of a module

all_ready : (qs : List Lval) → ((q : Lval) → Among qs q → IsPartReady q) → ArePartsReady qs
all_ready [] h = tt
all_ready (q ∷ qs) h = (h q (inl refl), all_ready qs (λ z n. h z (inr n)))

body_part : (v : List Entry) (body : Stmt) (q : Lval) → IsReadyStmt v body → Among (body_parts body) q → IsPartReady q
body_part v body q h n = let r = among_flat parts_of (lefts body) q n in left_parts v r.0 q (lefts_ready v body r.0 h r.1) r.2

pub body_ready : (v : List Entry) (body : Stmt) → IsReadyStmt v body → ArePartsReady (body_parts body)
body_ready v body h = all_ready (body_parts body) (λ q n. body_part v body q h n)

block_part : (f : Flat) (clocked : Bool) (q : Lval) → CanElaborate f → Among (block_parts clocked f.blocks) q → IsPartReady q
block_part f clocked q can n = let r = chosen clocked f.blocks q n in body_part (at_rest f) r.0.body q (can.blocks r.0 r.1) r.3

pub clocked_ready : (f : Flat) → CanElaborate f → ArePartsReady (clocked_parts f)
clocked_ready f can = all_ready (clocked_parts f) (λ q n. block_part f true q can n)

pub nets_ready : (f : Flat) → CanElaborate f → ArePartsReady (net_parts f)
nets_ready f can = all_ready (net_parts f) (λ q n.
    ⊎_elim (λ k. let r = among_flat (λ (a : Assign). parts_of a.left) f.assigns q k in left_parts (at_rest f) r.0.left q (can.assigns r.0 r.1).left_side r.2) (λ k. block_part f false q can k)
    (among_append (assign_parts f.assigns) (block_parts false f.blocks) q n))
