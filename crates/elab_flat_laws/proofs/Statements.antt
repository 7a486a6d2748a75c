-- A moved statement does what the statement does.
use Rattle.std.proofs.Common.{◌≡◌, ℕ, ◌&&◌, ◌||◌, max, Bool, nat_eq, List, [], ◌∷◌, ◌++◌, Option, Some, None, sym, ap, ◌∙◌, refl, map}
use Rattle.std.specs.Prelude.{if◌then◌else◌, bit_or}
use Rattle.std.specs.List.{list_any}
use Rattle.vlog_tree.specs.declared.expr.Constant.{Constant}
use Rattle.vlog_tree.specs.declared.expr.Expr.{Expr, end_of-Expr, more_of-Expr}
use Rattle.vlog_tree.specs.declared.expr.Expr.TheVariants as e
use Rattle.vlog_tree.specs.declared.expr.Name.{Name as Read}
use Rattle.vlog_tree.specs.declared.stmt.CaseKind.{CaseKind}
use Rattle.vlog_tree.specs.declared.stmt.CaseKind.TheVariants as c
use Rattle.vlog_tree.specs.declared.stmt.Labels.{Labels}
use Rattle.vlog_tree.specs.declared.stmt.Labels.TheVariants as b
use Rattle.vlog_tree.specs.declared.stmt.Stmt.{Stmt, Row_of-Stmt, end_of-Stmt, more_of-Stmt, Row_of-CaseItem, end_of-CaseItem, more_of-CaseItem}
use Rattle.vlog_tree.specs.declared.stmt.Stmt.TheVariants as s
use Rattle.vlog_tree.specs.declared.valuation.Entry.{Entry}
use Rattle.vlog_tree.specs.Valuation.{meaning_of}
use Rattle.vlog_tree.specs.Value.{own}
use Rattle.vlog_tree_runs.specs.Places.{Name, Cycle, Place, valuation}
use Rattle.vlog_tree_runs.specs.Blocks.{widest, all_signed, exprs_in, is_default, labels_in, case_width, case_sign, ignored, matches, any_matches, seen, run, run_row, run_items, run_default}
use Rattle.elab_flat_laws.specs.Moved.{moved, moved_name, moved_select, moved_part, moved_labels, moved_stmt, moved_stmts, moved_items}
use Rattle.elab_flat_laws.specs.Uses.{UsesDeclared, AllUseDeclared, IsDeclared, AreDeclared, AreItemsDeclared}
use Rattle.elab_flat_laws.specs.Laws.{MovesInto}
use Rattle.elab_flat_laws.proofs.Sides.{expr_moved, store_moved}

-- the bits that aren't compared stay the same
ignored_name : (pre : Name) (o : Option Constant) (x : Read) → ignored c.Casez (moved_name pre o x) ≡ 0
ignored_name pre None x = refl
ignored_name pre (Some k) x = refl

ignored_select : (pre : Name) (o : Option Constant) (x : Read) (a : Expr) → ignored c.Casez (moved_select pre o x a) ≡ 0
ignored_select pre None x a = refl
ignored_select pre (Some k) x a = refl

ignored_part : (pre : Name) (o : Option Constant) (x : Read) (span : _) (a b : Expr) → ignored c.Casez (moved_part pre o x span a b) ≡ 0
ignored_part pre None x span a b = refl
ignored_part pre (Some k) x span a b = refl

ignored_moved : (kind : CaseKind) (pre : Name) (ps : List Entry) (a : Expr) → ignored kind (moved pre ps a) ≡ ignored kind a
ignored_moved c.Case pre ps a = refl
ignored_moved c.Casez pre ps (e.Number n) = refl
ignored_moved c.Casez pre ps (e.Name x) = ignored_name pre (meaning_of ps x) x
ignored_moved c.Casez pre ps (e.Select' x h (more_of-Expr a end_of-Expr)) = ignored_select pre (meaning_of ps x) x (moved pre ps a)
ignored_moved c.Casez pre ps (e.Part' x span h (more_of-Expr a end_of-Expr) g (more_of-Expr b end_of-Expr)) = ignored_part pre (meaning_of ps x) x span (moved pre ps a) (moved pre ps b)
ignored_moved c.Casez pre ps (e.ConstantSelect' k h (more_of-Expr a end_of-Expr)) = refl
ignored_moved c.Casez pre ps (e.ConstantPart' k span h (more_of-Expr a end_of-Expr) g (more_of-Expr b end_of-Expr)) = refl
ignored_moved c.Casez pre ps (e.Cast' cast h (more_of-Expr a end_of-Expr)) = refl
ignored_moved c.Casez pre ps (e.Paren' h (more_of-Expr a end_of-Expr)) = refl
ignored_moved c.Casez pre ps (e.Concat' h row) = refl
ignored_moved c.Casez pre ps (e.Repeat' h (more_of-Expr a end_of-Expr) g row) = refl
ignored_moved c.Casez pre ps (e.Unary' op h (more_of-Expr a end_of-Expr)) = refl
ignored_moved c.Casez pre ps (e.Binary' op h (more_of-Expr a end_of-Expr) g (more_of-Expr b end_of-Expr)) = refl
ignored_moved c.Casez pre ps (e.Choice' h (more_of-Expr a end_of-Expr) g (more_of-Expr b end_of-Expr) i (more_of-Expr x end_of-Expr)) = refl

-- ---- labels

widest_moved : (p q : Place) (c : Cycle) (as' : List Expr) → MovesInto p q → AllUseDeclared p as' →
    widest (valuation q c) (map (moved p.prefix p.params) as') ≡ widest (valuation p c) as'
widest_moved p q c [] m d = refl
widest_moved p q c (a ∷ as') m d = λ r. max (expr_moved p q c a m d.0 r).width (widest_moved p q c as' m d.1 r)

signs_moved : (p q : Place) (c : Cycle) (as' : List Expr) → MovesInto p q → AllUseDeclared p as' →
    all_signed (valuation q c) (map (moved p.prefix p.params) as') ≡ all_signed (valuation p c) as'
signs_moved p q c [] m d = refl
signs_moved p q c (a ∷ as') m d = λ r. (expr_moved p q c a m d.0 r).signed && signs_moved p q c as' m d.1 r

exprs_moved : (pre : Name) (ps : List Entry) (labels : Labels) → exprs_in (moved_labels pre ps labels) ≡ map (moved pre ps) (exprs_in labels)
exprs_moved pre ps (b.Exprs as') = refl
exprs_moved pre ps b.Default = refl

default_moved : (pre : Name) (ps : List Entry) (labels : Labels) → is_default (moved_labels pre ps labels) ≡ is_default labels
default_moved pre ps (b.Exprs as') = refl
default_moved pre ps b.Default = refl

map_append : {A B : Type 0} (f : A → B) (xs ys : List A) → map f (xs ++ ys) ≡ map f xs ++ map f ys
map_append f [] ys = refl
map_append f (x ∷ xs) ys = ap (λ zs. f x ∷ zs) (map_append f xs ys)

labels_moved : {n : _} (pre : Name) (ps : List Entry) (row : Row_of-CaseItem n) → labels_in (moved_items pre ps row) ≡ map (moved pre ps) (labels_in row)
labels_moved pre ps end_of-CaseItem = refl
labels_moved pre ps (more_of-CaseItem labels body rest) =
    (λ r. exprs_moved pre ps labels r ++ labels_moved pre ps rest r) ∙ sym (map_append (moved pre ps) (exprs_in labels) (labels_in rest))

all_append : (p : Place) (xs ys : List Expr) → AllUseDeclared p xs → AllUseDeclared p ys → AllUseDeclared p (xs ++ ys)
all_append p [] ys h k = k
all_append p (x ∷ xs) ys h k = (h.0, all_append p xs ys h.1 k)

labels_declared : {n : _} (p : Place) (row : Row_of-CaseItem n) → AreItemsDeclared p row → AllUseDeclared p (labels_in row)
labels_declared p end_of-CaseItem d = tt
labels_declared p (more_of-CaseItem labels body rest) d = all_append p (exprs_in labels) (labels_in rest) d.0 (labels_declared p rest d.2)

any_moved : (p q : Place) (c : Cycle) (kind : CaseKind) (n : ℕ) (signed : Bool) (a : Expr) (as' : List Expr) → MovesInto p q → UsesDeclared p a → AllUseDeclared p as' →
    list_any (matches kind (valuation q c) n signed (moved p.prefix p.params a)) (map (moved p.prefix p.params) as')
    ≡ list_any (matches kind (valuation p c) n signed a) as'
any_moved p q c kind n signed a [] m d h = refl
any_moved p q c kind n signed a (x ∷ as') m d h =
    λ r. nat_eq (bit_or ((expr_moved p q c a m d r).value n signed) (ignored_moved kind p.prefix p.params x r)) (bit_or ((expr_moved p q c x m h.0 r).value n signed) (ignored_moved kind p.prefix p.params x r))
    || any_moved p q c kind n signed a as' m d h.1 r

-- the test of a case statement
abbrev test_of : Place → Cycle → CaseKind → Expr → List Expr → Labels → Bool
test_of p c kind a all labels = any_matches kind (valuation p c) (case_width (valuation p c) a all) (case_sign (valuation p c) a all) a labels

test_moved : (p q : Place) (c : Cycle) (kind : CaseKind) (a : Expr) (all' all : List Expr) (labels : Labels) → MovesInto p q → UsesDeclared p a → AllUseDeclared p all →
    all' ≡ map (moved p.prefix p.params) all → AllUseDeclared p (exprs_in labels) →
    test_of q c kind (moved p.prefix p.params a) all' (moved_labels p.prefix p.params labels) ≡ test_of p c kind a all labels
test_moved p q c kind a all' all labels m d h e k =
    (λ r. list_any (matches kind (valuation q c) (case_width (valuation q c) (moved p.prefix p.params a) (e r)) (case_sign (valuation q c) (moved p.prefix p.params a) (e r)) (moved p.prefix p.params a))
    (exprs_moved p.prefix p.params labels r))
    ∙ ((λ r. list_any (matches kind (valuation q c)
    (max (expr_moved p q c a m d r).width (widest_moved p q c all m h r))
    ((expr_moved p q c a m d r).signed && signs_moved p q c all m h r)
    (moved p.prefix p.params a)) (map (moved p.prefix p.params) (exprs_in labels)))
    ∙ any_moved p q c kind (case_width (valuation p c) a all) (case_sign (valuation p c) a all) a (exprs_in labels) m d k)

-- ---- statements

mutual
  pub run_moved : (at_once : Bool) (p q : Place) (body : Stmt) (c d : Cycle) → MovesInto p q → IsDeclared p body →
      run at_once q (moved_stmt p.prefix p.params body) c d ≡ run at_once p body c d
  run_moved t p q s.Empty c d m h = refl
  run_moved t p q (s.Block' n g row) c d m h = row_moved t p q row c d m h
  run_moved t p q (s.If' a g (more_of-Stmt x end_of-Stmt)) c d m h =
      λ r. λ (y : Name). if nat_eq (own (expr_moved p q (seen t c d) a m h.0 r)) 0 then d y else run_moved t p q x c d m h.1 r y
  run_moved t p q (s.IfElse' a g (more_of-Stmt x end_of-Stmt) f (more_of-Stmt z end_of-Stmt)) c d m h =
      λ r. λ (y : Name). if nat_eq (own (expr_moved p q (seen t c d) a m h.0 r)) 0 then run_moved t p q z c d m h.2 r y else run_moved t p q x c d m h.1 r y
  run_moved t p q (s.Case' kind a g row) c d m h =
      items_moved t p q (test_of q (seen t c d) kind (moved p.prefix p.params a) (labels_in (moved_items p.prefix p.params row)))
      (test_of p (seen t c d) kind a (labels_in row)) row c d
      (run_default t q (moved_items p.prefix p.params row) c d) (run_default t p row c d) m h.1
      (λ labels k. test_moved p q (seen t c d) kind a (labels_in (moved_items p.prefix p.params row)) (labels_in row) labels m h.0 (labels_declared p row h.1) (labels_moved p.prefix p.params row) k)
      (otherwise_moved t p q row c d m h.1)
  run_moved t p q (s.Blocking left right) c d m h = store_moved p q (seen t c d) left right d m h.0 h.1
  run_moved t p q (s.Nonblocking left right) c d m h = store_moved p q (seen t c d) left right d m h.0 h.1

  row_moved : {n : _} (at_once : Bool) (p q : Place) (row : Row_of-Stmt n) (c d : Cycle) → MovesInto p q → AreDeclared p row →
      run_row at_once q (moved_stmts p.prefix p.params row) c d ≡ run_row at_once p row c d
  row_moved t p q end_of-Stmt c d m h = refl
  row_moved t p q (more_of-Stmt a rest) c d m h =
      ap (λ (e : Cycle). run_row t q (moved_stmts p.prefix p.params rest) c e) (run_moved t p q a c d m h.0) ∙ row_moved t p q rest c (run t p a c d) m h.1

  items_moved : {n : _} (at_once : Bool) (p q : Place) (test' test : Labels → Bool) (row : Row_of-CaseItem n) (c d o' o : Cycle) → MovesInto p q → AreItemsDeclared p row →
      ((labels : Labels) → AllUseDeclared p (exprs_in labels) → test' (moved_labels p.prefix p.params labels) ≡ test labels) → o' ≡ o →
      run_items at_once q test' (moved_items p.prefix p.params row) c d o' ≡ run_items at_once p test row c d o
  items_moved t p q test' test end_of-CaseItem c d o' o m h same e = e
  items_moved t p q test' test (more_of-CaseItem labels body rest) c d o' o m h same e =
      λ r. λ (y : Name). if same labels h.0 r then run_moved t p q body c d m h.1 r y else items_moved t p q test' test rest c d o' o m h.2 same e r y

  otherwise_moved : {n : _} (at_once : Bool) (p q : Place) (row : Row_of-CaseItem n) (c d : Cycle) → MovesInto p q → AreItemsDeclared p row →
      run_default at_once q (moved_items p.prefix p.params row) c d ≡ run_default at_once p row c d
  otherwise_moved t p q end_of-CaseItem c d m h = refl
  otherwise_moved t p q (more_of-CaseItem labels body rest) c d m h =
      λ r. λ (y : Name). if default_moved p.prefix p.params labels r then run_moved t p q body c d m h.1 r y else otherwise_moved t p q rest c d m h.2 r y
