-- A statement without memories does what the statement does.
use Rattle.std.proofs.Common.{◌≡◌, ℕ, ◌%◌, ◌^◌, max, ◌&&◌, ◌||◌, Bool, true, false, nat_eq, List, [], ◌∷◌, ◌++◌, None, sym, ap, ◌∙◌, refl, map, arith}
use Rattle.std.specs.Prelude.{if◌then◌else◌, not, bit_or}
use Rattle.std.specs.List.{flat_map, list_any}
use Rattle.std.proofs.lemmas.Bool.{eqb-true}
use Rattle.vlog_tree.specs.declared.expr.Expr.{Expr, end_of-Expr, more_of-Expr}
use Rattle.vlog_tree.specs.declared.expr.Expr.TheVariants as e
use Rattle.vlog_tree.specs.declared.expr.Name.{Name as Read}
use Rattle.vlog_tree.specs.declared.stmt.CaseKind.{CaseKind}
use Rattle.vlog_tree.specs.declared.stmt.CaseKind.TheVariants as c
use Rattle.vlog_tree.specs.declared.stmt.Labels.{Labels}
use Rattle.vlog_tree.specs.declared.stmt.Labels.TheVariants as b
use Rattle.vlog_tree.specs.declared.stmt.Lval.{Lval, Row_of-Lval, end_of-Lval, more_of-Lval}
use Rattle.vlog_tree.specs.declared.stmt.Lval.TheVariants as l
use Rattle.vlog_tree.specs.declared.stmt.Stmt.{Stmt, Row_of-Stmt, end_of-Stmt, more_of-Stmt, Row_of-CaseItem, end_of-CaseItem, more_of-CaseItem}
use Rattle.vlog_tree.specs.declared.stmt.Stmt.TheVariants as s
use Rattle.vlog_tree.specs.declared.valuation.Entry.{Entry}
use Rattle.vlog_tree.specs.Valuation.{depth_of}
use Rattle.vlog_tree.specs.Value.{operand_of, own, assigned}
use Rattle.vlog_tree_runs.specs.declared.flat.Signal.{Signal}
use Rattle.vlog_tree_runs.specs.Places.{Name, Cycle, read, valuation, Piece, pieces, total, give, store}
use Rattle.vlog_tree_runs.specs.Blocks.{widest, all_signed, exprs_in, is_default, labels_in, case_width, case_sign, ignored, matches, any_matches, seen, run, run_row, run_items, run_default}
use Rattle.elab_flat_laws.proofs.Lists.{map_append}
use Rattle.elab_flat_faults.specs.Drivers.{parts_of, row_parts_of}
use Rattle.mem_laws.specs.Spread.{spread, spread_left, lefts_length, part_stores, is_memory_word, spread_store, spread_labels, spread_stmt, spread_stmts, spread_items, memory_read, memory_store}
use Rattle.mem_laws.specs.Laws.{IsIndexed, AreIndexed, over, SpreadsInto, IsIndexedLeft, AreIndexedLefts, IsPlainLeft, ArePlainLefts, IsStorable, IsSpreadable, AreSpreadable, AreItemsSpreadable}
use Rattle.mem_laws.proofs.Reading.{spread_means}
use Rattle.mem_laws.proofs.Sides.{store_spread, block_runs, given}
use Rattle.mem_laws.proofs.Parts.{pieces_parts, are_parts, parts_total, plain_stored, part_stored, parts_stored}

-- ---- left sides with and without words of memories

any_append : (p : Lval → Bool) (xs ys : List Lval) → list_any p (xs ++ ys) ≡ list_any p xs || list_any p ys
any_append p [] ys = refl
any_append p (x ∷ xs) ys = ap (λ t. p x || t) (any_append p xs ys) ∙ or_assoc (p x) (list_any p xs) (list_any p ys)
  where
    or_assoc : (a b c : Bool) → a || (b || c) ≡ (a || b) || c
    or_assoc true b c = refl
    or_assoc false b c = refl

or_left : (a b : Bool) → a || b ≡ false → a ≡ false
or_left true b h = cc
or_left false b h = refl

or_right : (a b : Bool) → a || b ≡ false → b ≡ false
or_right true b h = cc
or_right false b h = h

or_none : (a b : Bool) → a ≡ false → b ≡ false → a || b ≡ false
or_none a b h k = λ r. h r || k r

mutual
  -- a left side without words of memories is plain
  pub plain_from : (r : List Entry) (left : Lval) → IsIndexedLeft r left → list_any (is_memory_word r) (parts_of left) ≡ false → IsPlainLeft r left
  plain_from r (l.Name x) h k = h
  plain_from r (l.Select x a) h k = (deep (nat_eq (depth_of r (read x)) 0) refl (or_left (not (nat_eq (depth_of r (read x)) 0)) false k), h)
    where
      deep : (t : Bool) → nat_eq (depth_of r (read x)) 0 ≡ t → not t ≡ false → depth_of r (read x) ≡ 0
      deep true e n = eqb-true (depth_of r (read x)) 0 e
      deep false e n = cc
  plain_from r (l.Part x span a d) h k = h
  plain_from r (l.Concat' q row) h k = row_plain_from r row h k

  row_plain_from : {n : _} (r : List Entry) (row : Row_of-Lval n) → AreIndexedLefts r row → list_any (is_memory_word r) (row_parts_of row) ≡ false → ArePlainLefts r row
  row_plain_from r end_of-Lval h k = tt
  row_plain_from r (more_of-Lval a rest) h k =
      let z = sym (any_append (is_memory_word r) (parts_of a) (row_parts_of rest)) ∙ k in (
        plain_from r a h.0 (or_left (list_any (is_memory_word r) (parts_of a)) (list_any (is_memory_word r) (row_parts_of rest)) z),
        row_plain_from r rest h.1 (or_right (list_any (is_memory_word r) (parts_of a)) (list_any (is_memory_word r) (row_parts_of rest)) z),
      )

mutual
  pub no_words : (r : List Entry) (left : Lval) → IsPlainLeft r left → list_any (is_memory_word r) (parts_of left) ≡ false
  no_words r (l.Name x) h = refl
  no_words r (l.Select x a) h = ap (λ n. not (nat_eq n 0) || false) h.0
  no_words r (l.Part x span a d) h = refl
  no_words r (l.Concat' q row) h = no_row_words r row h

  no_row_words : {n : _} (r : List Entry) (row : Row_of-Lval n) → ArePlainLefts r row → list_any (is_memory_word r) (row_parts_of row) ≡ false
  no_row_words r end_of-Lval h = refl
  no_row_words r (more_of-Lval a rest) h =
      any_append (is_memory_word r) (parts_of a) (row_parts_of rest)
      ∙ or_none (list_any (is_memory_word r) (parts_of a)) (list_any (is_memory_word r) (row_parts_of rest)) (no_words r a h.0) (no_row_words r rest h.1)

-- a plain left side is assigned as it stands
pub plain_store : (r : List Entry) (left : Lval) (right : Expr) → IsPlainLeft r left → spread_store r left right ≡ s.Nonblocking (spread_left r left) right
plain_store r (l.Name x) right h = refl
plain_store r (l.Select x a) right h =
    ap (λ n. if nat_eq n 0 then s.Nonblocking (l.Select x (spread r a)) right else memory_store r (read x) a (spread r a) right) h.0
plain_store r (l.Part x span a d) right h = refl
plain_store r (l.Concat' q row) right h =
    ap (λ (t : Bool). if t then s.Block None (part_stores r (lefts_length r (row_parts_of row)) right (row_parts_of row)) else s.Nonblocking (spread_left r (l.Concat' q row)) right)
    (no_row_words r row h)

-- ---- stores

right_given : (r : List Entry) (gs hs : List Signal) (c : Cycle) (right : Expr) (ps : List Piece) (d : Cycle) → SpreadsInto r gs hs → IsIndexed r right →
    given (valuation (over hs) c) (spread r right) ps d ≡ given (valuation (over gs) c) right ps d
right_given r gs hs c right ps d m k =
    let a = spread_means r (valuation (over gs) c) (valuation (over hs) c) right (m c) k in
    λ q. λ (x : Name). give ps ((a q).value (max (a q).width (total ps)) (a q).signed % 2 ^ total ps) d x

split_stored : (r : List Entry) (gs hs : List Signal) (c : Cycle) (left : Lval) (right : Expr) (d : Cycle) → SpreadsInto r gs hs → IsStorable false r left →
    (t : Bool) → list_any (is_memory_word r) (parts_of left) ≡ t →
    run false (over hs) (if t then s.Block None (part_stores r (lefts_length r (parts_of left)) right (parts_of left)) else s.Nonblocking (spread_left r left) right) c d
    ≡ given (valuation (over hs) c) right (pieces (over gs) c left) d
split_stored r gs hs c left right d m h true t =
    let w = valuation (over hs) c in
    let qs = parts_of left in
    let k = are_parts r left h.0 h.1 in
    block_runs false (over hs) None (part_stores r (lefts_length r qs) right qs) c d
    ∙ (parts_stored r gs hs c (lefts_length r qs) right qs d m k (omega arith) h.2
    ∙ (ap (λ n. give (flat_map (pieces (over gs) c) qs) (assigned w right n) d) (sym (parts_total r gs hs c qs m k))
    ∙ ap (λ ps. given w right ps d) (sym (pieces_parts (over gs) c left))))
split_stored r gs hs c left right d m h false t = plain_stored r gs hs c left right d m (plain_from r left h.0 t)

store_given : (r : List Entry) (gs hs : List Signal) (c : Cycle) (left : Lval) (right : Expr) (d : Cycle) → SpreadsInto r gs hs → IsStorable false r left →
    run false (over hs) (spread_store r left right) c d ≡ given (valuation (over hs) c) right (pieces (over gs) c left) d
store_given r gs hs c (l.Name x) right d m h = part_stored r gs hs c (l.Name x) right d m tt h.0
store_given r gs hs c (l.Select x a) right d m h = part_stored r gs hs c (l.Select x a) right d m tt h.0
store_given r gs hs c (l.Part x span a b) right d m h = part_stored r gs hs c (l.Part x span a b) right d m tt h.0
store_given r gs hs c (l.Concat' q row) right d m h = split_stored r gs hs c (l.Concat' q row) right d m h (list_any (is_memory_word r) (row_parts_of row)) refl

stored_by : (at_once : Bool) (r : List Entry) (gs hs : List Signal) (left : Lval) (right : Expr) (c d : Cycle) → SpreadsInto r gs hs → IsStorable at_once r left → IsIndexed r right →
    run at_once (over hs) (spread_store r left (spread r right)) c d ≡ store (over gs) (seen at_once c d) left right d
stored_by true r gs hs left right c d m h k =
    ap (λ z. run true (over hs) z c d) (plain_store r left (spread r right) h) ∙ store_spread r gs hs d left right d m h k
stored_by false r gs hs left right c d m h k = store_given r gs hs c left (spread r right) d m h ∙ right_given r gs hs c right (pieces (over gs) c left) d m k

-- ---- labels

ignored_select : (r : List Entry) (x : Read) (a : Expr) (t : Bool) →
    ignored c.Casez (if t then e.Select' x tt (more_of-Expr (spread r a) end_of-Expr) else memory_read r x a (spread r a)) ≡ 0
ignored_select r x a true = refl
ignored_select r x a false = refl

-- the bits that aren't compared stay the same
ignored_spread : (kind : CaseKind) (r : List Entry) (a : Expr) → ignored kind (spread r a) ≡ ignored kind a
ignored_spread c.Case r a = refl
ignored_spread c.Casez r (e.Number n) = refl
ignored_spread c.Casez r (e.Name x) = refl
ignored_spread c.Casez r (e.Select' x h (more_of-Expr a end_of-Expr)) = ignored_select r x a (nat_eq (depth_of r x) 0)
ignored_spread c.Casez r (e.Part' x span h (more_of-Expr a end_of-Expr) g (more_of-Expr d end_of-Expr)) = refl
ignored_spread c.Casez r (e.ConstantSelect' k h (more_of-Expr a end_of-Expr)) = refl
ignored_spread c.Casez r (e.ConstantPart' k span h (more_of-Expr a end_of-Expr) g (more_of-Expr d end_of-Expr)) = refl
ignored_spread c.Casez r (e.Cast' cast h (more_of-Expr a end_of-Expr)) = refl
ignored_spread c.Casez r (e.Paren' h (more_of-Expr a end_of-Expr)) = refl
ignored_spread c.Casez r (e.Concat' h row) = refl
ignored_spread c.Casez r (e.Repeat' h (more_of-Expr a end_of-Expr) g row) = refl
ignored_spread c.Casez r (e.Unary' op h (more_of-Expr a end_of-Expr)) = refl
ignored_spread c.Casez r (e.Binary' op h (more_of-Expr a end_of-Expr) g (more_of-Expr d end_of-Expr)) = refl
ignored_spread c.Casez r (e.Choice' h (more_of-Expr a end_of-Expr) g (more_of-Expr d end_of-Expr) i (more_of-Expr x end_of-Expr)) = refl

pub exprs_spread : (r : List Entry) (labels : Labels) → exprs_in (spread_labels r labels) ≡ map (spread r) (exprs_in labels)
exprs_spread r (b.Exprs as') = refl
exprs_spread r b.Default = refl

default_spread : (r : List Entry) (labels : Labels) → is_default (spread_labels r labels) ≡ is_default labels
default_spread r (b.Exprs as') = refl
default_spread r b.Default = refl

pub labels_spread : {n : _} (r : List Entry) (row : Row_of-CaseItem n) → labels_in (spread_items r row) ≡ map (spread r) (labels_in row)
labels_spread r end_of-CaseItem = refl
labels_spread r (more_of-CaseItem labels body rest) =
    (λ q. exprs_spread r labels q ++ labels_spread r rest q) ∙ sym (map_append (spread r) (exprs_in labels) (labels_in rest))

all_append : (r : List Entry) (xs ys : List Expr) → AreIndexed r xs → AreIndexed r ys → AreIndexed r (xs ++ ys)
all_append r [] ys h k = k
all_append r (x ∷ xs) ys h k = (h.0, all_append r xs ys h.1 k)

labels_indexed : {n : _} (at_once : Bool) (r : List Entry) (row : Row_of-CaseItem n) → AreItemsSpreadable at_once r row → AreIndexed r (labels_in row)
labels_indexed t r end_of-CaseItem d = tt
labels_indexed t r (more_of-CaseItem labels body rest) d = all_append r (exprs_in labels) (labels_in rest) d.0 (labels_indexed t r rest d.2)

module _ (r : List Entry) (gs hs : List Signal) (m : SpreadsInto r gs hs) where
  expr_spread : (c : Cycle) (a : Expr) → IsIndexed r a → operand_of (valuation (over hs) c) (spread r a) ≡ operand_of (valuation (over gs) c) a
  expr_spread c a d = spread_means r (valuation (over gs) c) (valuation (over hs) c) a (m c) d

  widest_spread : (c : Cycle) (as' : List Expr) → AreIndexed r as' → widest (valuation (over hs) c) (map (spread r) as') ≡ widest (valuation (over gs) c) as'
  widest_spread c [] d = refl
  widest_spread c (a ∷ as') d = λ q. max (expr_spread c a d.0 q).width (widest_spread c as' d.1 q)

  signs_spread : (c : Cycle) (as' : List Expr) → AreIndexed r as' → all_signed (valuation (over hs) c) (map (spread r) as') ≡ all_signed (valuation (over gs) c) as'
  signs_spread c [] d = refl
  signs_spread c (a ∷ as') d = λ q. (expr_spread c a d.0 q).signed && signs_spread c as' d.1 q

  any_spread : (c : Cycle) (kind : CaseKind) (n : ℕ) (signed : Bool) (a : Expr) (as' : List Expr) → IsIndexed r a → AreIndexed r as' →
      list_any (matches kind (valuation (over hs) c) n signed (spread r a)) (map (spread r) as') ≡ list_any (matches kind (valuation (over gs) c) n signed a) as'
  any_spread c kind n signed a [] d h = refl
  any_spread c kind n signed a (x ∷ as') d h =
      λ q. nat_eq (bit_or ((expr_spread c a d q).value n signed) (ignored_spread kind r x q)) (bit_or ((expr_spread c x h.0 q).value n signed) (ignored_spread kind r x q))
      || any_spread c kind n signed a as' d h.1 q

  -- the test of a case statement
  abbrev test_of : List Signal → Cycle → CaseKind → Expr → List Expr → Labels → Bool
  test_of ks c kind a all labels =
      any_matches kind (valuation (over ks) c) (case_width (valuation (over ks) c) a all) (case_sign (valuation (over ks) c) a all) a labels

  test_spread : (c : Cycle) (kind : CaseKind) (a : Expr) (all' all : List Expr) (labels : Labels) → IsIndexed r a → AreIndexed r all → all' ≡ map (spread r) all →
      AreIndexed r (exprs_in labels) → test_of hs c kind (spread r a) all' (spread_labels r labels) ≡ test_of gs c kind a all labels
  test_spread c kind a all' all labels d h e k =
      (λ q. list_any (matches kind (valuation (over hs) c) (case_width (valuation (over hs) c) (spread r a) (e q)) (case_sign (valuation (over hs) c) (spread r a) (e q)) (spread r a))
      (exprs_spread r labels q))
      ∙ ((λ q. list_any (matches kind (valuation (over hs) c)
      (max (expr_spread c a d q).width (widest_spread c all h q))
      ((expr_spread c a d q).signed && signs_spread c all h q)
      (spread r a)) (map (spread r) (exprs_in labels)))
      ∙ any_spread c kind (case_width (valuation (over gs) c) a all) (case_sign (valuation (over gs) c) a all) a (exprs_in labels) d k)

  -- ---- statements

  mutual
    run_spread : (at_once : Bool) (body : Stmt) (c d : Cycle) → IsSpreadable at_once r body → run at_once (over hs) (spread_stmt r body) c d ≡ run at_once (over gs) body c d
    run_spread t s.Empty c d h = refl
    run_spread t (s.Block' n g row) c d h = row_spread t row c d h
    run_spread t (s.If' a g (more_of-Stmt x end_of-Stmt)) c d h =
        λ q. λ (y : Name). if nat_eq (own (expr_spread (seen t c d) a h.0 q)) 0 then d y else run_spread t x c d h.1 q y
    run_spread t (s.IfElse' a g (more_of-Stmt x end_of-Stmt) f (more_of-Stmt z end_of-Stmt)) c d h =
        λ q. λ (y : Name). if nat_eq (own (expr_spread (seen t c d) a h.0 q)) 0 then run_spread t z c d h.2 q y else run_spread t x c d h.1 q y
    run_spread t (s.Case' kind a g row) c d h =
        items_spread t (test_of hs (seen t c d) kind (spread r a) (labels_in (spread_items r row))) (test_of gs (seen t c d) kind a (labels_in row)) row c d
        (run_default t (over hs) (spread_items r row) c d) (run_default t (over gs) row c d) h.1
        (λ labels k. test_spread (seen t c d) kind a (labels_in (spread_items r row)) (labels_in row) labels h.0 (labels_indexed t r row h.1) (labels_spread r row) k)
        (otherwise_spread t row c d h.1)
    run_spread t (s.Blocking left right) c d h = store_spread r gs hs (seen t c d) left right d m h.0 h.1
    run_spread t (s.Nonblocking left right) c d h = stored_by t r gs hs left right c d m h.0 h.1

    row_spread : {n : _} (at_once : Bool) (row : Row_of-Stmt n) (c d : Cycle) → AreSpreadable at_once r row →
        run_row at_once (over hs) (spread_stmts r row) c d ≡ run_row at_once (over gs) row c d
    row_spread t end_of-Stmt c d h = refl
    row_spread t (more_of-Stmt a rest) c d h =
        ap (λ (z : Cycle). run_row t (over hs) (spread_stmts r rest) c z) (run_spread t a c d h.0) ∙ row_spread t rest c (run t (over gs) a c d) h.1

    items_spread : {n : _} (at_once : Bool) (test' test : Labels → Bool) (row : Row_of-CaseItem n) (c d o' o : Cycle) → AreItemsSpreadable at_once r row →
        ((labels : Labels) → AreIndexed r (exprs_in labels) → test' (spread_labels r labels) ≡ test labels) → o' ≡ o →
        run_items at_once (over hs) test' (spread_items r row) c d o' ≡ run_items at_once (over gs) test row c d o
    items_spread t test' test end_of-CaseItem c d o' o h same e = e
    items_spread t test' test (more_of-CaseItem labels body rest) c d o' o h same e =
        λ q. λ (y : Name). if same labels h.0 q then run_spread t body c d h.1 q y else items_spread t test' test rest c d o' o h.2 same e q y

    otherwise_spread : {n : _} (at_once : Bool) (row : Row_of-CaseItem n) (c d : Cycle) → AreItemsSpreadable at_once r row →
        run_default at_once (over hs) (spread_items r row) c d ≡ run_default at_once (over gs) row c d
    otherwise_spread t end_of-CaseItem c d h = refl
    otherwise_spread t (more_of-CaseItem labels body rest) c d h =
        λ q. λ (y : Name). if default_spread r labels q then run_spread t body c d h.1 q y else otherwise_spread t rest c d h.2 q y

pub statements_do : (at_once : Bool) (r : List Entry) (gs hs : List Signal) (body : Stmt) (c d : Cycle) → SpreadsInto r gs hs → IsSpreadable at_once r body →
    run at_once (over hs) (spread_stmt r body) c d ≡ run at_once (over gs) body c d
statements_do t r gs hs body c d m h = run_spread r gs hs m t body c d h
