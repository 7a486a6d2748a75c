-- The left sides of a statement without memories.
use Rattle.std.proofs.Common.{◌≡◌, ℕ, suc, zero, Bool, true, false, nat_eq, List, [], ◌∷◌, ◌++◌, Option, None, sym, ap, ◌∙◌, refl, map}
use Rattle.std.specs.Prelude.{if◌then◌else◌, IsTrue}
use Rattle.std.specs.List.{flat_map, list_any, range_with_len}
use Rattle.std.proofs.lemmas.Bool.{eqb-false}
use Rattle.vlog_tree.specs.declared.expr.Expr.{Expr, Row_of-Expr, end_of-Expr, more_of-Expr}
use Rattle.vlog_tree.specs.declared.expr.Expr.TheVariants as e
use Rattle.vlog_tree.specs.declared.expr.Name.{Name as Read}
use Rattle.vlog_tree.specs.declared.stmt.Lval.{Lval}
use Rattle.vlog_tree.specs.declared.stmt.Lval.TheVariants as l
use Rattle.vlog_tree.specs.declared.stmt.Stmt.{Stmt, Row_of-Stmt, end_of-Stmt, more_of-Stmt, Row_of-CaseItem, end_of-CaseItem, more_of-CaseItem, items-the_row-Stmt, items_hidden-the_row-Stmt-0}
use Rattle.vlog_tree.specs.declared.stmt.Stmt.TheVariants as s
use Rattle.vlog_tree.specs.declared.stmt.Stmt.TheBlock.{hidden-the_row-Stmt-0}
use Rattle.vlog_tree.specs.declared.expr.Expr.TheBlock.{hidden-the_row-Expr-1}
use Rattle.vlog_tree.specs.declared.valuation.Entry.{Entry}
use Rattle.vlog_tree.specs.Valuation.{named, depth_of, word_name}
use Rattle.vlog_tree.specs.Value.{NamesOnly, AllNamesOnly, own_value}
use Rattle.vlog_tree_runs.specs.Places.{Name, read}
use Rattle.vlog_tree_runs.specs.Blocks.{lefts, row_lefts, case_lefts}
use Rattle.elab_flat_laws.proofs.Lists.{flat_append}
use Rattle.elab_flat_faults.specs.Drivers.{row_parts_of}
use Rattle.mem_laws.specs.Spread.{is_fixed, named_words, chosen, memory_read, spread, spread_row, spread_left, word_store, memory_store, part_store, part_stores, bits_from, lefts_length, is_memory_word, spread_store, spread_stmt, spread_stmts, spread_items}
use Rattle.mem_laws.specs.Laws.{IsPlainLeft, IsSpreadable, AreSpreadable, AreItemsSpreadable}
use Rattle.mem_laws.proofs.Constants.{nothing}
use Rattle.mem_laws.proofs.Statements.{no_words}
use denote.Hole.Carrier

-- ---- constants stay as they are

no_way : {A : Type 0} → IsTrue false → A
no_way h = let no : ⊥ = cc in absurd no

mutual
  pub constant_same : (r : List Entry) (a : Expr) → NamesOnly nothing a → spread r a ≡ a
  constant_same r (e.Number n) d = refl
  constant_same r (e.Name x) d = refl
  constant_same r (e.Select' x h (more_of-Expr a end_of-Expr)) d = no_way d.0
  constant_same r (e.Part' x span h (more_of-Expr a end_of-Expr) g (more_of-Expr b end_of-Expr)) d = no_way d.0
  constant_same r (e.ConstantSelect' k h (more_of-Expr a end_of-Expr)) d = λ q. e.ConstantSelect' k h (more_of-Expr (constant_same r a d q) end_of-Expr)
  constant_same r (e.ConstantPart' k span h (more_of-Expr a end_of-Expr) g (more_of-Expr b end_of-Expr)) d =
      λ q. e.ConstantPart' k span h (more_of-Expr (constant_same r a d.0 q) end_of-Expr) g (more_of-Expr (constant_same r b d.1 q) end_of-Expr)
  constant_same r (e.Cast' cast h (more_of-Expr a end_of-Expr)) d = λ q. e.Cast' cast h (more_of-Expr (constant_same r a d q) end_of-Expr)
  constant_same r (e.Paren' h (more_of-Expr a end_of-Expr)) d = λ q. e.Paren' h (more_of-Expr (constant_same r a d q) end_of-Expr)
  constant_same r (e.Concat' h row) d = λ q. e.Concat' h (constants_same r row d q)
  constant_same r (e.Repeat' h (more_of-Expr a end_of-Expr) g row) d = λ q. e.Repeat' h (more_of-Expr (constant_same r a d.0 q) end_of-Expr) g (constants_same r row d.1 q)
  constant_same r (e.Unary' op h (more_of-Expr a end_of-Expr)) d = λ q. e.Unary' op h (more_of-Expr (constant_same r a d q) end_of-Expr)
  constant_same r (e.Binary' op h (more_of-Expr a end_of-Expr) g (more_of-Expr b end_of-Expr)) d =
      λ q. e.Binary' op h (more_of-Expr (constant_same r a d.0 q) end_of-Expr) g (more_of-Expr (constant_same r b d.1 q) end_of-Expr)
  constant_same r (e.Choice' h (more_of-Expr c end_of-Expr) g (more_of-Expr a end_of-Expr) i (more_of-Expr b end_of-Expr)) d =
      λ q. e.Choice' h (more_of-Expr (constant_same r c d.0 q) end_of-Expr) g (more_of-Expr (constant_same r a d.1 q) end_of-Expr) i (more_of-Expr (constant_same r b d.2 q) end_of-Expr)

  constants_same : {n : _} (r : List Entry) (row : Row_of-Expr n) → AllNamesOnly nothing row → spread_row r row ≡ row
  constants_same r end_of-Expr d = refl
  constants_same r (more_of-Expr a rest) d = λ q. more_of-Expr (constant_same r a d.0 q) (constants_same r rest d.1 q)

-- a read of a memory is no constant
chosen_named : (x : Read) (width : ℕ) (a : Expr) (j : ℕ) (js : List ℕ) → NamesOnly nothing (chosen x width a (j ∷ js)) → ⊥
chosen_named x width a j js d = no_way d.1.0

memory_by : (r : List Entry) (x : Read) (a b : Expr) (depth : ℕ) → (depth ≡ 0 → ⊥) → (t : Bool) →
    NamesOnly nothing (chosen x (named r x).width b (if t then own_value [] a ∷ [] else range_with_len 0 depth)) → ⊥
memory_by r x a b depth n true d = chosen_named x (named r x).width b (own_value [] a) [] d
memory_by r x a b zero n false d = n refl
memory_by r x a b (suc depth) n false d = chosen_named x (named r x).width b 0 (range_with_len 1 depth) d

memory_named : (r : List Entry) (x : Read) (a b : Expr) → (depth_of r x ≡ 0 → ⊥) → NamesOnly nothing (memory_read r x a b) → ⊥
unfolding hidden-the_row-Expr-1 denote.Hole.Carrier.hidden
memory_named r x a b n d = memory_by r x a b (depth_of r x) n (is_fixed (depth_of r x) a) d.0

select_named : (r : List Entry) (x : Read) (a b : Expr) (t : Bool) → nat_eq (depth_of r x) 0 ≡ t →
    NamesOnly nothing (if t then e.Select' x tt (more_of-Expr b end_of-Expr) else memory_read r x a b) → ⊥
select_named r x a b true t d = no_way d.0
select_named r x a b false t d = memory_named r x a b (eqb-false (depth_of r x) 0 t) d

mutual
  pub constant_before : (r : List Entry) (a : Expr) → NamesOnly nothing (spread r a) → NamesOnly nothing a
  constant_before r (e.Number n) d = d
  constant_before r (e.Name x) d = d
  constant_before r (e.Select' x h (more_of-Expr a end_of-Expr)) d = absurd (select_named r x a (spread r a) (nat_eq (depth_of r x) 0) refl d)
  constant_before r (e.Part' x span h (more_of-Expr a end_of-Expr) g (more_of-Expr b end_of-Expr)) d = no_way d.0
  constant_before r (e.ConstantSelect' k h (more_of-Expr a end_of-Expr)) d = constant_before r a d
  constant_before r (e.ConstantPart' k span h (more_of-Expr a end_of-Expr) g (more_of-Expr b end_of-Expr)) d = (constant_before r a d.0, constant_before r b d.1)
  constant_before r (e.Cast' cast h (more_of-Expr a end_of-Expr)) d = constant_before r a d
  constant_before r (e.Paren' h (more_of-Expr a end_of-Expr)) d = constant_before r a d
  constant_before r (e.Concat' h row) d = constants_before r row d
  constant_before r (e.Repeat' h (more_of-Expr a end_of-Expr) g row) d = (constant_before r a d.0, constants_before r row d.1)
  constant_before r (e.Unary' op h (more_of-Expr a end_of-Expr)) d = constant_before r a d
  constant_before r (e.Binary' op h (more_of-Expr a end_of-Expr) g (more_of-Expr b end_of-Expr)) d = (constant_before r a d.0, constant_before r b d.1)
  constant_before r (e.Choice' h (more_of-Expr c end_of-Expr) g (more_of-Expr a end_of-Expr) i (more_of-Expr b end_of-Expr)) d =
      (constant_before r c d.0, constant_before r a d.1, constant_before r b d.2)

  constants_before : {n : _} (r : List Entry) (row : Row_of-Expr n) → AllNamesOnly nothing (spread_row r row) → AllNamesOnly nothing row
  constants_before r end_of-Expr d = d
  constants_before r (more_of-Expr a rest) d = (constant_before r a d.0, constants_before r rest d.1)

-- ---- the left sides of a store

abbrev pub word_lefts : Name → List ℕ → List Lval
word_lefts x js = map (λ j. l.Name (word_name (read x) j).text) js

abbrev pub part_lefts : List Entry → Lval → List Lval
part_lefts r (l.Select x a) = if nat_eq (depth_of r (read x)) 0 then l.Select x (spread r a) ∷ [] else word_lefts x (named_words (depth_of r (read x)) a)
part_lefts r left = spread_left r left ∷ []

abbrev pub store_lefts : List Entry → Lval → List Lval
store_lefts r (l.Concat' h row) =
    if list_any (is_memory_word r) (row_parts_of row) then flat_map (part_lefts r) (row_parts_of row) else spread_left r (l.Concat' h row) ∷ []
store_lefts r left = part_lefts r left

row_lefts_are : {m : _} (row : Row_of-Stmt m) → row_lefts row ≡ flat_map lefts (items-the_row-Stmt m row)
row_lefts_are end_of-Stmt = refl
row_lefts_are (more_of-Stmt a rest) = ap (λ ls. lefts a ++ ls) (row_lefts_are rest)

block_lefts : (n : Option Name) (xs : List Stmt) → lefts (s.Block n xs) ≡ flat_map lefts xs
block_lefts n xs = row_lefts_are (hidden-the_row-Stmt-0 xs) ∙ ap (flat_map lefts) (items_hidden-the_row-Stmt-0 xs)

words_stored : (x : Name) (a right : Expr) (js : List ℕ) → flat_map lefts (map (word_store (read x) a right) js) ≡ word_lefts x js
words_stored x a right [] = refl
words_stored x a right (j ∷ js) = ap (λ ls. l.Name (word_name (read x) j).text ∷ ls) (words_stored x a right js)

select_lefts : (r : List Entry) (x : Name) (a right : Expr) (t : Bool) →
    lefts (if t then s.Nonblocking (l.Select x (spread r a)) right else memory_store r (read x) a (spread r a) right)
    ≡ (if t then l.Select x (spread r a) ∷ [] else word_lefts x (named_words (depth_of r (read x)) a))
select_lefts r x a right true = refl
select_lefts r x a right false =
    block_lefts None (map (word_store (read x) (spread r a) right) (named_words (depth_of r (read x)) a)) ∙ words_stored x (spread r a) right (named_words (depth_of r (read x)) a)

part_lefts_are : (r : List Entry) (q : Lval) (right : Expr) → lefts (part_store r q right) ≡ part_lefts r q
part_lefts_are r (l.Name x) right = refl
part_lefts_are r (l.Select x a) right = select_lefts r x a right (nat_eq (depth_of r (read x)) 0)
part_lefts_are r (l.Part x span a b) right = refl
part_lefts_are r (l.Concat' h row) right = refl

parts_lefts_are : (r : List Entry) (n : ℕ) (right : Expr) (qs : List Lval) → flat_map lefts (part_stores r n right qs) ≡ flat_map (part_lefts r) qs
parts_lefts_are r n right [] = refl
parts_lefts_are r n right (q ∷ qs) = λ i. part_lefts_are r q (bits_from right n (lefts_length r qs)) i ++ parts_lefts_are r n right qs i

split_lefts : (r : List Entry) (left : Lval) (right : Expr) (n : ℕ) (qs : List Lval) (t : Bool) →
    lefts (if t then s.Block None (part_stores r n right qs) else s.Nonblocking (spread_left r left) right) ≡ (if t then flat_map (part_lefts r) qs else spread_left r left ∷ [])
split_lefts r left right n qs true = block_lefts None (part_stores r n right qs) ∙ parts_lefts_are r n right qs
split_lefts r left right n qs false = refl

pub store_lefts_are : (r : List Entry) (left : Lval) (right : Expr) → lefts (spread_store r left right) ≡ store_lefts r left
store_lefts_are r (l.Name x) right = refl
store_lefts_are r (l.Select x a) right = part_lefts_are r (l.Select x a) right
store_lefts_are r (l.Part x span a b) right = refl
store_lefts_are r (l.Concat' h row) right =
    split_lefts r (l.Concat' h row) right (lefts_length r (row_parts_of row)) (row_parts_of row) (list_any (is_memory_word r) (row_parts_of row))

-- a plain left side stays alone
pub plain_lefts : (r : List Entry) (left : Lval) → IsPlainLeft r left → store_lefts r left ≡ spread_left r left ∷ []
plain_lefts r (l.Name x) h = refl
plain_lefts r (l.Select x a) h =
    ap (λ n. if nat_eq n 0 then l.Select x (spread r a) ∷ [] else word_lefts x (named_words (depth_of r (read x)) a)) h.0
plain_lefts r (l.Part x span a b) h = refl
plain_lefts r (l.Concat' q row) h =
    ap (λ (t : Bool). if t then flat_map (part_lefts r) (row_parts_of row) else spread_left r (l.Concat' q row) ∷ []) (no_words r (l.Concat' q row) h)

-- ---- statements

none_after : (ls : List Lval) → ls ++ [] ≡ ls
none_after [] = refl
none_after (a ∷ ls) = ap (λ zs. a ∷ zs) (none_after ls)

mutual
  pub lefts_spread : (t : Bool) (r : List Entry) (body : Stmt) → IsSpreadable t r body → lefts (spread_stmt r body) ≡ flat_map (store_lefts r) (lefts body)
  lefts_spread t r s.Empty h = refl
  lefts_spread t r (s.Block' n g row) h = row_lefts_spread t r row h
  lefts_spread t r (s.If' a g (more_of-Stmt x end_of-Stmt)) h = lefts_spread t r x h.1
  lefts_spread t r (s.IfElse' a g (more_of-Stmt x end_of-Stmt) f (more_of-Stmt y end_of-Stmt)) h =
      (λ q. lefts_spread t r x h.1 q ++ lefts_spread t r y h.2 q) ∙ sym (flat_append (store_lefts r) (lefts x) (lefts y))
  lefts_spread t r (s.Case' kind a g row) h = case_lefts_spread t r row h.1
  lefts_spread t r (s.Blocking left right) h = sym (none_after (store_lefts r left) ∙ plain_lefts r left h.0)
  lefts_spread t r (s.Nonblocking left right) h = store_lefts_are r left (spread r right) ∙ sym (none_after (store_lefts r left))

  row_lefts_spread : {n : _} (t : Bool) (r : List Entry) (row : Row_of-Stmt n) → AreSpreadable t r row → row_lefts (spread_stmts r row) ≡ flat_map (store_lefts r) (row_lefts row)
  row_lefts_spread t r end_of-Stmt h = refl
  row_lefts_spread t r (more_of-Stmt a rest) h =
      (λ q. lefts_spread t r a h.0 q ++ row_lefts_spread t r rest h.1 q) ∙ sym (flat_append (store_lefts r) (lefts a) (row_lefts rest))

  case_lefts_spread : {n : _} (t : Bool) (r : List Entry) (row : Row_of-CaseItem n) → AreItemsSpreadable t r row →
      case_lefts (spread_items r row) ≡ flat_map (store_lefts r) (case_lefts row)
  case_lefts_spread t r end_of-CaseItem h = refl
  case_lefts_spread t r (more_of-CaseItem labels body rest) h =
      (λ q. lefts_spread t r body h.1 q ++ case_lefts_spread t r rest h.2 q) ∙ sym (flat_append (store_lefts r) (lefts body) (case_lefts rest))
