-- Expressions and assignments without memories may be taken where those of the module may.
use Rattle.std.proofs.Common.{◌≡◌, ℕ, ◌+◌, ◌<◌, ◌≤◌, max, Bool, true, false, IsTrue, nat_eq, List, [], ◌∷◌, ◌++◌, None, map, sym, ap, ◌∙◌, refl, subst, inl, inr, arith}
use Rattle.std.specs.Prelude.{if◌then◌else◌, IsSomeAnd}
use Rattle.std.specs.List.{list_any}
use Rattle.std.proofs.lemmas.Bool.{eqb-true}
use Rattle.vlog_tree.specs.declared.expr.Constant.{Constant}
use Rattle.vlog_tree.specs.declared.expr.Expr.{Expr}
use Rattle.vlog_tree.specs.declared.expr.Name.{Name as Read}
use Rattle.vlog_tree.specs.declared.expr.Span.{Span}
use Rattle.vlog_tree.specs.declared.expr.Span.TheVariants as p
use Rattle.vlog_tree.specs.declared.stmt.Lval.{Lval, Row_of-Lval, end_of-Lval, more_of-Lval}
use Rattle.vlog_tree.specs.declared.stmt.Lval.TheVariants as l
use Rattle.vlog_tree.specs.declared.stmt.Stmt.{Stmt, Row_of-Stmt, end_of-Stmt, more_of-Stmt, items-the_row-Stmt, items_hidden-the_row-Stmt-0}
use Rattle.vlog_tree.specs.declared.stmt.Stmt.TheVariants as t
use Rattle.vlog_tree.specs.declared.stmt.Stmt.TheBlock.{hidden-the_row-Stmt-0}
use Rattle.vlog_tree.specs.declared.valuation.Entry.{Entry}
use Rattle.vlog_tree.specs.Valuation.{IsLength, named, depth_of, word_name}
use Rattle.vlog_tree.specs.Value.{Operand, operand_of, own_defined, own_integer, part_width, width_of, sign_of, Stands, NamesOnly, IsPartConstant}
use Rattle.vlog_tree_runs.specs.Places.{Name, Among, read}
use Rattle.elab_flat_faults.specs.Drivers.{parts_of, row_parts_of}
use Rattle.mem_laws.specs.Spread.{is_word, named_words, spread, spread_left, spread_lefts, word_store, memory_store, part_store, part_length, lefts_length, bits_from, part_stores, is_memory_word, spread_store}
use Rattle.mem_laws.specs.Laws.{Spreads, IsIndexed, IsIndexedLeft, AreIndexedLefts, IsPlainLeft, ArePlainLefts}
use Rattle.mem_laws.proofs.Constants.{nothing}
use Rattle.mem_laws.proofs.Driving.{named_back}
use Rattle.mem_laws.proofs.Forming.{constants_kept, formed_after, test_formed, test_constant, test_defined, bits_formed, bits_constant, bits_sign, bits_defined}
use Rattle.mem_laws.proofs.Lefts.{constant_same}
use Rattle.mem_laws.proofs.Parts.{IsPart}
use Rattle.mem_laws.proofs.Reading.{same_name, spread_means, word_named}
use Rattle.mem_laws.proofs.Statements.{plain_from}
use Rattle.elab_step_blocks.specs.Ready.{IsPlaced, IsSingle, left_width, row_width, IsReadyLeft, AreReadyLefts, IsReadyStore, IsReadyStmt, AreReadyStmts, EachReadyStmt}
use Rattle.desk_core_stage_laws.specs.Sized.{left_length, IsSizedStore}
use Rattle.desk_core_stage_laws.proofs.Sides.{lengths_append}

more_none : (n : ℕ) → n + 0 ≡ n
more_none n = omega arith

-- ---- statements one after another

row_ready : {m : _} (w : List Entry) (row : Row_of-Stmt m) → EachReadyStmt w (items-the_row-Stmt m row) → AreReadyStmts w row
row_ready w end_of-Stmt h = tt
row_ready w (more_of-Stmt a rest) h = (h.0, row_ready w rest h.1)

block_ready : (w : List Entry) (n : _) (xs : List Stmt) → EachReadyStmt w xs → IsReadyStmt w (t.Block n xs)
block_ready w n xs h = row_ready w (hidden-the_row-Stmt-0 xs) (subst (λ z. EachReadyStmt w z) (sym (items_hidden-the_row-Stmt-0 xs)) h)

-- ---- constant parts

constant_after : (r : List Entry) (a : Expr) → NamesOnly nothing a → NamesOnly nothing (spread r a)
constant_after r a d = subst (λ z. NamesOnly nothing z) (sym (constant_same r a d)) d

part_after : (r : List Entry) (span : Span) (a d : Expr) → IsPartConstant nothing span a d → IsPartConstant nothing span (spread r a) (spread r d)
part_after r p.Fixed a d h = (constant_after r a h.0, constant_after r d h.1)
part_after r p.Up a d h = constant_after r d h
part_after r p.Down a d h = constant_after r d h

-- ---- parts of a left side

-- a part's length is the left side's
part_sized : (r : List Entry) (q : Lval) → IsPart q → left_length r q ≡ part_length r q
part_sized r (l.Name x) h = more_none (part_length r (l.Name x))
part_sized r (l.Select x a) h = more_none (part_length r (l.Select x a))
part_sized r (l.Part x span a d) h = more_none (part_length r (l.Part x span a d))
part_sized r (l.Concat' g row) h = absurd h

abbrev ArePartsReady : List Entry → List Lval → Type 0
ArePartsReady r [] = Unit {0}
ArePartsReady r (q ∷ qs) = IsPart q × IsIndexedLeft r q × IsReadyLeft r q × ArePartsReady r qs

parts_append : (r : List Entry) (ps qs : List Lval) → ArePartsReady r ps → ArePartsReady r qs → ArePartsReady r (ps ++ qs)
parts_append r [] qs h k = k
parts_append r (q ∷ ps) qs h k = (h.0, h.1, h.2, parts_append r ps qs h.3 k)

mutual
  parts_ready : (r : List Entry) (left : Lval) → IsIndexedLeft r left → IsReadyLeft r left → ArePartsReady r (parts_of left)
  parts_ready r (l.Name x) d h = (tt, d, h, tt)
  parts_ready r (l.Select x a) d h = (tt, d, h, tt)
  parts_ready r (l.Part x span a b) d h = (tt, d, h, tt)
  parts_ready r (l.Concat' g row) d h = row_parts_ready r row d h

  row_parts_ready : {n : _} (r : List Entry) (row : Row_of-Lval n) → AreIndexedLefts r row → AreReadyLefts r row → ArePartsReady r (row_parts_of row)
  row_parts_ready r end_of-Lval d h = tt
  row_parts_ready r (more_of-Lval a rest) d h = parts_append r (parts_of a) (row_parts_of rest) (parts_ready r a d.0 h.0) (row_parts_ready r rest d.1 h.1)

chosen_length : (b : Bool) (n : ℕ) → IsLength n → IsLength (if b then 1 else n)
chosen_length true n h = (omega arith, omega arith)
chosen_length false n h = h

module _ (r w : List Entry) (s : Spreads r r w) where
  -- ---- expressions

  pub single_after : (a : Expr) → IsIndexed r a → IsSingle r a → IsSingle w (spread r a)
  single_after a k h = record {
    formed = formed_after r r w a s k h.formed;
    constant = constants_kept r a h.constant;
    defined = subst (λ (o : Operand). IsTrue (own_defined o)) (sym (spread_means r r w a s k)) h.defined;
  }

  pub placed_after : (a : Expr) (n : ℕ) (signed : Bool) → IsIndexed r a → IsPlaced r a n signed → IsPlaced w (spread r a) n signed
  placed_after a n signed k h = record {
    ready = record {
      formed = formed_after r r w a s k h.ready.formed;
      some = h.ready.some;
      long = subst (λ (o : Operand). o.width ≤ n) (sym (spread_means r r w a s k)) h.ready.long;
      most = h.ready.most;
    };
    constant = constants_kept r a h.constant;
    defined = subst (λ (o : Operand). IsTrue (o.defined n signed)) (sym (spread_means r r w a s k)) h.defined;
  }

  -- a right side may be taken at the longer of its own and another length
  abbrev IsRight : Expr → ℕ → Type 0
  IsRight a n = IsPlaced w a (max (width_of w a) n) (sign_of w a)

  right_after : (a : Expr) (n : ℕ) → IsIndexed r a → IsPlaced r a (max (width_of r a) n) (sign_of r a) → IsRight (spread r a) n
  right_after a n k h =
      subst (λ (o : Operand). IsPlaced w (spread r a) (max o.width n) o.signed) (sym (spread_means r r w a s k)) (placed_after a (max (width_of r a) n) (sign_of r a) k h)

  -- ---- left sides without memories

  stands_after : (x : Read) → depth_of r x ≡ 0 → Stands r x → Stands w x
  stands_after x z h = subst (λ o. IsSomeAnd o (λ k. IsLength k.width)) (sym (s.names x z)) h

  mutual
    plain_ready : (left : Lval) → IsPlainLeft r left → IsReadyLeft r left → IsReadyLeft w (spread_left r left)
    plain_ready (l.Name x) d h = stands_after (read x) d h
    plain_ready (l.Select x a) d h = (stands_after (read x) d.0 h.0, single_after a d.1 h.1)
    plain_ready (l.Part x span a b) d h =
        let i = spread_means r r w a s d.1 in
        let j = spread_means r r w b s d.2 in (
          stands_after (read x) d.0 h.0,
          single_after a d.1 h.1,
          single_after b d.2 h.2,
          part_after r span a b h.3,
          subst (λ (z : Operand × Operand). IsLength (part_width span (own_integer z.0) (own_integer z.1))) (λ q. (sym i q, sym j q)) h.4,
        )
    plain_ready (l.Concat' g row) d h = plains_ready row d h

    plains_ready : {n : _} (row : Row_of-Lval n) → ArePlainLefts r row → AreReadyLefts r row → AreReadyLefts w (spread_lefts r row)
    plains_ready end_of-Lval d h = tt
    plains_ready (more_of-Lval a rest) d h = (plain_ready a d.0 h.0, plains_ready rest d.1 h.1)

  mutual
    plain_width : (left : Lval) → IsPlainLeft r left → left_width w (spread_left r left) ≡ left_length r left
    plain_width (l.Name x) d = ap (λ (k : Constant). k.width) (same_name r r w s (read x) d) ∙ sym (more_none (named r (read x)).width)
    plain_width (l.Select x a) d = sym (ap (λ n. (if nat_eq n 0 then 1 else (named r (read x)).width) + 0) d.0)
    plain_width (l.Part x span a b) d =
        let i = spread_means r r w a s d.1 in
        let j = spread_means r r w b s d.2 in
        (λ q. part_width span (own_integer (i q)) (own_integer (j q))) ∙ sym (more_none (part_width span (own_integer (operand_of r a)) (own_integer (operand_of r b))))
    plain_width (l.Concat' g row) d = plains_width row d

    plains_width : {n : _} (row : Row_of-Lval n) → ArePlainLefts r row → row_width w (spread_lefts r row) ≡ lefts_length r (row_parts_of row)
    plains_width end_of-Lval d = refl
    plains_width (more_of-Lval a rest) d = (λ q. plain_width a d.0 q + plains_width rest d.1 q) ∙ sym (lengths_append r (parts_of a) (row_parts_of rest))

  plain_stored : (left : Lval) (right : Expr) → IsPlainLeft r left → IsReadyLeft r left → IsLength (left_length r left) → IsRight right (left_length r left) →
      IsReadyStore w (spread_left r left) right
  plain_stored left right d h len k =
      let e = sym (plain_width left d) in
      record { left_side = plain_ready left d h; length = subst IsLength e len; right_side = subst (λ n. IsRight right n) e k }

  pub assign_after : (left : Lval) (right : Expr) → IsPlainLeft r left → IsIndexed r right → IsSizedStore r left right → IsReadyStore w (spread_left r left) (spread r right)
  assign_after left right d k h = plain_stored left (spread r right) d h.left_side h.length (right_after right (left_length r left) k h.right_side)

  -- ---- words

  test_single : (a : Expr) (j : ℕ) → IsSingle w a → IsSingle w (is_word a j)
  test_single a j h = record {
    formed = test_formed w a j h.formed;
    constant = test_constant a j h.constant;
    defined = subst IsTrue (sym (test_defined w a j)) h.defined;
  }

  pub word_stands : (y : Name) (j : ℕ) → j < depth_of r (read y) → Stands w (word_name (read y) j)
  word_stands y j k = subst (λ o. IsSomeAnd o (λ c. IsLength c.width)) (sym (s.words (read y) j k)) (s.wide (read y))

  word_ready : (y : Name) (a right : Expr) (j : ℕ) → j < depth_of r (read y) → IsSingle w a → IsRight right (named r (read y)).width → IsReadyStmt w (word_store (read y) a right j)
  word_ready y a right j k h i =
      let e : (named r (read y)).width ≡ (named w (word_name (read y) j)).width = sym (ap (λ (c : Constant). c.width) (word_named r r w s (read y) j k)) in (
        test_single a j h,
        record { left_side = word_stands y j k; length = subst IsLength e (s.wide (read y)); right_side = subst (λ n. IsRight right n) e i },
      )

  each_word : (y : Name) (a right : Expr) (js : List ℕ) → ((j : ℕ) → Among js j → j < depth_of r (read y)) → IsSingle w a → IsRight right (named r (read y)).width →
      EachReadyStmt w (map (word_store (read y) a right) js)
  each_word y a right [] k h i = tt
  each_word y a right (j ∷ js) k h i = (word_ready y a right j (k j (inl refl)) h i, each_word y a right js (λ z m. k z (inr m)) h i)

  memory_ready : (y : Name) (a right : Expr) → IsSingle w (spread r a) → IsRight right (named r (read y)).width → IsReadyStmt w (memory_store r (read y) a (spread r a) right)
  memory_ready y a right h i =
      let js = named_words (depth_of r (read y)) a in
      block_ready w None (map (word_store (read y) (spread r a) right) js) (each_word y (spread r a) right js (λ j m. (named_back (depth_of r (read y)) a j m).0) h i)

  -- ---- a part of a left side

  part_long : (q : Lval) → IsPart q → IsReadyLeft r q → IsLength (part_length r q)
  part_long (l.Name x) d h = s.wide (read x)
  part_long (l.Select x a) d h = chosen_length (nat_eq (depth_of r (read x)) 0) (named r (read x)).width (s.wide (read x))
  part_long (l.Part x span a b) d h = h.4
  part_long (l.Concat' g row) d h = absurd d

  plain_part : (q : Lval) (right : Expr) → IsPart q → IsPlainLeft r q → IsReadyLeft r q → IsRight right (part_length r q) → IsReadyStore w (spread_left r q) right
  plain_part q right o d h k =
      let e = sym (part_sized r q o) in plain_stored q right d h (subst IsLength e (part_long q o h)) (subst (λ n. IsRight right n) e k)

  select_ready : (x : Name) (a right : Expr) → IsIndexed r a → IsReadyLeft r (l.Select x a) → IsRight right (part_length r (l.Select x a)) → (b : Bool) → nat_eq (depth_of r (read x)) 0 ≡ b →
      IsReadyStmt w (if b then t.Nonblocking (l.Select x (spread r a)) right else memory_store r (read x) a (spread r a) right)
  select_ready x a right d h k true e = plain_part (l.Select x a) right tt (eqb-true (depth_of r (read x)) 0 e, d) h k
  select_ready x a right d h k false e =
      memory_ready x a right (single_after a d h.1) (subst (λ n. IsRight right n) (ap (λ (b : Bool). if b then 1 else (named r (read x)).width) e) k)

  part_ready : (q : Lval) (right : Expr) → IsPart q → IsIndexedLeft r q → IsReadyLeft r q → IsRight right (part_length r q) → IsReadyStmt w (part_store r q right)
  part_ready (l.Name x) right o d h k = plain_part (l.Name x) right tt d h k
  part_ready (l.Select x a) right o d h k = select_ready x a right d h k (nat_eq (depth_of r (read x)) 0) refl
  part_ready (l.Part x span a b) right o d h k = plain_part (l.Part x span a b) right tt d h k
  part_ready (l.Concat' g row) right o d h k = absurd o

  -- a part's bits of a right side
  bits_right : (right : Expr) (n from k : ℕ) → IsLength n → k ≤ n → IsRight right n → IsRight (bits_from right n from) k
  bits_right right n from k len less h =
      let bits = bits_from right n from in
      let m : ℕ = max (width_of w right) n in
      let same : m ≡ max (width_of w bits) k = omega arith in
      let first : IsPlaced w bits m (sign_of w right) = record {
        ready = record { formed = bits_formed w right n from h.ready.formed len; some = h.ready.some; long = omega arith; most = h.ready.most };
        constant = bits_constant right n from h.constant;
        defined = subst IsTrue (sym (bits_defined w right n from m (sign_of w right))) h.defined;
      } in
      subst (λ i. IsPlaced w bits i (sign_of w bits)) same (subst (λ u. IsPlaced w bits m u) (sym (bits_sign w right n from)) first)

  each_part : (n : ℕ) (right : Expr) → IsLength n → IsRight right n → (qs : List Lval) → ArePartsReady r qs → lefts_length r qs ≤ n → EachReadyStmt w (part_stores r n right qs)
  each_part n right len k [] h less = tt
  each_part n right len k (q ∷ qs) h less = (
    part_ready q (bits_from right n (lefts_length r qs)) h.0 h.1 h.2 (bits_right right n (lefts_length r qs) (part_length r q) len (omega (arith, less)) k),
    each_part n right len k qs h.3 (omega (arith, less)),
  )

  -- ---- an assignment that becomes an assignment to each part, where one is a word

  split_ready : (left : Lval) (right : Expr) → IsIndexedLeft r left → IsReadyLeft r left → IsLength (left_length r left) → IsRight right (left_length r left) →
      (b : Bool) → list_any (is_memory_word r) (parts_of left) ≡ b →
      IsReadyStmt w (if b then t.Block None (part_stores r (lefts_length r (parts_of left)) right (parts_of left)) else t.Nonblocking (spread_left r left) right)
  split_ready left right d h len k true e =
      let n = lefts_length r (parts_of left) in
      block_ready w None (part_stores r n right (parts_of left)) (each_part n right len k (parts_of left) (parts_ready r left d h) (omega arith))
  split_ready left right d h len k false e = plain_stored left right (plain_from r left d e) h len k

  store_ready : (left : Lval) (right : Expr) → IsIndexedLeft r left → IsReadyLeft r left → IsLength (left_length r left) → IsRight right (left_length r left) →
      IsReadyStmt w (spread_store r left right)
  store_ready (l.Name x) right d h len k = part_ready (l.Name x) right tt d h (subst (λ n. IsRight right n) (part_sized r (l.Name x) tt) k)
  store_ready (l.Select x a) right d h len k = part_ready (l.Select x a) right tt d h (subst (λ n. IsRight right n) (part_sized r (l.Select x a) tt) k)
  store_ready (l.Part x span a b) right d h len k = part_ready (l.Part x span a b) right tt d h (subst (λ n. IsRight right n) (part_sized r (l.Part x span a b) tt) k)
  store_ready (l.Concat' g row) right d h len k = split_ready (l.Concat' g row) right d h len k (list_any (is_memory_word r) (row_parts_of row)) refl

  pub store_after : (left : Lval) (right : Expr) → IsIndexedLeft r left → IsIndexed r right → IsSizedStore r left right → IsReadyStmt w (spread_store r left (spread r right))
  store_after left right d k h = store_ready left (spread r right) d h.left_side h.length (right_after right (left_length r left) k h.right_side)
