-- A moved left side drives what the left side drives, and a moved statement assigns what the statement assigns.
use Rattle.std.proofs.Common.{◌≡◌, ℕ, zero, suc, Bool, true, false, nat_eq, List, [], ◌∷◌, ◌++◌, sym, ap, ◌∙◌, refl, inl, inr, ⊎_elim, map, subst}
use Rattle.std.specs.Prelude.{ℤ, pos, ◌-ℤ◌}
use Rattle.std.specs.List.{flat_map}
use Rattle.vlog_tree.specs.declared.expr.Span.{Span}
use Rattle.vlog_tree.specs.declared.stmt.Lval.{Lval, Row_of-Lval, end_of-Lval, more_of-Lval}
use Rattle.vlog_tree.specs.declared.stmt.Lval.TheVariants as l
use Rattle.vlog_tree.specs.declared.stmt.Stmt.{Stmt, Row_of-Stmt, end_of-Stmt, more_of-Stmt, Row_of-CaseItem, end_of-CaseItem, more_of-CaseItem}
use Rattle.vlog_tree.specs.declared.stmt.Stmt.TheVariants as s
use Rattle.vlog_tree.specs.declared.valuation.Entry.{Entry}
use Rattle.vlog_tree.specs.Value.{operand_of, own, own_integer, part_low, part_width}
use Rattle.vlog_tree_runs.specs.declared.flat.Signal.{Signal}
use Rattle.vlog_tree_runs.specs.Places.{Name, Among, Place, holders, words_from}
use Rattle.vlog_tree_runs.specs.Blocks.{lefts, row_lefts, case_lefts, left_names, row_names, low_in, IsWithin, Drives, AnyDrives, Stores, AnyStores}
use Rattle.elab_flat_laws.specs.Moved.{moved, moved_left, moved_lefts, moved_stmt, moved_stmts, moved_items, moved_signal}
use Rattle.elab_flat_laws.specs.Uses.{AssignsSignals, AllAssignSignals, AreConstants}
use Rattle.elab_flat_laws.specs.Laws.{MovesInto}
use Rattle.elab_flat_laws.proofs.Lists.{append_left, append_right, map_append}
use Rattle.elab_flat_laws.proofs.Finding.{bare}
use Rattle.elab_flat_laws.proofs.Constants.{constant_means, fixed, opened}
use Rattle.elab_flat_laws.proofs.Sides.{word_under}

within_same : (span : Span) (b : ℕ) (i i' j j' : ℤ) (n n' : ℕ) → i ≡ i' → j ≡ j' → n ≡ n' →
    IsWithin (part_low span i j -ℤ pos n) (part_width span i j) b → IsWithin (part_low span i' j' -ℤ pos n') (part_width span i' j') b
within_same span b i i' j j' n n' e f g h =
    subst (λ k. IsWithin (part_low span i' j' -ℤ pos k) (part_width span i' j') b) g
    (subst (λ k. IsWithin (part_low span i' k -ℤ pos n) (part_width span i' k) b) f
    (subst (λ k. IsWithin (part_low span k j -ℤ pos n) (part_width span k j) b) e h))

mutual
  pub drives_to : (p : Place) (gs : List Signal) → MovesInto p (bare gs) → AreConstants p.params → (left : Lval) → AssignsSignals p left → (x y : Name) (b : ℕ) → x ≡ p.prefix ++ y →
      Drives p left y b → Drives (bare gs) (moved_left p.prefix p.params left) x b
  drives_to p gs m h (l.Name z) d x y b e k = ap (λ w. p.prefix ++ w) k ∙ sym e
  drives_to p gs m h (l.Select z a) d x y b e k = (
    ap (λ w. p.prefix ++ w) k.0 ∙ sym e,
    λ c.
        let o = opened p a d.1.1 c in
        (λ r. own_integer (constant_means p a h o r) -ℤ pos (m.lows z d.0 r)) ∙ k.1 o,
  )
  drives_to p gs m h (l.Part z span a a') d x y b e k = (
    ap (λ w. p.prefix ++ w) k.0 ∙ sym e,
    λ c c'.
        let o = opened p a d.1.1 c in
        let o' = opened p a' d.2.1 c' in
        within_same span b (own_integer (operand_of p.params a)) (own_integer (operand_of [] (moved p.prefix p.params a)))
        (own_integer (operand_of p.params a')) (own_integer (operand_of [] (moved p.prefix p.params a'))) (low_in p z) (low_in (bare gs) (p.prefix ++ z))
        (ap own_integer (sym (constant_means p a h o))) (ap own_integer (sym (constant_means p a' h o'))) (sym (m.lows z d.0)) (k.1 o o'),
  )
  drives_to p gs m h (l.Concat' q row) d x y b e k = any_to p gs m h row d x y b e k

  any_to : {n : _} (p : Place) (gs : List Signal) → MovesInto p (bare gs) → AreConstants p.params → (row : Row_of-Lval n) → AllAssignSignals p row → (x y : Name) (b : ℕ) → x ≡ p.prefix ++ y →
      AnyDrives p row y b → AnyDrives (bare gs) (moved_lefts p.prefix p.params row) x b
  any_to p gs m h end_of-Lval d x y b e k = k
  any_to p gs m h (more_of-Lval a rest) d x y b e k =
      ⊎_elim (λ z. inl (drives_to p gs m h a d.0 x y b e z)) (λ z. inr (any_to p gs m h rest d.1 x y b e z)) k

-- and the other way round, for some name of the text
mutual
  pub drives_from : (p : Place) (gs : List Signal) → MovesInto p (bare gs) → AreConstants p.params → (left : Lval) → AssignsSignals p left → (x : Name) (b : ℕ) →
      Drives (bare gs) (moved_left p.prefix p.params left) x b → (y : Name) × (x ≡ p.prefix ++ y) × Drives p left y b
  drives_from p gs m h (l.Name z) d x b k = (z, sym k, refl)
  drives_from p gs m h (l.Select z a) d x b k = (
    z,
    sym k.0,
    (
      refl,
      λ c. sym (λ r. own_integer (constant_means p a h c r) -ℤ pos (m.lows z d.0 r)) ∙ k.1 (fixed p a d.1.1 c),
    ),
  )
  drives_from p gs m h (l.Part z span a a') d x b k = (
    z,
    sym k.0,
    (
      refl,
      λ c c'.
          within_same span b (own_integer (operand_of [] (moved p.prefix p.params a))) (own_integer (operand_of p.params a))
          (own_integer (operand_of [] (moved p.prefix p.params a'))) (own_integer (operand_of p.params a')) (low_in (bare gs) (p.prefix ++ z)) (low_in p z)
          (ap own_integer (constant_means p a h c)) (ap own_integer (constant_means p a' h c')) (m.lows z d.0) (k.1 (fixed p a d.1.1 c) (fixed p a' d.2.1 c')),
    ),
  )
  drives_from p gs m h (l.Concat' q row) d x b k = any_from p gs m h row d x b k

  any_from : {n : _} (p : Place) (gs : List Signal) → MovesInto p (bare gs) → AreConstants p.params → (row : Row_of-Lval n) → AllAssignSignals p row → (x : Name) (b : ℕ) →
      AnyDrives (bare gs) (moved_lefts p.prefix p.params row) x b → (y : Name) × (x ≡ p.prefix ++ y) × AnyDrives p row y b
  any_from p gs m h end_of-Lval d x b k = absurd k
  any_from p gs m h (more_of-Lval a rest) d x b k =
      ⊎_elim (λ z. let r = drives_from p gs m h a d.0 x b z in (r.0, r.1, inl r.2)) (λ z. let r = any_from p gs m h rest d.1 x b z in (r.0, r.1, inr r.2)) k

-- what is driven is named
mutual
  pub drives_named : (p : Place) (left : Lval) (x : Name) (b : ℕ) → Drives p left x b → Among (left_names left) x
  drives_named p (l.Name z) x b k = inl k
  drives_named p (l.Select z a) x b k = inl k.0
  drives_named p (l.Part z span a a') x b k = inl k.0
  drives_named p (l.Concat' q row) x b k = any_named p row x b k

  any_named : {n : _} (p : Place) (row : Row_of-Lval n) (x : Name) (b : ℕ) → AnyDrives p row x b → Among (row_names row) x
  any_named p end_of-Lval x b k = k
  any_named p (more_of-Lval a rest) x b k =
      ⊎_elim (λ z. append_left (left_names a) (row_names rest) x (drives_named p a x b z)) (λ z. append_right (left_names a) (row_names rest) x (any_named p rest x b z)) k

-- ---- words of memories

mutual
  pub stores_to : (p : Place) (gs : List Signal) → AreConstants p.params → (left : Lval) → AssignsSignals p left → (x y : Name) (j : ℕ) → x ≡ p.prefix ++ y →
      Stores p left y j → Stores (bare gs) (moved_left p.prefix p.params left) x j
  stores_to p gs h (l.Name z) d x y j e k = ap (λ w. p.prefix ++ w) k ∙ sym e
  stores_to p gs h (l.Select z a) d x y j e k = (ap (λ w. p.prefix ++ w) k.0 ∙ sym e, λ c. let o = opened p a d.1.1 c in ap own (constant_means p a h o) ∙ k.1 o)
  stores_to p gs h (l.Part z span a a') d x y j e k = ap (λ w. p.prefix ++ w) k ∙ sym e
  stores_to p gs h (l.Concat' q row) d x y j e k = any_stores_to p gs h row d x y j e k

  any_stores_to : {n : _} (p : Place) (gs : List Signal) → AreConstants p.params → (row : Row_of-Lval n) → AllAssignSignals p row → (x y : Name) (j : ℕ) → x ≡ p.prefix ++ y →
      AnyStores p row y j → AnyStores (bare gs) (moved_lefts p.prefix p.params row) x j
  any_stores_to p gs h end_of-Lval d x y j e k = k
  any_stores_to p gs h (more_of-Lval a rest) d x y j e k =
      ⊎_elim (λ z. inl (stores_to p gs h a d.0 x y j e z)) (λ z. inr (any_stores_to p gs h rest d.1 x y j e z)) k

-- and the other way round, for some name of the text
mutual
  pub stores_from : (p : Place) (gs : List Signal) → AreConstants p.params → (left : Lval) → AssignsSignals p left → (x : Name) (j : ℕ) →
      Stores (bare gs) (moved_left p.prefix p.params left) x j → (y : Name) × (x ≡ p.prefix ++ y) × Among (left_names left) y × Stores p left y j
  stores_from p gs h (l.Name z) d x j k = (z, sym k, inl refl, refl)
  stores_from p gs h (l.Select z a) d x j k = (z, sym k.0, inl refl, (refl, λ c. sym (ap own (constant_means p a h c)) ∙ k.1 (fixed p a d.1.1 c)))
  stores_from p gs h (l.Part z span a a') d x j k = (z, sym k, inl refl, refl)
  stores_from p gs h (l.Concat' q row) d x j k = any_stores_from p gs h row d x j k

  any_stores_from : {n : _} (p : Place) (gs : List Signal) → AreConstants p.params → (row : Row_of-Lval n) → AllAssignSignals p row → (x : Name) (j : ℕ) →
      AnyStores (bare gs) (moved_lefts p.prefix p.params row) x j → (y : Name) × (x ≡ p.prefix ++ y) × Among (row_names row) y × AnyStores p row y j
  any_stores_from p gs h end_of-Lval d x j k = absurd k
  any_stores_from p gs h (more_of-Lval a rest) d x j k =
      ⊎_elim
      (λ z. let r = stores_from p gs h a d.0 x j z in (r.0, r.1, append_left (left_names a) (row_names rest) r.0 r.2, inl r.3))
      (λ z. let r = any_stores_from p gs h rest d.1 x j z in (r.0, r.1, append_right (left_names a) (row_names rest) r.0 r.2, inr r.3)) k

-- ---- what is assigned

mutual
  pub lefts_moved : (pre : Name) (ps : List Entry) (body : Stmt) → lefts (moved_stmt pre ps body) ≡ map (moved_left pre ps) (lefts body)
  lefts_moved pre ps s.Empty = refl
  lefts_moved pre ps (s.Block' n h row) = row_lefts_moved pre ps row
  lefts_moved pre ps (s.If' a h (more_of-Stmt x end_of-Stmt)) = lefts_moved pre ps x
  lefts_moved pre ps (s.IfElse' a h (more_of-Stmt x end_of-Stmt) g (more_of-Stmt y end_of-Stmt)) =
      (λ r. lefts_moved pre ps x r ++ lefts_moved pre ps y r) ∙ sym (map_append (moved_left pre ps) (lefts x) (lefts y))
  lefts_moved pre ps (s.Case' kind a h row) = case_lefts_moved pre ps row
  lefts_moved pre ps (s.Blocking left right) = refl
  lefts_moved pre ps (s.Nonblocking left right) = refl

  row_lefts_moved : {m : _} (pre : Name) (ps : List Entry) (row : Row_of-Stmt m) → row_lefts (moved_stmts pre ps row) ≡ map (moved_left pre ps) (row_lefts row)
  row_lefts_moved pre ps end_of-Stmt = refl
  row_lefts_moved pre ps (more_of-Stmt a rest) =
      (λ r. lefts_moved pre ps a r ++ row_lefts_moved pre ps rest r) ∙ sym (map_append (moved_left pre ps) (lefts a) (row_lefts rest))

  case_lefts_moved : {m : _} (pre : Name) (ps : List Entry) (row : Row_of-CaseItem m) → case_lefts (moved_items pre ps row) ≡ map (moved_left pre ps) (case_lefts row)
  case_lefts_moved pre ps end_of-CaseItem = refl
  case_lefts_moved pre ps (more_of-CaseItem labels body rest) =
      (λ r. lefts_moved pre ps body r ++ case_lefts_moved pre ps rest r) ∙ sym (map_append (moved_left pre ps) (lefts body) (case_lefts rest))

mutual
  pub left_names_moved : (pre : Name) (ps : List Entry) (left : Lval) → left_names (moved_left pre ps left) ≡ map (λ x. pre ++ x) (left_names left)
  left_names_moved pre ps (l.Name x) = refl
  left_names_moved pre ps (l.Select x a) = refl
  left_names_moved pre ps (l.Part x span a b) = refl
  left_names_moved pre ps (l.Concat' h row) = row_names_moved pre ps row

  row_names_moved : {m : _} (pre : Name) (ps : List Entry) (row : Row_of-Lval m) → row_names (moved_lefts pre ps row) ≡ map (λ x. pre ++ x) (row_names row)
  row_names_moved pre ps end_of-Lval = refl
  row_names_moved pre ps (more_of-Lval a rest) =
      (λ r. left_names_moved pre ps a r ++ row_names_moved pre ps rest r) ∙ sym (map_append (λ x. pre ++ x) (left_names a) (row_names rest))

all_names : (pre : Name) (ps : List Entry) (ls : List Lval) → flat_map left_names (map (moved_left pre ps) ls) ≡ map (λ x. pre ++ x) (flat_map left_names ls)
all_names pre ps [] = refl
all_names pre ps (a ∷ ls) = (λ r. left_names_moved pre ps a r ++ all_names pre ps ls r) ∙ sym (map_append (λ x. pre ++ x) (left_names a) (flat_map left_names ls))

pub assigned_names : (pre : Name) (ps : List Entry) (body : Stmt) → flat_map left_names (lefts (moved_stmt pre ps body)) ≡ map (λ x. pre ++ x) (flat_map left_names (lefts body))
assigned_names pre ps body = ap (λ ls. flat_map left_names ls) (lefts_moved pre ps body) ∙ all_names pre ps (lefts body)

pub words_moved : (pre : Name) (g : Signal) (j n : ℕ) → words_from (moved_signal pre g) j n ≡ map (moved_signal pre) (words_from g j n)
words_moved pre g j zero = refl
words_moved pre g j (suc n) =
    λ r. record { name = word_under pre g.name j r; width = g.width; low = 0; signed = false; reg = true; depth = 0 } ∷ words_moved pre g (suc j) n r

holders_by : (pre : Name) (g : Signal) (b : Bool) → nat_eq g.depth 0 ≡ b → holders (moved_signal pre g) ≡ map (moved_signal pre) (holders g)
holders_by pre g true h = rw h refl
holders_by pre g false h = rw h (words_moved pre g 0 g.depth)

pub holders_moved : (pre : Name) (g : Signal) → holders (moved_signal pre g) ≡ map (moved_signal pre) (holders g)
holders_moved pre g = holders_by pre g (nat_eq g.depth 0) refl
