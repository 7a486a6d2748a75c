-- The uses of names in the order of the texts are those of the module's expressions and left sides.
use Rattle.std.proofs.Common.{◌≡◌, ℕ, ◌+◌, ◌<◌, Bool, true, false, cond, inl, inr, List, [], ◌∷◌, ◌++◌, map, refl, sym, ap, ◌∙◌, subst, arith}
use Rattle.std.specs.List.{flat_map}
use Rattle.vlog_tree.specs.declared.expr.Expr.{Expr, Row_of-Expr, end_of-Expr, more_of-Expr}
use Rattle.vlog_tree.specs.declared.expr.Expr.TheVariants as e
use Rattle.vlog_tree.specs.declared.item.Assign.{Assign}
use Rattle.vlog_tree.specs.declared.stmt.Lval.{Lval, Row_of-Lval, end_of-Lval, more_of-Lval}
use Rattle.vlog_tree.specs.declared.stmt.Lval.TheVariants as l
use Rattle.vlog_tree.specs.declared.stmt.Stmt.{Stmt, Row_of-Stmt, end_of-Stmt, more_of-Stmt, Row_of-CaseItem, end_of-CaseItem, more_of-CaseItem}
use Rattle.vlog_tree.specs.declared.stmt.Stmt.TheVariants as s
use Rattle.vlog_tree_runs.specs.declared.flat.Always.{Always}
use Rattle.vlog_tree_runs.specs.declared.flat.Flat.{Flat}
use Rattle.vlog_tree_runs.specs.Places.{Among}
use Rattle.elab_flat_laws.proofs.Lists.{flat_append, map_append}
use Rattle.vlog_tree_runs.specs.Blocks.{lefts, row_lefts, case_lefts, exprs_in}
use Rattle.elab_flat_faults.specs.Texts.{numbers_in, row_numbers_in, alone_in, row_alone_in, case_alone_in, Compared, compared_in, row_compared_in, case_compared_in, all_labels_in, stores_in, row_stores_in, case_stores_in, assign_exprs, compared_exprs}
use Rattle.elab_flat_faults.specs.Drivers.{parts_of, row_parts_of, block_exprs, exprs_of}
use Rattle.elab_flat_drivers.specs.Parts.{reads_of}
use Rattle.elab_flat_drivers.specs.Pieces.{Action, Tests, Assigns, Schedules, actions, row_actions, case_actions}
use Rattle.elab_flat_drivers.specs.Wanting.{part_reads, left_reads}
use Rattle.mem_laws.specs.Uses.{lefts_of}
use Rattle.mem_faults.specs.Used.{store_uses, assign_uses, action_uses, block_uses, uses_of}

-- ---- sums over lists

abbrev pub tally : {A : Type 0} → (A → ℕ) → List A → ℕ
tally w [] = 0
tally w (x ∷ xs) = w x + tally w xs

pub tally_append : {A : Type 0} (w : A → ℕ) (xs ys : List A) → tally w (xs ++ ys) ≡ tally w xs + tally w ys
tally_append w [] ys = omega arith
tally_append w (x ∷ xs) ys = let h = tally_append w xs ys in omega arith

pub tally_flat : {A B : Type 0} (w : B → ℕ) (f : A → List B) (xs : List A) → tally w (flat_map f xs) ≡ tally (λ x. tally w (f x)) xs
tally_flat w f [] = refl
tally_flat w f (x ∷ xs) = tally_append w (f x) (flat_map f xs) ∙ ap (λ n. tally w (f x) + n) (tally_flat w f xs)

tally_map : {A B : Type 0} (w : B → ℕ) (f : A → B) (xs : List A) → tally w (map f xs) ≡ tally (λ x. w (f x)) xs
tally_map w f [] = refl
tally_map w f (x ∷ xs) = ap (λ n. w (f x) + n) (tally_map w f xs)

-- ---- the order of the text, and that of the definitions

-- the parts in the module's expressions and left sides
abbrev pub told : Flat → List Lval
told f = flat_map reads_of (exprs_of f) ++ flat_map parts_of (lefts_of f)

module _ (w : Lval → ℕ) where
  abbrev expr : Expr → ℕ
  expr a = tally w (reads_of a)

  abbrev left : Lval → ℕ
  left q = tally w (parts_of q)

  abbrev action : Action → ℕ
  action d = tally w (action_uses d)

  abbrev right_of : Assign → Expr
  right_of a = a.right

  abbrev stands : List Expr → List Compared → List Assign → List Lval → ℕ
  stands as' cs ws qs = tally expr as' + tally expr (flat_map compared_exprs cs) + tally expr (map right_of ws) + tally left qs

  stands_append : (as' bs : List Expr) (cs ds : List Compared) (ws vs : List Assign) (qs ps : List Lval) →
      stands (as' ++ bs) (cs ++ ds) (ws ++ vs) (qs ++ ps) ≡ stands as' cs ws qs + stands bs ds vs ps
  stands_append as' bs cs ds ws vs qs ps =
      let h = tally_append expr as' bs in
      let k = ap (tally expr) (flat_append compared_exprs cs ds) ∙ tally_append expr (flat_map compared_exprs cs) (flat_map compared_exprs ds) in
      let m = ap (tally expr) (map_append right_of ws vs) ∙ tally_append expr (map right_of ws) (map right_of vs) in
      let n = tally_append left qs ps in
      omega arith

  mutual
    numbers_read : (q : Lval) → tally w (left_reads q) ≡ tally expr (numbers_in q)
    numbers_read (l.Name x) = refl
    numbers_read (l.Select x a) = tally_append w (reads_of a) []
    numbers_read (l.Part x span a b) =
        let h = tally_append w (reads_of a ++ reads_of b) [] in
        let k = tally_append w (reads_of a) (reads_of b) in
        omega arith
    numbers_read (l.Concat' h row) = row_numbers_read row

    row_numbers_read : {n : _} (row : Row_of-Lval n) → tally w (flat_map part_reads (row_parts_of row)) ≡ tally expr (row_numbers_in row)
    row_numbers_read end_of-Lval = refl
    row_numbers_read (more_of-Lval q rest) =
        ap (tally w) (flat_append part_reads (parts_of q) (row_parts_of rest))
        ∙ (tally_append w (left_reads q) (flat_map part_reads (row_parts_of rest))
        ∙ ((λ i. numbers_read q i + row_numbers_read rest i) ∙ sym (tally_append expr (numbers_in q) (row_numbers_in rest))))

  -- an assignment
  store_is : (q : Lval) (a : Expr) → tally w (store_uses q a) ≡ left q + tally expr (numbers_in q) + expr a
  store_is q a =
      let h = tally_append w (parts_of q) (left_reads q ++ reads_of a) in
      let k = tally_append w (left_reads q) (reads_of a) in
      let m = numbers_read q in
      omega arith

  tests_are : (as' : List Expr) → tally action (map Tests as') ≡ tally expr as'
  tests_are as' = tally_map action Tests as'

  mutual
    stmt : (t : Stmt) → stands (alone_in t) (compared_in t) (stores_in t) (lefts t) ≡ tally action (actions t)
    stmt s.Empty = refl
    stmt (s.Block' n h row) = rows row
    stmt (s.If' a h (more_of-Stmt x end_of-Stmt)) = let k = stmt x in omega arith
    stmt (s.IfElse' a h (more_of-Stmt x end_of-Stmt) g (more_of-Stmt y end_of-Stmt)) =
        let k = stmt x in
        let m = stmt y in
        let n = stands_append (alone_in x) (alone_in y) (compared_in x) (compared_in y) (stores_in x) (stores_in y) (lefts x) (lefts y) in
        let o = tally_append action (actions x) (actions y) in
        omega arith
    stmt (s.Case' kind a h row) =
        let k = items row in
        let m = tally_append expr (all_labels_in row) (flat_map compared_exprs (case_compared_in row)) in
        omega arith
    stmt (s.Blocking q a) = let k = store_is q a in omega arith
    stmt (s.Nonblocking q a) = let k = store_is q a in omega arith

    rows : {n : _} (row : Row_of-Stmt n) → stands (row_alone_in row) (row_compared_in row) (row_stores_in row) (row_lefts row) ≡ tally action (row_actions row)
    rows end_of-Stmt = refl
    rows (more_of-Stmt x rest) =
        let k = stmt x in
        let m = rows rest in
        let n = stands_append (alone_in x) (row_alone_in rest) (compared_in x) (row_compared_in rest) (stores_in x) (row_stores_in rest) (lefts x) (row_lefts rest) in
        let o = tally_append action (actions x) (row_actions rest) in
        omega arith

    items : {n : _} (row : Row_of-CaseItem n) → tally expr (all_labels_in row) + stands (case_alone_in row) (case_compared_in row) (case_stores_in row) (case_lefts row) ≡ tally action (case_actions row)
    items end_of-CaseItem = refl
    items (more_of-CaseItem labels body rest) =
        let k = stmt body in
        let m = items rest in
        let n = stands_append (alone_in body) (case_alone_in rest) (compared_in body) (case_compared_in rest) (stores_in body) (case_stores_in rest) (lefts body) (case_lefts rest) in
        let o = tally_append action (map Tests (exprs_in labels) ++ actions body) (case_actions rest) in
        let p = tally_append action (map Tests (exprs_in labels)) (actions body) in
        let q = tests_are (exprs_in labels) in
        let r = tally_append expr (exprs_in labels) (all_labels_in rest) in
        omega arith

  abbrev left_of : Assign → Lval
  left_of a = a.left

  abbrev lefts_in : Always → List Lval
  lefts_in k = lefts k.body

  assigns_are : (as' : List Assign) → tally expr (flat_map assign_exprs as') + tally left (map left_of as') ≡ tally w (flat_map assign_uses as')
  assigns_are [] = refl
  assigns_are (a ∷ as') =
      let h = assigns_are as' in
      let k = tally_append expr (assign_exprs a) (flat_map assign_exprs as') in
      let m = tally_append expr (numbers_in a.left) (a.right ∷ []) in
      let n = tally_append w (assign_uses a) (flat_map assign_uses as') in
      let o = store_is a.left a.right in
      omega arith

  block_is : (k : Always) → tally expr (block_exprs k) + tally left (lefts k.body) ≡ tally w (block_uses k)
  block_is k =
      let h = stmt k.body in
      let m = tally_append expr (alone_in k.body ++ flat_map compared_exprs (compared_in k.body)) (map right_of (stores_in k.body)) in
      let n = tally_append expr (alone_in k.body) (flat_map compared_exprs (compared_in k.body)) in
      let o = tally_flat w action_uses (actions k.body) in
      omega arith

  blocks_are : (ks : List Always) → tally expr (flat_map block_exprs ks) + tally left (flat_map lefts_in ks) ≡ tally w (flat_map block_uses ks)
  blocks_are [] = refl
  blocks_are (k ∷ ks) =
      let h = blocks_are ks in
      let b = block_is k in
      let m = tally_append expr (block_exprs k) (flat_map block_exprs ks) in
      let n = tally_append left (lefts k.body) (flat_map lefts_in ks) in
      let o = tally_append w (block_uses k) (flat_map block_uses ks) in
      omega arith

  pub same_sum : (f : Flat) → tally w (told f) ≡ tally w (uses_of f)
  same_sum f =
      let h = assigns_are f.assigns in
      let k = blocks_are f.blocks in
      let m = tally_append w (flat_map reads_of (exprs_of f)) (flat_map parts_of (lefts_of f)) in
      let n = tally_flat w reads_of (exprs_of f) in
      let o = tally_flat w parts_of (lefts_of f) in
      let p = tally_append expr (flat_map assign_exprs f.assigns) (flat_map block_exprs f.blocks) in
      let q = tally_append left (map left_of f.assigns) (flat_map lefts_in f.blocks) in
      let r = tally_append w (flat_map assign_uses f.assigns) (flat_map block_uses f.blocks) in
      omega arith

-- ---- elements

module _ {A : Type 0} (p : A → Bool) where
  abbrev pub one : A → ℕ
  one x = cond (p x) 1 0

  abbrev pub Has : List A → Type 0
  Has xs = (x : A) × Among xs x × (p x ≡ true)

  found_at : (x : A) (xs : List A) (t : Bool) → p x ≡ t → 0 < cond t 1 0 + tally one xs → (0 < tally one xs → Has xs) → Has (x ∷ xs)
  found_at x xs true e h k = (x, inl refl, e)
  found_at x xs false e h k = let r = k (omega arith) in (r.0, inr r.1, r.2)

  found : (xs : List A) → 0 < tally one xs → Has xs
  found [] h = absurd (omega arith)
  found (x ∷ xs) h = found_at x xs (p x) refl h (found xs)

  finds : (xs : List A) (x : A) → Among xs x → p x ≡ true → 0 < tally one xs
  finds [] x h e = absurd h
  finds (y ∷ ys) x (inl h) e = let k : one y ≡ 1 = ap (λ (b : Bool). cond b 1 0) (ap p h ∙ e) in omega arith
  finds (y ∷ ys) x (inr h) e = let k = finds ys x h e in omega arith

  pub has_same : (xs ys : List A) → tally one xs ≡ tally one ys → Has xs → Has ys
  has_same xs ys e (x, h, k) = found ys (subst (λ n. 0 < n) e (finds xs x h k))

-- a use that passes a test is one of the text
pub to_uses : (f : Flat) (p : Lval → Bool) → Has p (told f) → Has p (uses_of f)
to_uses f p = has_same p (told f) (uses_of f) (same_sum (one p) f)

pub from_uses : (f : Flat) (p : Lval → Bool) → Has p (uses_of f) → Has p (told f)
from_uses f p = has_same p (uses_of f) (told f) (sym (same_sum (one p) f))
