-- Bits that a block leaves, and bits that are apart.
use Rattle.std.proofs.Common.{◌≡◌, ℕ, max, Bool, true, false, List, ◌∷◌, ◌++◌, ap, ◌∙◌, refl, inl, ◌%◌, ◌^◌}
use Rattle.std.specs.Prelude.{if◌then◌else◌}
use Rattle.std.specs.Int.{bit_at}
use Rattle.std.specs.List.{flat_map}
use Rattle.vlog_tree.specs.declared.expr.Expr.{Expr}
use Rattle.vlog_tree.specs.declared.stmt.Labels.{Labels}
use Rattle.vlog_tree.specs.declared.stmt.Lval.{Lval}
use Rattle.vlog_tree.specs.declared.stmt.Stmt.{Stmt, Row_of-Stmt, end_of-Stmt, more_of-Stmt, Row_of-CaseItem, end_of-CaseItem, more_of-CaseItem}
use Rattle.vlog_tree.specs.declared.stmt.Stmt.TheVariants as s
use Rattle.vlog_tree.specs.Value.{assigned}
use Rattle.vlog_tree_runs.specs.declared.flat.Signal.{Signal}
use Rattle.vlog_tree_runs.specs.Places.{Name, Cycle, Among, Place, valuation, pieces, total, give, store}
use Rattle.vlog_tree_runs.specs.Blocks.{labels_in, case_width, case_sign, any_matches, is_default, seen, is_false, run, run_row, run_items, run_default, lefts, row_lefts, case_lefts}
use Rattle.elab_flat_faults.specs.Texts.{names_in, numbers_in}
use Rattle.elab_flat_laws.proofs.Lists.{append_left, append_right}
use Rattle.elab_step_laws.specs.Laws.{place_over, AreVectors, StoreStays, BitsStay, StoreApart, BitsApart, StoreFollows}
use Rattle.elab_step_laws.proofs.Giving.{Writes, AnyCovers, give_apart, give_given, give_kept}
use Rattle.elab_step_laws.proofs.Reading.{values, ReadAlike, first_of_two, second_of_two, same_operand, read_alike}
use Rattle.elab_step_laws.proofs.Covering.{covered, same_pieces, sets_covers}

-- what holds of both holds of the one that a test chooses
pub chosen : (P : ℕ → Type 0) (t : Bool) (m n : ℕ) → P m → P n → P (if t then m else n)
chosen P true m n h k = h
chosen P false m n h k = k

pub chosen_pair : (P : ℕ → ℕ → Type 0) (t : Bool) (m n k j : ℕ) → P m k → P n j → P (if t then m else n) (if t then k else j)
chosen_pair P true m n k j h g = h
chosen_pair P false m n k j h g = g

-- no part of these left sides, their numbers read in any cycle, has bit b of x
abbrev pub Avoid : Place → List Lval → Name → ℕ → Type 0
Avoid p ls x b = (left : Lval) → Among ls left → (e : Cycle) → AnyCovers (pieces p e left) x b → ⊥

abbrev Same : ℕ → ℕ → ℕ → Type 0
Same b m n = bit_at m b ≡ bit_at n b

module _ (w : Writes) (p : Place) (x : Name) (b : ℕ) where
  avoid_left : (ks ls : List Lval) → Avoid p (ks ++ ls) x b → Avoid p ks x b
  avoid_left ks ls h left m e k = h left (append_left ks ls left m) e k

  avoid_right : (ks ls : List Lval) → Avoid p (ks ++ ls) x b → Avoid p ls x b
  avoid_right ks ls h left m e k = h left (append_right ks ls left m) e k

  pub store_keeps : (left : Lval) (right : Expr) (c d : Cycle) → (AnyCovers (pieces p c left) x b → ⊥) → bit_at (store p c left right d x) b ≡ bit_at (d x) b
  store_keeps left right c d n = give_kept w (pieces p c left) (assigned (valuation p c) right (total (pieces p c left))) d x b n

  mutual
    pub run_keeps : (t : Bool) (body : Stmt) (c d : Cycle) → Avoid p (lefts body) x b → bit_at (run t p body c d x) b ≡ bit_at (d x) b
    run_keeps t s.Empty c d h = refl
    run_keeps t (s.Block' n g row) c d h = row_keeps t row c d h
    run_keeps t (s.If' a g (more_of-Stmt body end_of-Stmt)) c d h =
        chosen (λ z. Same b z (d x)) (is_false p (seen t c d) a) (d x) (run t p body c d x) refl (run_keeps t body c d h)
    run_keeps t (s.IfElse' a g (more_of-Stmt body end_of-Stmt) f (more_of-Stmt other end_of-Stmt)) c d h =
        chosen (λ z. Same b z (d x)) (is_false p (seen t c d) a) (run t p other c d x) (run t p body c d x)
        (run_keeps t other c d (avoid_right (lefts body) (lefts other) h)) (run_keeps t body c d (avoid_left (lefts body) (lefts other) h))
    run_keeps t (s.Case' kind a g row) c d h =
        let v = valuation p (seen t c d) in
        items_keep t (any_matches kind v (case_width v a (labels_in row)) (case_sign v a (labels_in row)) a) row c d (run_default t p row c d) h (default_keeps t row c d h)
    run_keeps t (s.Blocking left right) c d h = store_keeps left right (seen t c d) d (λ k. h left (inl refl) (seen t c d) k)
    run_keeps t (s.Nonblocking left right) c d h = store_keeps left right (seen t c d) d (λ k. h left (inl refl) (seen t c d) k)

    row_keeps : {n : _} (t : Bool) (row : Row_of-Stmt n) (c d : Cycle) → Avoid p (row_lefts row) x b → bit_at (run_row t p row c d x) b ≡ bit_at (d x) b
    row_keeps t end_of-Stmt c d h = refl
    row_keeps t (more_of-Stmt a rest) c d h =
        row_keeps t rest c (run t p a c d) (avoid_right (lefts a) (row_lefts rest) h) ∙ run_keeps t a c d (avoid_left (lefts a) (row_lefts rest) h)

    items_keep : {n : _} (t : Bool) (test : Labels → Bool) (row : Row_of-CaseItem n) (c d otherwise : Cycle) → Avoid p (case_lefts row) x b →
        bit_at (otherwise x) b ≡ bit_at (d x) b → bit_at (run_items t p test row c d otherwise x) b ≡ bit_at (d x) b
    items_keep t test end_of-CaseItem c d otherwise h k = k
    items_keep t test (more_of-CaseItem labels body rest) c d otherwise h k =
        chosen (λ z. Same b z (d x)) (test labels) (run t p body c d x) (run_items t p test rest c d otherwise x)
        (run_keeps t body c d (avoid_left (lefts body) (case_lefts rest) h)) (items_keep t test rest c d otherwise (avoid_right (lefts body) (case_lefts rest) h) k)

    default_keeps : {n : _} (t : Bool) (row : Row_of-CaseItem n) (c d : Cycle) → Avoid p (case_lefts row) x b → bit_at (run_default t p row c d x) b ≡ bit_at (d x) b
    default_keeps t end_of-CaseItem c d h = refl
    default_keeps t (more_of-CaseItem labels body rest) c d h =
        chosen (λ z. Same b z (d x)) (is_default labels) (run t p body c d x) (run_default t p rest c d x)
        (run_keeps t body c d (avoid_left (lefts body) (case_lefts rest) h)) (default_keeps t rest c d (avoid_right (lefts body) (case_lefts rest) h))

  -- ---- what is read being fixed

  store_apart_at : (left : Lval) (right : Expr) (c d e : Cycle) → Same b (d x) (e x) → Same b (store p c left right d x) (store p c left right e x)
  store_apart_at left right c d e h = give_apart w (pieces p c left) (assigned (valuation p c) right (total (pieces p c left))) d e x b h

  mutual
    run_apart : (body : Stmt) (c d e : Cycle) → Same b (d x) (e x) → Same b (run false p body c d x) (run false p body c e x)
    run_apart s.Empty c d e h = h
    run_apart (s.Block' n g row) c d e h = row_apart row c d e h
    run_apart (s.If' a g (more_of-Stmt body end_of-Stmt)) c d e h =
        chosen_pair (Same b) (is_false p c a) (d x) (run false p body c d x) (e x) (run false p body c e x) h (run_apart body c d e h)
    run_apart (s.IfElse' a g (more_of-Stmt body end_of-Stmt) f (more_of-Stmt other end_of-Stmt)) c d e h =
        chosen_pair (Same b) (is_false p c a) (run false p other c d x) (run false p body c d x) (run false p other c e x) (run false p body c e x)
        (run_apart other c d e h) (run_apart body c d e h)
    run_apart (s.Case' kind a g row) c d e h =
        let v = valuation p c in
        items_apart (any_matches kind v (case_width v a (labels_in row)) (case_sign v a (labels_in row)) a) row c d e (run_default false p row c d) (run_default false p row c e) h
        (default_apart row c d e h)
    run_apart (s.Blocking left right) c d e h = store_apart_at left right c d e h
    run_apart (s.Nonblocking left right) c d e h = store_apart_at left right c d e h

    row_apart : {n : _} (row : Row_of-Stmt n) (c d e : Cycle) → Same b (d x) (e x) → Same b (run_row false p row c d x) (run_row false p row c e x)
    row_apart end_of-Stmt c d e h = h
    row_apart (more_of-Stmt a rest) c d e h = row_apart rest c (run false p a c d) (run false p a c e) (run_apart a c d e h)

    items_apart : {n : _} (test : Labels → Bool) (row : Row_of-CaseItem n) (c d e o u : Cycle) → Same b (d x) (e x) → Same b (o x) (u x) →
        Same b (run_items false p test row c d o x) (run_items false p test row c e u x)
    items_apart test end_of-CaseItem c d e o u h k = k
    items_apart test (more_of-CaseItem labels body rest) c d e o u h k =
        chosen_pair (Same b) (test labels) (run false p body c d x) (run_items false p test rest c d o x) (run false p body c e x) (run_items false p test rest c e u x)
        (run_apart body c d e h) (items_apart test rest c d e o u h k)

    default_apart : {n : _} (row : Row_of-CaseItem n) (c d e : Cycle) → Same b (d x) (e x) → Same b (run_default false p row c d x) (run_default false p row c e x)
    default_apart end_of-CaseItem c d e h = h
    default_apart (more_of-CaseItem labels body rest) c d e h =
        chosen_pair (Same b) (is_default labels) (run false p body c d x) (run_default false p rest c d x) (run false p body c e x) (run_default false p rest c e x)
        (run_apart body c d e h) (default_apart rest c d e h)

-- ---- the laws

pub store_stays : Writes → StoreStays
store_stays w gs left right c d x b h n = store_keeps w (place_over gs) x b left right c d (λ k. n (covered gs h c left x b k).drives)

pub bits_stay : Writes → BitsStay
bits_stay w t gs body c d x b h n = run_keeps w (place_over gs) x b t body c d (λ left m e k. n left m (covered gs h e left x b k).drives)

pub store_apart : Writes → StoreApart
store_apart w p left right c d e x b h = store_apart_at w p x b left right c d e h

pub bits_apart : Writes → BitsApart
bits_apart w p body c d e x b h = run_apart w p x b body c d e h

-- ---- an assignment whose names read the same

-- it has the same parts, and gives them the same number
pub record SameStore (gs : List Signal) (c d : Cycle) (left : Lval) (right : Expr) : Type 0 where
  pub parts : pieces (place_over gs) c left ≡ pieces (place_over gs) d left
  pub number : assigned (values gs c) right (total (pieces (place_over gs) c left)) ≡ assigned (values gs d) right (total (pieces (place_over gs) d left))

pub same_store : (gs : List Signal) (c d : Cycle) (left : Lval) (right : Expr) → AreVectors gs → ReadAlike (values gs c) (values gs d) (flat_map names_in (right ∷ numbers_in left)) →
    SameStore gs c d left right
same_store gs c d left right h m =
    let o = same_operand (values gs c) (values gs d) right (first_of_two (values gs c) (values gs d) (names_in right) (flat_map names_in (numbers_in left)) m) in
    let q = same_pieces gs h c d left (second_of_two (values gs c) (values gs d) (names_in right) (flat_map names_in (numbers_in left)) m) in
    record { parts = q; number = λ r. (o r).value (max (o r).width (total (q r))) (o r).signed % 2 ^ total (q r) }

pub same_given : (gs : List Signal) (c d : Cycle) (left : Lval) (right : Expr) (u : Cycle) (x : Name) → SameStore gs c d left right →
    store (place_over gs) c left right u x ≡ store (place_over gs) d left right u x
same_given gs c d left right u x m = λ r. give (m.parts r) (m.number r) u x

pub store_follows : Writes → StoreFollows
store_follows w gs left right c d u v x b h l s agree =
    give_given w (pieces (place_over gs) c left) (assigned (values gs c) right (total (pieces (place_over gs) c left))) u v x b (sets_covers gs h c left x b l s)
    ∙ ap (λ n. bit_at n b) (same_given gs c d left right v x (same_store gs c d left right h (read_alike gs c d (flat_map names_in (right ∷ numbers_in left)) h agree)))
