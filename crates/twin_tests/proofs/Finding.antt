-- The leaf of a name in rows of nodes is the one that it has in the row of its offset.
use Rattle.std.proofs.Common.{◌≡◌, ℕ, zero, suc, ◌+◌, ◌<◌, ◌≤◌, ◌≢◌, inl, inr, Bool, true, false, List, [], ◌∷◌, ◌++◌, length, drop, get_or, Option, Some, None, refl, sym, ap, ◌∙◌, subst, arith}
use Rattle.std.specs.Prelude.{nat_eq, ◌&&◌, if◌then◌else◌, slice_index}
use Rattle.std.specs.List.{All}
use Rattle.std.specs.Str.{bytes_eq}
use Rattle.std.proofs.lemmas.Bool.Decides.{eqb_tells}
use Rattle.std.proofs.lemmas.List.Elements.{All-head, All-tail}
use Rattle.vlog_tree.specs.Valuation.{IsLength}
use Rattle.set_tree.specs.declared.set.Name.{Name}
use Rattle.elab_step_expr.specs.declared.leaves.Leaf.{Leaf}
use Rattle.elab_step_expr.specs.Leaves.{leaf_at}
use Rattle.twin_tests.specs.Leaves.{leaf_of, row_leaves, leaves_from}

-- ---- in one row

one_more : (names : List Name) (t i : ℕ) (row : List ℕ) (x : Name) → i < length names → length row ≡ length names → x ≡ get_or names i x →
    row_leaves (drop i names) t (drop i row) ≡ leaf_of x t (slice_index row i) ∷ row_leaves (drop (suc i) names) t (drop (suc i) row)
one_more [] t i row x lt long is = absurd (omega arith)
one_more (n ∷ names) t i [] x lt long is = absurd (omega (arith, long))
one_more (n ∷ names) t zero (j ∷ row) x lt long is = ap (λ (z : Name). leaf_of z t j ∷ row_leaves names t row) (sym is)
one_more (n ∷ names) t (suc i) (j ∷ row) x lt long is = one_more names t i row x (omega arith) (omega (arith, long)) is

unnamed : (l : Leaf) (ls : List Leaf) (x : List ℕ) (j : ℕ) (s t : Bool) → s ≡ nat_eq l.offset j → t ≡ bytes_eq l.name x → t ≡ false → leaf_at (l ∷ ls) x j ≡ leaf_at ls x j
unnamed l ls x j true true p q h = absurd cc
unnamed l ls x j true false p q h = (λ r. if sym p r && sym q r then Some l else leaf_at ls x j)
unnamed l ls x j false t p q h = (λ r. if sym p r && sym q r then Some l else leaf_at ls x j)

-- a name that is another one is passed over
pub passed_over : (names : List Name) (t i : ℕ) (row : List ℕ) (x : Name) (text : List ℕ) (all : Option Leaf) → i < length names → length row ≡ length names → x ≡ get_or names i x → bytes_eq x.name text ≡ false →
    leaf_at (row_leaves (drop i names) t (drop i row)) text t ≡ all → leaf_at (row_leaves (drop (i + 1) names) t (drop (i + 1) row)) text t ≡ all
passed_over names t i row x text all lt long is other h =
    let next : i + 1 ≡ suc i = omega arith in
    ap (λ (k : ℕ). leaf_at (row_leaves (drop k names) t (drop k row)) text t) next
    ∙ (sym (unnamed (leaf_of x t (slice_index row i)) (row_leaves (drop (suc i) names) t (drop (suc i) row)) text t _ _ refl refl other) ∙ (ap (λ (ls : List Leaf). leaf_at ls text t) (sym (one_more names t i row x lt long is)) ∙ h))

-- ---- in rows

elsewhere : (l : Leaf) (ls : List Leaf) (x : List ℕ) (j : ℕ) → nat_eq l.offset j ≡ false → leaf_at (l ∷ ls) x j ≡ leaf_at ls x j
elsewhere l ls x j h = ap (λ (t : Bool). if t && bytes_eq l.name x then Some l else leaf_at ls x j) h

other_row : (names : List Name) (t : ℕ) (row : List ℕ) (ls : List Leaf) (x : List ℕ) (j : ℕ) → nat_eq t j ≡ false → leaf_at (row_leaves names t row ++ ls) x j ≡ leaf_at ls x j
other_row [] t row ls x j h = refl
other_row (n ∷ names) t [] ls x j h = refl
other_row (n ∷ names) t (i ∷ row) ls x j h = elsewhere (leaf_of n t i) (row_leaves names t row ++ ls) x j h ∙ other_row names t row ls x j h

apart : (t j : ℕ) → t ≢ j → nat_eq t j ≡ false
apart t j h = elim (eqb_tells t j) [ inl e ↦ absurd (h e.1) | inr e ↦ e.0 ]

last_part : (ls ms : List Leaf) (x : List ℕ) (j : ℕ) → leaf_at ms x j ≡ None → leaf_at (ls ++ ms) x j ≡ leaf_at ls x j
last_part [] ms x j h = h
last_part (l ∷ ls) ms x j h = ap (λ (o : Option Leaf). if nat_eq l.offset j && bytes_eq l.name x then Some l else o) (last_part ls ms x j h)

below : (names : List Name) (t : ℕ) (rows : List (List ℕ)) (x : List ℕ) (j : ℕ) → j < t → leaf_at (leaves_from names t rows) x j ≡ None
below names t [] x j lt = refl
below names t (row ∷ rows) x j lt =
    other_row names t row (leaves_from names (suc t) rows) x j (apart t j (λ same. let no : ⊥ = omega (arith, same, lt) in no)) ∙ below names (suc t) rows x j (omega (arith, lt))

pub past_rows : (names : List Name) (t : ℕ) (rows : List (List ℕ)) (x : List ℕ) (j : ℕ) → t + length rows ≤ j → leaf_at (leaves_from names t rows) x j ≡ None
past_rows names t [] x j le = refl
past_rows names t (row ∷ rows) x j le =
    other_row names t row (leaves_from names (suc t) rows) x j (apart t j (λ same. let no : ⊥ = omega (arith, same, le) in no)) ∙ past_rows names (suc t) rows x j (omega (arith, le))

in_row : (names : List Name) (t k : ℕ) (rows : List (List ℕ)) (row : List ℕ) (x : List ℕ) (j : ℕ) → j ≡ t + k → k < length rows → row ≡ get_or rows k row → leaf_at (leaves_from names t rows) x j ≡ leaf_at (row_leaves names j row) x j
in_row names t k [] row x j at lt is = absurd (omega (arith, lt))
in_row names t zero (first ∷ rows) row x j at lt is =
    let same : t ≡ j = omega (arith, at) in
    last_part (row_leaves names t first) (leaves_from names (suc t) rows) x j (below names (suc t) rows x j (omega (arith, at))) ∙ (λ r. leaf_at (row_leaves names (same r) (sym is r)) x j)
in_row names t (suc k) (first ∷ rows) row x j at lt is =
    other_row names t first (leaves_from names (suc t) rows) x j (apart t j (λ same. let no : ⊥ = omega (arith, same, at) in no)) ∙ in_row names (suc t) k rows row x j (omega (arith, at)) (omega (arith, lt)) is

pub row_at : (names : List Name) (j : ℕ) (rows : List (List ℕ)) (row : List ℕ) (x : List ℕ) → j < length rows → row ≡ get_or rows j row → leaf_at (leaves_from names 0 rows) x j ≡ leaf_at (row_leaves names j row) x j
row_at names j rows row x lt is = in_row names 0 j rows row x j (omega arith) lt is

-- ---- lengths

wide_step : (l k : Leaf) (rest : Option Leaf) (t : Bool) → IsLength k.width → (rest ≡ Some l → IsLength l.width) → (if t then Some k else rest) ≡ Some l → IsLength l.width
wide_step l k rest true one more h = let same : k ≡ l = cc in subst (λ (z : Leaf). IsLength z.width) same one
wide_step l k rest false one more h = more h

wide_row : (names : List Name) (t : ℕ) (row : List ℕ) (ls : List Leaf) (l : Leaf) (x : List ℕ) (j : ℕ) → All (λ n. IsLength n.width) names → (leaf_at ls x j ≡ Some l → IsLength l.width) → leaf_at (row_leaves names t row ++ ls) x j ≡ Some l → IsLength l.width
wide_row [] t row ls l x j wide more h = more h
wide_row (n ∷ names) t [] ls l x j wide more h = more h
wide_row (n ∷ names) t (i ∷ row) ls l x j wide more h =
    wide_step l (leaf_of n t i) (leaf_at (row_leaves names t row ++ ls) x j) _ (All-head (λ (m : Name). IsLength m.width) n names wide) (wide_row names t row ls l x j (All-tail (λ (m : Name). IsLength m.width) n names wide) more) h

pub wide_leaf : (names : List Name) (t : ℕ) (rows : List (List ℕ)) (l : Leaf) (x : List ℕ) (j : ℕ) → All (λ n. IsLength n.width) names → leaf_at (leaves_from names t rows) x j ≡ Some l → IsLength l.width
wide_leaf names t [] l x j wide h = absurd cc
wide_leaf names t (row ∷ rows) l x j wide h = wide_row names t row (leaves_from names (suc t) rows) l x j wide (wide_leaf names (suc t) rows l x j wide) h
