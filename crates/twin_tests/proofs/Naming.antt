-- The names of a set in rows of nodes, and their values.
use Rattle.std.proofs.Common.{◌≡◌, ℕ, suc, ◌+◌, List, [], ◌∷◌, ◌++◌, length, map, take, refl, sym, ap, ◌∙◌, subst, arith}
use Rattle.std.specs.List.{All}
use Rattle.std.proofs.lemmas.List.{take-map, length-take}
use Rattle.std.proofs.lemmas.List.Elements.{All-head, All-tail, All-cons, All-nil, All-take}
use Rattle.std.proofs.lemmas.Nat.{pow_pos}
use Rattle.vlog_tree.specs.declared.expr.Expr.{Expr}
use Rattle.vlog_tree.specs.declared.valuation.Entry.{Entry}
use Rattle.vlog_tree.specs.Valuation.{IsLength}
use Rattle.vlog_tree.specs.Value.{IsFormed, own_value}
use Rattle.word_core.specs.Words.{Bits}
use Rattle.word_dag.specs.declared.node.Node.{Node}
use Rattle.word_dag.specs.Nodes.{Naming}
use Rattle.set_tree.specs.declared.set.Name.{Name}
use Rattle.set_tree.specs.declared.set.Set.{Set}
use Rattle.set_tree.specs.Formulas.{largest_offset, row_entries, entries_from, meaning_of}
use Rattle.set_tree.specs.Meaning.{Row}
use Rattle.set_tree.specs.Traces.{IsRow}
use Rattle.elab_step_expr.specs.declared.leaves.Leaf.{Leaf}
use Rattle.elab_step_expr.specs.Leaves.{entry_of, entries, valued, declared, AreReady}
use Rattle.elab_step_expr.specs.Nodes.{words, number_at, Makes}
use Rattle.elab_step_expr.specs.Terms.{IsAlone}
use Rattle.twin_tests.specs.Building.{IsWide, IsLeafRow, AreLeaves, Shows, Counts, IsReadable, row_in}
use Rattle.twin_tests.specs.Leaves.{leaf_of, row_leaves, leaves_from, leaves_read}
use Rattle.twin_tests.proofs.Read.{ready_append, value_read}
use Rattle.twin_tests.proofs.Undivided.{undivided}

-- ---- the entries that leaves give

module _ (g : ℕ → ℕ) where
  abbrev by_node : Leaf → ℕ
  by_node l = g l.node

  entries_append : (xs ys : List Leaf) → entries by_node (xs ++ ys) ≡ entries by_node xs ++ entries by_node ys
  entries_append [] ys = refl
  entries_append (x ∷ xs) ys = ap (λ (r : List Entry). entry_of x (g x.node) ∷ r) (entries_append xs ys)

  row_is : (names : List Name) (t : ℕ) (row : List ℕ) → entries by_node (row_leaves names t row) ≡ row_entries names t (map g row)
  row_is [] t row = refl
  row_is (n ∷ ns) t [] = refl
  row_is (n ∷ ns) t (i ∷ row) = ap (λ (r : List Entry). entry_of (leaf_of n t i) (g i) ∷ r) (row_is ns t row)

  pub rows_are : (names : List Name) (t : ℕ) (rows : List (List ℕ)) → entries by_node (leaves_from names t rows) ≡ entries_from names t (map (map g) rows)
  rows_are names t [] = refl
  rows_are names t (row ∷ rows) =
      entries_append (row_leaves names t row) (leaves_from names (suc t) rows)
      ∙ (λ r. row_is names t row r ++ rows_are names (suc t) rows r)

-- ---- leaves that have their nodes

row_ready : (names : List Name) (t : ℕ) (row : List ℕ) (ns : List Node) → All (λ n. IsLength n.width) names → IsLeafRow names ns row → AreReady (row_leaves names t row) ns
row_ready [] t row ns wide h = tt
row_ready (n ∷ names) t [] ns wide h = tt
row_ready (n ∷ names) t (i ∷ row) ns wide h =
    (All-head (λ n. IsLength n.width) n names wide, (h.0.below, h.0.width), row_ready names t row ns (All-tail (λ n. IsLength n.width) n names wide) h.1)

pub rows_ready : (names : List Name) (t : ℕ) (rows : List (List ℕ)) (ns : List Node) → All (λ n. IsLength n.width) names → All (IsLeafRow names ns) rows → AreReady (leaves_from names t rows) ns
rows_ready names t [] ns wide h = tt
rows_ready names t (row ∷ rows) ns wide h =
    ready_append ns (row_leaves names t row) (leaves_from names (suc t) rows) (row_ready names t row ns wide (All-head (IsLeafRow names ns) row rows h)) (rows_ready names (suc t) rows ns wide (All-tail (IsLeafRow names ns) row rows h))

row_long : (names : List Name) (ns : List Node) (row : List ℕ) → IsLeafRow names ns row → length row ≡ length names
row_long [] ns [] h = refl
row_long [] ns (i ∷ row) h = absurd h
row_long (n ∷ names) ns [] h = absurd h
row_long (n ∷ names) ns (i ∷ row) h = ap suc (row_long names ns row h.1)

pub rows_long : (names : List Name) (ns : List Node) (rows : List (List ℕ)) → All (IsLeafRow names ns) rows → All (λ row. length row ≡ length names) rows
rows_long names ns rows h = λ k d lt. row_long names ns _ (h k d lt)

-- ---- a formula over them

abbrev blank : ℕ → ℕ
blank i = 0

zero_row : (names : List Name) (ns : List Node) (row : List ℕ) → IsLeafRow names ns row → IsRow names (map blank row)
zero_row [] ns [] h = tt
zero_row [] ns (i ∷ row) h = absurd h
zero_row (n ∷ names) ns [] h = absurd h
zero_row (n ∷ names) ns (i ∷ row) h = (pow_pos n.width, zero_row names ns row h.1)

zero_rows : (names : List Name) (ns : List Node) (rows : List (List ℕ)) → All (IsLeafRow names ns) rows → All (IsRow names) (map (map blank) rows)
zero_rows names ns [] h = All-nil (IsRow names)
zero_rows names ns (row ∷ rows) h = All-cons (IsRow names) (map blank row) (map (map blank) rows) (zero_row names ns row (All-head (IsLeafRow names ns) row rows h)) (zero_rows names ns rows (All-tail (IsLeafRow names ns) row rows h))

zeros_long : (rows : List (List ℕ)) → length (map (map blank) rows) ≡ length rows
zeros_long [] = refl
zeros_long (row ∷ rows) = ap suc (zeros_long rows)

module _ (set : Set) (formula : Expr) (ns : List Node) (rows : List (List ℕ)) (readable : IsReadable set (length rows) formula) (leaves : AreLeaves set.names ns rows) where
  abbrev pub read : List (List ℕ)
  read = take (largest_offset formula + 1) rows

  pub read_leaves : All (IsLeafRow set.names ns) read
  read_leaves = All-take (IsLeafRow set.names ns) (largest_offset formula + 1) rows leaves.each

  pub formula_alone : IsAlone (leaves_from set.names 0 read) formula
  formula_alone =
      let long : length (map (map blank) read) ≡ largest_offset formula + 1 = zeros_long read ∙ length-take (largest_offset formula + 1) rows ∙ (omega (arith, readable.fits)) in
      record {
        formed = subst (λ v. IsFormed v formula) (sym (rows_are blank set.names 0 read)) (readable.formed.formed (map (map blank) read) (zero_rows set.names ns read read_leaves) long);
        constant = readable.formed.constant;
        defined = undivided (declared (leaves_from set.names 0 read)) formula _ _ readable.formed.undivided;
      }

  pub formula_value : (f : Naming → List Row) (x : Naming) → Shows set.names ns rows f → own_value (valued (leaves_from set.names 0 read) (words x ns)) formula ≡ (meaning_of set).value formula (f x)
  formula_value f x shows =
      let k = largest_offset formula + 1 in
      ap (λ (v : List Entry). own_value v formula) (rows_are (λ i. number_at x ns i) set.names 0 read)
      ∙ ap (λ z. own_value (entries_from set.names 0 z) formula) (sym (take-map (row_in ns x) k rows) ∙ ap (λ z. take k z) (shows.means x))

pub formula_counts : (old new : List Node) (set : Set) (formula : Expr) (rows : List (List ℕ)) (i w : ℕ) (f : Naming → List Row) (ls : List Leaf) (readable : IsReadable set (length rows) formula) → IsLength w → Makes new i w (λ x. own_value (valued ls (words x old)) formula) →
    ls ≡ leaves_read (leaves_from set.names 0 (take (largest_offset formula + 1) rows)) formula → Shows set.names old rows f → Counts new i (λ x. (meaning_of set).value formula (f x))
formula_counts old new set formula rows i w f ls readable wide made is shows = record {
  node = record { below = made.within; some = rw made.wide (omega (arith, wide.0)); most = rw made.wide wide.1 };
  means = λ x.
      ap (λ (b : Bits). b.value) (made.word x) ∙ ap (λ z. own_value (valued z (words x old)) formula) is
      ∙ value_read (leaves_from set.names 0 (take (largest_offset formula + 1) rows)) formula (words x old)
      ∙ formula_value set formula old rows readable shows.leaves f x shows;
}

-- what the calls hand on
pub leaves_are : (names a : List Name) (rows b : List (List ℕ)) (n k : ℕ) (e : Expr) (ls : List Leaf) → ls ≡ leaves_read (leaves_from a 0 b) e → a ≡ names → b ≡ take (n + 1) rows → n ≡ k → ls ≡ leaves_read (leaves_from names 0 (take (k + 1) rows)) e
leaves_are names a rows b n k e ls h ha hb hn = h ∙ (λ r. leaves_read (leaves_from (ha r) 0 (hb r)) e) ∙ ap (λ z. leaves_read (leaves_from names 0 (take (z + 1) rows)) e) hn

pub longs : (names a : List Name) (rows b : List (List ℕ)) (n k : ℕ) (ns : List Node) → a ≡ names → b ≡ take (n + 1) rows → n ≡ k → All (IsLeafRow names ns) (take (k + 1) rows) → All (λ row. length row ≡ length a) b
longs names a rows b n k ns ha hb hn h =
    let same : b ≡ take (k + 1) rows = hb ∙ ap (λ z. take (z + 1) rows) hn in
    subst (λ z. All (λ row. length row ≡ length a) z) (sym same) (subst (λ z. All (λ row. length row ≡ length z) (take (k + 1) rows)) (sym ha) (rows_long names ns (take (k + 1) rows) h))

pub made_wide : (new : List Node) (i w : ℕ) (g : Naming → ℕ) → IsLength w → Makes new i w g → IsWide new i
made_wide new i w g wide made = record { below = made.within; some = rw made.wide (omega (arith, wide.0)); most = rw made.wide wide.1 }
