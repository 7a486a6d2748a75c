-- Nodes of one bit and of numbers, and what older nodes are in a longer dag.
use Rattle.std.proofs.Common.{◌≡◌, ℕ, ◌<◌, ◌≤◌, Bool, true, false, not, List, [], ◌∷◌, length, map, take, drop, refl, sym, ap, ◌∙◌, arith}
use Rattle.std.specs.Prelude.{slice_index, ◌&&◌, ◌||◌, ◌==◌}
use Rattle.std.specs.List.{All}
use Rattle.std.proofs.lemmas.List.{length-map, drop-map, take-map}
use Rattle.std.proofs.lemmas.List.Elements.{All-head, All-tail, All-drop, All-take}
use Rattle.word_core.specs.Words.{Bits, flag, and_of, eq_of, or_of, not_of}
use Rattle.word_dag.specs.declared.node.Node.{Node}
use Rattle.word_dag.specs.declared.node.Node.TheVariants.{Const, Two, Not, Zext}
use Rattle.word_dag.specs.declared.node.Op.TheVariants.{And, Or, Eq}
use Rattle.word_dag.specs.Nodes.{Naming, FitsNode, width_of}
use Rattle.word_dag.specs.Adding.{Adds, Grows, Keeps}
use Rattle.word_dag.proofs.Valued.{grows_kept}
use Rattle.elab_step_expr.proofs.Kept.{keeps_same, keeps_then}
use Rattle.set_tree.specs.declared.set.Name.{Name}
use Rattle.set_tree.specs.Meaning.{Row}
use Rattle.twin_tests_laws.specs.Tests.{same}
use Rattle.twin_tests.specs.Building.{HasWidth, IsWide, IsLeafRow, Tests, Counts, Shows, AreLeaves, word_in, row_in}

-- ---- longer dags

pub has_grown : (a b : List Node) (i w : ℕ) → Grows a b → HasWidth a i w → HasWidth b i w
has_grown a b i w ab h = record { below = omega (arith, ab.longer, h.below); width = ab.widths i h.below ∙ h.width }

pub has_later : (a b : List Node) (i w : ℕ) → Keeps a b → HasWidth a i w → HasWidth b i w
has_later a b i w ab h = has_grown a b i w (grows_kept a b ab) h

pub wide_later : (a b : List Node) (i : ℕ) → Keeps a b → IsWide a i → IsWide b i
wide_later a b i ab h = record { below = omega (arith, ab.longer, h.below); some = rw (ab.widths i h.below) h.some; most = rw (ab.widths i h.below) h.most }

pub tests_grown : (a b : List Node) (i : ℕ) (f : Naming → Bool) → Grows a b → Tests a i f → Tests b i f
tests_grown a b i f ab t = record { node = has_grown a b i 1 ab t.node; means = λ e. ab.values e i t.node.below ∙ t.means e }

pub tests_later : (a b : List Node) (i : ℕ) (f : Naming → Bool) → Keeps a b → Tests a i f → Tests b i f
tests_later a b i f ab t = tests_grown a b i f (grows_kept a b ab) t

pub counts_later : (a b : List Node) (i : ℕ) (f : Naming → ℕ) → Keeps a b → Counts a i f → Counts b i f
counts_later a b i f ab t = record { node = wide_later a b i ab t.node; means = λ e. ap (λ (w : Bits). w.value) (ab.values e i t.node.below) ∙ t.means e }

pub leaf_row_grown : (a b : List Node) (names : List Name) (row : List ℕ) → Grows a b → IsLeafRow names a row → IsLeafRow names b row
leaf_row_grown a b [] [] ab h = h
leaf_row_grown a b [] (i ∷ row) ab h = absurd h
leaf_row_grown a b (name ∷ names) [] ab h = absurd h
leaf_row_grown a b (name ∷ names) (i ∷ row) ab h = (has_grown a b i name.width ab h.0, leaf_row_grown a b names row ab h.1)

leaves_grown : (a b : List Node) (names : List Name) (rows : List (List ℕ)) → Grows a b → AreLeaves names a rows → AreLeaves names b rows
leaves_grown a b names rows ab leaves = record { each = λ k d lt. leaf_row_grown a b names _ ab (leaves.each k d lt) }

pub leaves_later : (a b : List Node) (names : List Name) (rows : List (List ℕ)) → Keeps a b → AreLeaves names a rows → AreLeaves names b rows
leaves_later a b names rows ab leaves = leaves_grown a b names rows (grows_kept a b ab) leaves

pub row_grown : (a b : List Node) (names : List Name) (e : Naming) (row : List ℕ) → Grows a b → IsLeafRow names a row → row_in b e row ≡ row_in a e row
row_grown a b [] e [] ab h = refl
row_grown a b [] e (i ∷ row) ab h = absurd h
row_grown a b (name ∷ names) e [] ab h = absurd h
row_grown a b (name ∷ names) e (i ∷ row) ab h =
    let here : (word_in b e i).value ≡ (word_in a e i).value = ap (λ (w : Bits). w.value) (ab.values e i h.0.below) in
    let rest : row_in b e row ≡ row_in a e row = row_grown a b names e row ab h.1 in
    cc

rows_grown : (a b : List Node) (names : List Name) (e : Naming) (rows : List (List ℕ)) → Grows a b → All (IsLeafRow names a) rows → map (row_in b e) rows ≡ map (row_in a e) rows
rows_grown a b names e [] ab h = refl
rows_grown a b names e (row ∷ rows) ab h =
    let here = row_grown a b names e row ab (All-head (IsLeafRow names a) row rows h) in
    let rest = rows_grown a b names e rows ab (All-tail (IsLeafRow names a) row rows h) in
    cc

pub shows_grown : (a b : List Node) (names : List Name) (rows : List (List ℕ)) (f : Naming → List Row) → Grows a b → Shows names a rows f → Shows names b rows f
shows_grown a b names rows f ab s = record {
  leaves = leaves_grown a b names rows ab s.leaves;
  means = λ e. rows_grown a b names e rows ab s.leaves.each ∙ s.means e;
}

pub shows_later : (a b : List Node) (names : List Name) (rows : List (List ℕ)) (f : Naming → List Row) → Keeps a b → Shows names a rows f → Shows names b rows f
shows_later a b names rows f ab s = shows_grown a b names rows f (grows_kept a b ab) s

-- the rows from t on, and the first k rows
pub leaves_drop : (names : List Name) (nodes : List Node) (rows : List (List ℕ)) (t : ℕ) → AreLeaves names nodes rows → AreLeaves names nodes (drop t rows)
leaves_drop names nodes rows t leaves = record { each = All-drop (IsLeafRow names nodes) t rows leaves.each }

pub shows_drop : (names : List Name) (nodes : List Node) (rows : List (List ℕ)) (t : ℕ) (f : Naming → List Row) → Shows names nodes rows f → Shows names nodes (drop t rows) (λ e. drop t (f e))
shows_drop names nodes rows t f s = record {
  leaves = leaves_drop names nodes rows t s.leaves;
  means = λ e. sym (drop-map (row_in nodes e) t rows) ∙ ap (drop t) (s.means e);
}

pub leaves_take : (names : List Name) (nodes : List Node) (rows : List (List ℕ)) (k : ℕ) → AreLeaves names nodes rows → AreLeaves names nodes (take k rows)
leaves_take names nodes rows k leaves = record { each = All-take (IsLeafRow names nodes) k rows leaves.each }

pub shows_take : (names : List Name) (nodes : List Node) (rows : List (List ℕ)) (k : ℕ) (f : Naming → List Row) → Shows names nodes rows f → Shows names nodes (take k rows) (λ e. take k (f e))
shows_take names nodes rows k f s = record {
  leaves = leaves_take names nodes rows k s.leaves;
  means = λ e. sym (take-map (row_in nodes e) k rows) ∙ ap (take k) (s.means e);
}

-- as many rows as are shown
pub shown_length : (names : List Name) (nodes : List Node) (rows : List (List ℕ)) (f : Naming → List Row) (e : Naming) → Shows names nodes rows f → length (f e) ≡ length rows
shown_length names nodes rows f e s = sym (ap (λ (rs : List Row). length rs) (s.means e)) ∙ length-map rows (row_in nodes e)

-- ---- nodes that are added

width_in : (ns : List Node) → length (map width_of ns) ≡ length ns
width_in ns = length-map ns width_of

pub bits_fit : (ns : List Node) (a b : ℕ) → HasWidth ns a 1 → HasWidth ns b 1 → (a < length (map width_of ns)) × (b < length (map width_of ns)) × ((slice_index (map width_of ns) a ≡ 1) × (slice_index (map width_of ns) b ≡ 1))
bits_fit ns a b x y = (omega (arith, width_in ns, x.below), omega (arith, width_in ns, y.below), (x.width, y.width))

pub equal_fits : (ns : List Node) (a b w : ℕ) → HasWidth ns a w → HasWidth ns b w → FitsNode (map width_of ns) (Two Eq 1 a b)
equal_fits ns a b w x y = (omega (arith, width_in ns, x.below), omega (arith, width_in ns, y.below), (refl, x.width ∙ sym y.width))

pub not_fits : (ns : List Node) (a : ℕ) → HasWidth ns a 1 → FitsNode (map width_of ns) (Not 1 a)
not_fits ns a x = (omega (arith, width_in ns, x.below), x.width)

pub zext_fits : (ns : List Node) (a w : ℕ) → IsWide ns a → slice_index (map width_of ns) a ≤ w → w ≤ 64 → FitsNode (map width_of ns) (Zext w a)
zext_fits ns a w x le most = (omega (arith, width_in ns, x.below), le, most)

pub added : (a b : List Node) (n : Node) (i : ℕ) → Adds a b n i → HasWidth b i (width_of n)
added a b n i made = record { below = made.within; width = made.wide }

and_flags : (b c : Bool) → and_of (flag b) (flag c) ≡ flag (b && c)
and_flags false false = refl
and_flags false true = refl
and_flags true false = refl
and_flags true true = refl

or_flags : (b c : Bool) → or_of (flag b) (flag c) ≡ flag (b || c)
or_flags false false = refl
or_flags false true = refl
or_flags true false = refl
or_flags true true = refl

not_flag : (b : Bool) → not_of (flag b) ≡ flag (not b)
not_flag false = refl
not_flag true = refl

pub constant_is : (a b : List Node) (i : ℕ) (t : Bool) (w : Bits) → w ≡ flag t → Adds a b (Const w) i → Tests b i (λ e. t)
constant_is a b i t w at made = record {
  node = record { below = made.within; width = made.wide ∙ ap (λ (k : Bits). k.width) at };
  means = λ e. made.value e ∙ at;
}

pub both_is : (a b : List Node) (x y i : ℕ) → Adds a b (Two And 1 x y) i → (f g : Naming → Bool) → Tests a x f → Tests a y g → Tests b i (λ e. f e && g e)
both_is a b x y i made f g p q = record {
  node = added a b _ i made;
  means = λ e. made.value e ∙ (ap (λ (k : Bits). and_of k (word_in a e y)) (p.means e) ∙ (ap (and_of (flag (f e))) (q.means e) ∙ and_flags (f e) (g e)));
}

pub either_is : (a b : List Node) (x y i : ℕ) → Adds a b (Two Or 1 x y) i → (f g : Naming → Bool) → Tests a x f → Tests a y g → Tests b i (λ e. f e || g e)
either_is a b x y i made f g p q = record {
  node = added a b _ i made;
  means = λ e. made.value e ∙ (ap (λ (k : Bits). or_of k (word_in a e y)) (p.means e) ∙ (ap (or_of (flag (f e))) (q.means e) ∙ or_flags (f e) (g e)));
}

pub negated_is : (a b : List Node) (x i : ℕ) → Adds a b (Not 1 x) i → (f : Naming → Bool) → Tests a x f → Tests b i (λ e. not (f e))
negated_is a b x i made f p = record {
  node = added a b _ i made;
  means = λ e. made.value e ∙ (ap not_of (p.means e) ∙ not_flag (f e));
}

same_flags : (b c : Bool) → eq_of (flag b) (flag c) ≡ flag (same b c)
same_flags false false = refl
same_flags false true = refl
same_flags true false = refl
same_flags true true = refl

pub same_is : (a b : List Node) (x y i : ℕ) → Adds a b (Two Eq 1 x y) i → (f g : Naming → Bool) → Tests a x f → Tests a y g → Tests b i (λ e. same (f e) (g e))
same_is a b x y i made f g p q = record {
  node = added a b _ i made;
  means = λ e. made.value e ∙ (ap (λ (k : Bits). eq_of k (word_in a e y)) (p.means e) ∙ (ap (eq_of (flag (f e))) (q.means e) ∙ same_flags (f e) (g e)));
}

pub equal_is : (a b : List Node) (x y i : ℕ) → Adds a b (Two Eq 1 x y) i → (f g : Naming → ℕ) → Counts a x f → Counts a y g → Tests b i (λ e. f e == g e)
equal_is a b x y i made f g p q = record {
  node = added a b _ i made;
  means = λ e. made.value e ∙ (ap (λ (n : ℕ). flag (n == (word_in a e y).value)) (p.means e) ∙ ap (λ (n : ℕ). flag (f e == n)) (q.means e));
}

pub number_is : (a b : List Node) (i n : ℕ) (w : Bits) → w.value ≡ n → 0 < w.width → w.width ≤ 64 → Adds a b (Const w) i → Counts b i (λ e. n)
number_is a b i n w is some most made = record {
  node = record { below = made.within; some = rw made.wide some; most = rw made.wide most };
  means = λ e. ap (λ (k : Bits). k.value) (made.value e) ∙ is;
}

pub ruleset kept = (keeps_same, keeps_then, has_later, wide_later, leaves_later)

pub ruleset words = (keeps_same, keeps_then, has_later, wide_later, bits_fit, equal_fits, not_fits, zext_fits, added)
