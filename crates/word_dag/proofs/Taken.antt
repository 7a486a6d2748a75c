-- The free words of an obligation are those of the dag that it is taken out of.
use Rattle.std.proofs.Common.{◌≡◌, ℕ, zero, suc, ◌<◌, true, false, List, [], ◌∷◌, ◌++◌, length, get_or, refl, sym, ap, ◌∙◌, subst, arith, inl, inr}
use Rattle.std.specs.Prelude.{ℤ, ◌⊎◌}
use Rattle.word_dag.specs.declared.node.Node.{Node}
use Rattle.word_dag.specs.declared.node.Node.TheVariants.{Free, Const, Two, Not, Slice, Zext, Sext, Mux}
use Rattle.word_dag.specs.Adding.{HasDistinctFrees, IsAt, Keeps}
use Rattle.word_dag.specs.Given.{is_free}
use Rattle.word_dag.specs.Nodes.{Parts}
use Rattle.word_dag.specs.Order.{depth_first, index_of, node_under, taken, taken_out}
use Rattle.word_dag.specs.Walks.{renumbered}
use Rattle.word_dag.specs.Names.{HasOneWidthEach, HasOneWordEach, ObligationsHaveOneWordEach, WidthsAreKept}

later : (n m : Node) (ns : List Node) (i : ℕ) → IsAt ns i m → IsAt (n ∷ ns) (suc i) m
later n m ns i at = (omega (arith, at.0), at.1)

at_either : (xs ys : List Node) (k : ℕ) (n : Node) → IsAt (xs ++ ys) k n → IsAt xs k n ⊎ ((l : ℕ) × IsAt ys l n)
at_either [] ys k n at = inr (k, at)
at_either (x ∷ xs) ys zero n at = inl (omega arith, at.1)
at_either (x ∷ xs) ys (suc k) n at = elim (at_either xs ys k n (omega (arith, at.0), at.1)) [ inl there ↦ inl (later x n xs k there) | inr there ↦ inr there ]

-- a free node keeps its form
free_same : (f : ℕ → ℕ) (n m : Node) → m ≡ renumbered f n → is_free m ≡ true → m ≡ n
free_same f (Free x w side t) m e free = e
free_same f (Const w) m e free = let h : is_free m ≡ false = ap is_free e in cc
free_same f (Two op w a b) m e free = let h : is_free m ≡ false = ap is_free e in cc
free_same f (Not w a) m e free = let h : is_free m ≡ false = ap is_free e in cc
free_same f (Slice w a lo) m e free = let h : is_free m ≡ false = ap is_free e in cc
free_same f (Zext w a) m e free = let h : is_free m ≡ false = ap is_free e in cc
free_same f (Sext w a) m e free = let h : is_free m ≡ false = ap is_free e in cc
free_same f (Mux w c a b) m e free = let h : is_free m ≡ false = ap is_free e in cc

under_free : (f : ℕ → ℕ) (dag : List Node) (i k : ℕ) (n : Node) → is_free n ≡ true → IsAt (node_under f dag i) k n → (j : ℕ) × IsAt dag j n
under_free f [] i k n free at = absurd (omega (arith, at.0))
under_free f (m ∷ ms) zero zero n free at = (0, (omega arith, free_same f m n at.1 free))
under_free f (m ∷ ms) zero (suc k) n free at = absurd (omega (arith, at.0))
under_free f (m ∷ ms) (suc i) k n free at =
    let p = under_free f ms i k n free at in
    (suc p.0, later m n ms p.0 p.1)

taken_free : (dag : List Node) (before is : List ℕ) (k : ℕ) (n : Node) → is_free n ≡ true → IsAt (taken dag before is) k n → (j : ℕ) × IsAt dag j n
taken_free dag before [] k n free at = absurd (omega (arith, at.0))
taken_free dag before (i ∷ is) k n free at =
    elim (at_either (node_under (index_of before) dag i) (taken dag (before ++ i ∷ []) is) k n at) [
      | inl here ↦ under_free (index_of before) dag i k n free here
      | inr there ↦ taken_free dag (before ++ i ∷ []) is there.0 n free there.1
    ]

-- a free word of an obligation stands in its dag
pub word_in_dag : (dag : List Node) (root : ℕ) (ob : Parts) (k : ℕ) (n : Node) → ob ≡ taken_out dag root → is_free n ≡ true → IsAt ob.nodes k n → (j : ℕ) × IsAt dag j n
word_in_dag dag root ob k n is free at = taken_free dag [] (depth_first dag root) k n free (subst (λ (o : Parts). IsAt o.nodes k n) is at)

pub obligations_have_one_word_each : ObligationsHaveOneWordEach
obligations_have_one_word_each dag root ob is distinct one = λ x n m side i j t at there.
    let p = word_in_dag dag root ob i (Free x n side t) is refl at in
    let q = word_in_dag dag root ob j (Free x m side t) is refl there in
    let width : n ≡ m = one x n m side p.0 q.0 t p.1 q.1 in
    distinct (Free x m side t) i j refl (subst (λ (w : ℕ). IsAt ob.nodes i (Free x w side t)) width at) there

pub widths_are_kept : WidthsAreKept
widths_are_kept old new keeps one = λ x n m side i j t at there.
    one x n m side i j t (keeps.frees (Free x n side t) i refl at) (keeps.frees (Free x m side t) j refl there)
