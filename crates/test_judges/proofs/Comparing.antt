-- Leaves compared with values one after another.
use Rattle.std.proofs.Common.{◌≡◌, ℕ, zero, suc, ◌+◌, ◌^◌, ◌<◌, ◌≤◌, ◌&&◌, true, List, [], ◌∷◌, length, get_or, drop, slice_index_or, refl, sym, ap, ◌∙◌, subst, arith}
use Rattle.vlog_tree.specs.Valuation.{IsLength}
use Rattle.word_dag.specs.declared.node.Node.{Node}
use Rattle.elab_step_expr.specs.declared.leaves.Leaf.{Leaf}
use Rattle.elab_step_expr.specs.Leaves.{AreReady}
use Rattle.elab_step_expr.specs.Nodes.{IsNode}
use Rattle.test_judges.specs.Numbers.{same_within, leaves_same, AreBelow}

pub leaf_ready : (ls : List Leaf) (ns : List Node) (i : ℕ) (l : Leaf) → AreReady ls ns → i < length ls → l ≡ get_or ls i l → IsLength l.width × IsNode ns l.node l.width
leaf_ready [] ns i l r lt e = absurd (omega arith)
leaf_ready (m ∷ ls) ns zero l r lt e = subst (λ (z : Leaf). IsLength z.width × IsNode ns z.node z.width) (sym e) (r.0, r.1)
leaf_ready (m ∷ ls) ns (suc i) l r lt e = leaf_ready ls ns i l r.2 (omega arith) e

pub below_at : (ls : List Leaf) (vs : List ℕ) (i : ℕ) (l : Leaf) → AreBelow ls vs → i < length ls → l ≡ get_or ls i l → slice_index_or vs i 0 < 2 ^ l.width
below_at [] vs i l h lt e = absurd (omega arith)
below_at (m ∷ ls) [] i l h lt e = absurd h
below_at (m ∷ ls) (v ∷ vs) zero l h lt e = subst (λ (z : Leaf). v < 2 ^ z.width) (sym e) h.0
below_at (m ∷ ls) (v ∷ vs) (suc i) l h lt e = below_at ls vs i l h.1 (omega arith) e

pub same_at : (number : ℕ → ℕ) (ms : List ℕ) (ls : List Leaf) (vs : List ℕ) (i : ℕ) (l : Leaf) → i < length ms → i < length ls → i < length vs → l ≡ get_or ls i l
    → leaves_same number (drop i ms) (drop i ls) (drop i vs) ≡ (same_within (slice_index_or ms i 0) (number l.node) (slice_index_or vs i 0) && leaves_same number (drop (i + 1) ms) (drop (i + 1) ls) (drop (i + 1) vs))
same_at number ms ls vs i l a b c e =
    let n : i + 1 ≡ suc i = omega arith in
    next ms ls vs i a b c e
    ∙ ap (λ k. same_within (slice_index_or ms i 0) (number l.node) (slice_index_or vs i 0) && leaves_same number (drop k ms) (drop k ls) (drop k vs)) (sym n)
  where
    next : (ms : List ℕ) (ls : List Leaf) (vs : List ℕ) (i : ℕ) → i < length ms → i < length ls → i < length vs → l ≡ get_or ls i l
        → leaves_same number (drop i ms) (drop i ls) (drop i vs) ≡ (same_within (slice_index_or ms i 0) (number l.node) (slice_index_or vs i 0) && leaves_same number (drop (suc i) ms) (drop (suc i) ls) (drop (suc i) vs))
    next [] ls vs i a b c e = absurd (omega arith)
    next (m ∷ ms) [] vs i a b c e = absurd (omega arith)
    next (m ∷ ms) (k ∷ ls) [] i a b c e = absurd (omega arith)
    next (m ∷ ms) (k ∷ ls) (v ∷ vs) zero a b c e = ap (λ (z : Leaf). same_within m (number z.node) v && leaves_same number ms ls vs) (sym e)
    next (m ∷ ms) (k ∷ ls) (v ∷ vs) (suc i) a b c e = next ms ls vs i (omega arith) (omega arith) (omega arith) e

pub all_same : (number : ℕ → ℕ) (ms : List ℕ) (ls : List Leaf) (vs : List ℕ) (i : ℕ) → length ms ≤ i → leaves_same number (drop i ms) (drop i ls) (drop i vs) ≡ true
all_same number ms ls vs i le = ap (λ z. leaves_same number z (drop i ls) (drop i vs)) (gone ms i le)
  where
    gone : (xs : List ℕ) (i : ℕ) → length xs ≤ i → drop i xs ≡ []
    gone [] zero le = refl
    gone [] (suc i) le = refl
    gone (x ∷ xs) zero le = absurd (omega arith)
    gone (x ∷ xs) (suc i) le = gone xs i (omega arith)
