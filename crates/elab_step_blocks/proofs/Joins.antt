-- Leaves of the same names, and in a dag that grows.
use Rattle.std.proofs.Common.{arith, ◌≡◌, ℕ, zero, suc, ◌+◌, ◌<◌, ◌≤◌, List, [], ◌∷◌, ◌++◌, length, get_or, take, refl, sym, ap, ◌∙◌, subst}
use Rattle.word_dag.specs.declared.node.Node.{Node}
use Rattle.word_dag.specs.Nodes.{Naming}
use Rattle.word_dag.specs.Adding.{Keeps}
use Rattle.vlog_tree.specs.declared.valuation.Entry.{Entry}
use Rattle.vlog_tree_runs.specs.declared.flat.Signal.{Signal}
use Rattle.vlog_tree_runs.specs.Places.{Name, Cycle}
use Rattle.elab_step_expr.specs.declared.leaves.Leaf.{Leaf}
use Rattle.elab_step_expr.specs.Leaves.{entry_of, declared, AreReady}
use Rattle.elab_step_expr.specs.Nodes.{IsNode}
use Rattle.elab_step_expr.proofs.Kept.{number_kept}
use Rattle.elab_step_blocks.specs.Standing.{AreLeavesOf, Lacks, AreApart, AreShown}

module _ {X : Type 0} where
  pub take_next : (xs : List X) (i : ℕ) (x d : X) → i < length xs → x ≡ get_or xs i d → take (i + 1) xs ≡ take i xs ++ x ∷ []
  take_next xs i x d lt e = let n : i + 1 ≡ suc i = omega arith in ap (λ k. take k xs) n ∙ next xs i lt e
    where
      next : (xs : List X) (i : ℕ) → i < length xs → x ≡ get_or xs i d → take (suc i) xs ≡ take i xs ++ x ∷ []
      next [] i lt e = absurd (omega arith)
      next (t ∷ xs) zero lt e = ap (λ k. k ∷ []) (sym e)
      next (t ∷ xs) (suc i) lt e = ap (λ r. t ∷ r) (next xs i (omega arith) e)

  pub take_all : (xs : List X) (i : ℕ) → length xs ≤ i → take i xs ≡ xs
  take_all [] zero le = refl
  take_all [] (suc i) le = refl
  take_all (x ∷ xs) zero le = absurd (omega arith)
  take_all (x ∷ xs) (suc i) le = ap (λ r. x ∷ r) (take_all xs i (omega arith))

-- ---- leaves of the same names

pub leaves_same : (gs : List Signal) (ls ms : List Leaf) → declared ms ≡ declared ls → AreLeavesOf gs ls → AreLeavesOf gs ms
leaves_same [] [] [] h k = tt
leaves_same [] [] (m ∷ ms) h k = cc
leaves_same [] (l ∷ ls) ms h k = absurd k
leaves_same (g ∷ gs) [] ms h k = absurd k
leaves_same (g ∷ gs) (l ∷ ls) [] h k = cc
leaves_same (g ∷ gs) (l ∷ ls) (m ∷ ms) h k =
    let e : entry_of m 0 ≡ entry_of l 0 = cc in
    let t : declared ms ≡ declared ls = cc in (
      record {
        name = ap (λ (k : Entry). k.name) e ∙ k.0.name;
        offset = ap (λ (k : Entry). k.offset) e ∙ k.0.offset;
        width = ap (λ (k : Entry). k.width) e ∙ k.0.width;
        low = ap (λ (k : Entry). k.low) e ∙ k.0.low;
        signed = ap (λ (k : Entry). k.signed) e ∙ k.0.signed;
        depth = k.0.depth;
      },
      leaves_same gs ls ms t k.1,
    )

lacks_same : (x : Name) (ls ms : List Leaf) → declared ms ≡ declared ls → Lacks x ls → Lacks x ms
lacks_same x ls [] h k = tt
lacks_same x [] (m ∷ ms) h k = cc
lacks_same x (l ∷ ls) (m ∷ ms) h k =
    let e : entry_of m 0 ≡ entry_of l 0 = cc in
    let t : declared ms ≡ declared ls = cc in
    ((λ p. k.0 (p ∙ ap (λ (k : Entry). k.name) e)), lacks_same x ls ms t k.1)

pub apart_same : (ls ms : List Leaf) → declared ms ≡ declared ls → AreApart ls → AreApart ms
apart_same ls [] h k = tt
apart_same [] (m ∷ ms) h k = cc
apart_same (l ∷ ls) (m ∷ ms) h k =
    let e : entry_of m 0 ≡ entry_of l 0 = cc in
    let t : declared ms ≡ declared ls = cc in
    (subst (λ x. Lacks x ms) (sym (ap (λ (k : Entry). k.name) e)) (lacks_same l.name ls ms t k.0), apart_same ls ms t k.1)

pub long_same : (ls ms : List Leaf) → declared ms ≡ declared ls → length ms ≡ length ls
long_same [] [] h = refl
long_same [] (m ∷ ms) h = cc
long_same (l ∷ ls) [] h = cc
long_same (l ∷ ls) (m ∷ ms) h = let t : declared ms ≡ declared ls = cc in ap suc (long_same ls ms t)

-- ---- in a dag that grows

pub shown_kept : (e : Naming) (ls : List Leaf) (a b : List Node) (c : Cycle) → Keeps a b → AreReady ls a → AreShown e a ls c → AreShown e b ls c
shown_kept e [] a b c k r h = tt
shown_kept e (l ∷ ls) a b c k r h = (h.0 ∙ sym (number_kept e a b l.node l.width k r.1), shown_kept e ls a b c k r.2 h.1)

pub shown_same : (e : Naming) (ls : List Leaf) (ns : List Node) (c d : Cycle) → ((x : Name) → d x ≡ c x) → AreShown e ns ls c → AreShown e ns ls d
shown_same e [] ns c d s h = tt
shown_same e (l ∷ ls) ns c d s h = (s l.name ∙ h.0, shown_same e ls ns c d s h.1)

pub ready_at : (ls : List Leaf) (ns : List Node) (i : ℕ) (l : Leaf) → AreReady ls ns → i < length ls → l ≡ get_or ls i l → IsNode ns l.node l.width
ready_at [] ns i l r lt e = absurd (omega arith)
ready_at (k ∷ ls) ns zero l r lt e = subst (λ (m : Leaf). IsNode ns m.node m.width) (sym e) r.1
ready_at (k ∷ ls) ns (suc i) l r lt e = ready_at ls ns i l r.2 (omega arith) e
