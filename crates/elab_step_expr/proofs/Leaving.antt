-- Leaves that are added and changed.
use Rattle.std.proofs.Common.{◌≡◌, ℕ, zero, suc, ◌<◌, List, [], ◌∷◌, ◌++◌, length, get_or, slice_set, refl, ap, arith}
use Rattle.vlog_tree.specs.declared.valuation.Entry.{Entry}
use Rattle.vlog_tree.specs.Valuation.{IsLength}
use Rattle.elab_step_expr.specs.declared.leaves.Leaf.{Leaf}
use Rattle.elab_step_expr.specs.Leaves.{entry_of, declared, AreWide, with_node}

pub wide_push : (ls : List Leaf) (l : Leaf) → AreWide ls → IsLength l.width → AreWide (ls ++ l ∷ [])
wide_push [] l h k = (k, tt)
wide_push (x ∷ ls) l h k = (h.0, wide_push ls l h.1 k)

pub declared_push : (ls : List Leaf) (l : Leaf) → declared (ls ++ l ∷ []) ≡ declared ls ++ entry_of l 0 ∷ []
declared_push [] l = refl
declared_push (x ∷ ls) l = ap (λ (r : List Entry). entry_of x 0 ∷ r) (declared_push ls l)

pub set_is : (ls : List Leaf) (i n : ℕ) (x : Leaf) → i < length ls → x ≡ get_or ls i x → slice_set ls i (record x { node = n }) ≡ with_node ls i n
set_is [] i n x lt is = absurd (omega arith)
set_is (l ∷ ls) zero n x lt is = ap (λ (y : Leaf). record y { node = n } ∷ ls) is
set_is (l ∷ ls) (suc i) n x lt is = ap (λ (r : List Leaf). l ∷ r) (set_is ls i n x (omega arith) is)

pub wide_with : (ls : List Leaf) (i n : ℕ) → AreWide ls → AreWide (with_node ls i n)
wide_with [] i n h = tt
wide_with (l ∷ ls) zero n h = h
wide_with (l ∷ ls) (suc i) n h = (h.0, wide_with ls i n h.1)

pub declared_with : (ls : List Leaf) (i n : ℕ) → declared (with_node ls i n) ≡ declared ls
declared_with [] i n = refl
declared_with (l ∷ ls) zero n = refl
declared_with (l ∷ ls) (suc i) n = ap (λ (r : List Entry). entry_of l 0 ∷ r) (declared_with ls i n)
