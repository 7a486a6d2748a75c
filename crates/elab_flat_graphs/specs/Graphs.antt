-- Directed graphs, given by the successors of each vertex; orders and cycles of them (Cormen, Leiserson, Rivest and Stein, Introduction to
-- Algorithms, 3rd edition, sections 22.3 and 22.4).
use Rattle.std.specs.Prelude.{ℕ, zero, suc, ◌≡◌, ◌<◌, ◌≤◌, ◌+◌, ◌⊎◌, List, [], ◌∷◌, length, map, slice_index}
use Rattle.std.proofs.Common.{Vec, Global}
use Rattle.elab_flat_graphs.specs.declared.sorted.Sorted.{Sorted}
use Rattle.elab_flat_graphs.specs.declared.sorted.Sorted.TheVariants as s

-- x is an element of a list
abbrev pub Among : List ℕ → ℕ → Type 0
Among [] x = ⊥
Among (y ∷ ys) x = (y ≡ x) ⊎ Among ys x

-- no number stands twice
abbrev pub AreDistinct : List ℕ → Type 0
AreDistinct [] = Unit {0}
AreDistinct (x ∷ xs) = (Among xs x → ⊥) × AreDistinct xs

-- the lists of successors
abbrev pub graph_of : List (Vec ℕ Global) → List (List ℕ)
graph_of lists = map (λ (v : Vec ℕ Global). v.items) lists

abbrev pub successors : List (List ℕ) → ℕ → List ℕ
successors [] v = []
successors (xs ∷ g) zero = xs
successors (xs ∷ g) (suc v) = successors g v

-- the successors are vertices
abbrev pub IsGraph : List (List ℕ) → Type 0
IsGraph g = (v w : ℕ) → Among (successors g v) w → w < length g

-- each comes after its successors, of which the earlier ones are given
abbrev pub AreAfter : List (List ℕ) → List ℕ → List ℕ → Type 0
AreAfter g earlier [] = Unit {0}
AreAfter g earlier (v ∷ vs) = ((w : ℕ) → Among (successors g v) w → Among earlier w) × AreAfter g (v ∷ earlier) vs

-- each vertex stands once, after its successors
pub record IsOrder (g : List (List ℕ)) (order : List ℕ) : Type 0 where
  pub vertices : (v : ℕ) → Among order v → v < length g
  pub each : (v : ℕ) → v < length g → Among order v
  pub once : AreDistinct order
  pub after : AreAfter g [] order

-- each is followed by one of its successors, and the last one has t as a successor
abbrev pub IsPathTo : List (List ℕ) → List ℕ → ℕ → Type 0
IsPathTo g [] t = ⊥
IsPathTo g (v ∷ []) t = Among (successors g v) t
IsPathTo g (v ∷ w ∷ vs) t = Among (successors g v) w × IsPathTo g (w ∷ vs) t

-- a path from a vertex back to it
abbrev pub IsCycle : List (List ℕ) → List ℕ → Type 0
IsCycle g [] = ⊥
IsCycle g (v ∷ vs) = IsPathTo g (v ∷ vs) v

abbrev pub IsSorted : List (List ℕ) → Sorted → Type 0
IsSorted g (s.Order order) = IsOrder g order.items
IsSorted g (s.Cycle cycle) = IsCycle g cycle.items

-- what is true of an order, where there is one
abbrev pub IfOrder : Sorted → (List ℕ → Type 0) → Type 0
IfOrder (s.Order order) P = P order.items
IfOrder (s.Cycle cycle) P = Unit {0}

-- the level of a vertex is above those of its successors: it is 0, or one above that of one of them
abbrev pub IsLevel : List (List ℕ) → List ℕ → ℕ → Type 0
IsLevel g levels v =
    ((w : ℕ) → Among (successors g v) w → slice_index levels w < slice_index levels v)
    × ((slice_index levels v ≡ 0) ⊎ ((w : ℕ) × Among (successors g v) w × (slice_index levels v ≡ slice_index levels w + 1)))

abbrev pub AreLevels : List (List ℕ) → List ℕ → Type 0
AreLevels g levels = (v : ℕ) → v < length g → IsLevel g levels v

-- v may stand before w: it has a lower level, or the same level and no higher key
abbrev pub StandBy : List ℕ → List ℕ → ℕ → ℕ → Type 0
StandBy levels keys v w =
    (slice_index levels v < slice_index levels w) ⊎ ((slice_index levels v ≡ slice_index levels w) × (slice_index keys v ≤ slice_index keys w))

-- the vertices stand by their levels, and those of one level by their keys (a vertex without a key has 0)
abbrev pub IsLevelized : List (List ℕ) → List ℕ → List ℕ → Type 0
IsLevelized g keys order =
    (levels : List ℕ) × AreLevels g levels × ((k : ℕ) → k + 1 < length order → StandBy levels keys (slice_index order k) (slice_index order (k + 1)))
