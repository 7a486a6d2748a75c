-- Nodes of some leaves, saved and put back.
use Rattle.std.specs.Prelude.{ℕ, ◌≡◌, zero, suc, ◌<◌, List, [], ◌∷◌, length, map}
use Rattle.std.specs.List.{All, Contains}
use Rattle.word_dag.specs.declared.node.Node.{Node}
use Rattle.elab_step_expr.specs.declared.leaves.Leaf.{Leaf}
use Rattle.elab_step_expr.specs.Leaves.{with_node}
use Rattle.elab_step_expr.specs.Nodes.{IsNode}
use Rattle.elab_step_blocks.specs.declared.branches.Saved.{Saved}
use Rattle.elab_step_blocks.specs.Targets.{width_at}

-- the node of the leaf of this number
abbrev pub node_at : List Leaf → ℕ → ℕ
node_at [] i = 0
node_at (l ∷ ls) zero = l.node
node_at (l ∷ ls) (suc i) = node_at ls i

-- the nodes that leaves have at these places
abbrev pub saved_at : List Leaf → List ℕ → List Saved
saved_at ls is = map (λ i. record { place = i; node = node_at ls i }) is

abbrev pub places_of : List Saved → List ℕ
places_of ss = map (λ (s : Saved). s.place) ss

-- the leaves with saved nodes put back
abbrev pub put_back : List Leaf → List Saved → List Leaf
put_back ls [] = ls
put_back ls (s ∷ ss) = put_back (with_node ls s.place s.node) ss

-- each place is that of a leaf
abbrev pub AreWithin : List Leaf → List ℕ → Type 0
AreWithin ls is = All (λ i. i < length ls) is

-- each is the node that its leaf has
pub record IsSaved (ls : List Leaf) (ss : List Saved) : Type 0 where
  pub within : AreWithin ls (places_of ss)
  pub nodes : ss ≡ saved_at ls (places_of ss)

-- so it is, and a node is saved for each leaf of these places
pub record IsSavedAt (ls : List Leaf) (is : List ℕ) (ss : List Saved) : Type 0 where
  pub saved : IsSaved ls ss
  pub each : (k : ℕ) → Contains is k → Contains (places_of ss) k

-- each is a node of its leaf's length
abbrev pub AreSaved : List Leaf → List Saved → List Node → Type 0
AreSaved ls [] ns = Unit {0}
AreSaved ls (s ∷ ss) ns = (s.place < length ls) × IsNode ns s.node (width_at ls s.place) × AreSaved ls ss ns

-- no node is saved for the leaf of this number
abbrev pub IsAway : List Saved → ℕ → Type 0
IsAway ss k = Contains (places_of ss) k → ⊥
