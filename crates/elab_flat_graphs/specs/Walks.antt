-- Walks in a directed graph, which is the list of its nodes' targets (Knuth, The Art of Computer Programming, volume 1, section 2.3.4.2).
use Rattle.std.specs.Prelude.{ℕ, ◌≡◌, ◌<◌, List, [], ◌∷◌, length, take, Option, Some, None, slice_get}
use Rattle.std.proofs.Math.ListN.{get_or}

-- the targets of a node
abbrev pub targets_of : List (List ℕ) → ℕ → List ℕ
targets_of g n = get_or g n []

-- each edge leads to a node
abbrev pub IsGraph : List (List ℕ) → Type 0
IsGraph g = (n i t : ℕ) → slice_get (targets_of g n) i ≡ Some t → t < length g

-- where edge number i leads from a node
abbrev pub follow : List (List ℕ) → Option ℕ → ℕ → Option ℕ
follow g None i = None
follow g (Some n) i = slice_get (targets_of g n) i

-- the node at the end of a walk, which is the list of the numbers of its edges
abbrev pub walk_end : List (List ℕ) → Option ℕ → List ℕ → Option ℕ
walk_end g o [] = o
walk_end g o (i ∷ walk) = walk_end g (follow g o i) walk

-- a walk that ends at a node that it has been at, after its first `back` edges
pub record IsCycle (g : List (List ℕ)) (start : ℕ) (walk : List ℕ) (back : ℕ) : Type 0 where
  pub node : ℕ
  pub reached : walk_end g (Some start) (take back walk) ≡ Some node
  pub again : walk_end g (Some start) walk ≡ Some node
  pub some : back < length walk
