-- How far a depth-first search has come (Tarjan, Depth-first search and linear graph algorithms, 1972).
use Rattle.std.specs.Prelude.{ℕ, suc, ◌≡◌, ◌+◌, ◌-◌, ◌≤◌, ◌<◌, ◌⊎◌, Bool, true, false, List, [], ◌∷◌, length, Some, slice_get}
use Rattle.std.proofs.Math.ListN.{get_or}
use Rattle.elab_flat_graphs.specs.declared.cycles.Search.{Search}
use Rattle.elab_flat_graphs.specs.Walks.{targets_of, IsGraph}

-- x is an element of a list
abbrev pub Has : List ℕ → ℕ → Type 0
Has [] x = ⊥
Has (y ∷ ys) x = (y ≡ x) ⊎ Has ys x

abbrev pub IsDistinct : List ℕ → Type 0
IsDistinct [] = Unit {0}
IsDistinct (x ∷ xs) = (Has xs x → ⊥) × IsDistinct xs

-- the first n edges of a node lead to these nodes
abbrev pub LeadInto : List (List ℕ) → List ℕ → ℕ → ℕ → Type 0
LeadInto g order x n = (i t : ℕ) → i < n → slice_get (targets_of g x) i ≡ Some t → Has order t

-- each node of a list leads to later ones of it alone
abbrev pub IsSorted : List (List ℕ) → List ℕ → Type 0
IsSorted g [] = Unit {0}
IsSorted g (x ∷ xs) = (Has xs x → ⊥) × LeadInto g xs x (length (targets_of g x)) × IsSorted g xs

-- the turns that a node has at first: one for each of its edges, and one to leave it
abbrev pub turns_of : List ℕ → ℕ
turns_of targets = suc (length targets)

-- the edge that a node has just followed, so many turns being left to it
pub record IsAt (g : List (List ℕ)) (left order : List ℕ) (x e : ℕ) : Type 0 where
  pub turns : suc e + get_or left x 0 ≡ turns_of (targets_of g x)
  pub earlier : LeadInto g order x e

-- the node t was entered by the edges that the nodes below it on the stack have just followed, the lowest being the start
abbrev pub Leads : List (List ℕ) → ℕ → List ℕ → List ℕ → ℕ → List ℕ → Type 0
Leads g start left order t [] = t ≡ start
Leads g start left order t (x ∷ rest) = ((e : ℕ) × IsAt g left order x e × (slice_get (targets_of g x) e ≡ Some t)) × Leads g start left order x rest

-- the edges that the top has followed lead to nodes that were left
pub record IsTop (g : List (List ℕ)) (left order : List ℕ) (t : ℕ) : Type 0 where
  pub used : ℕ
  pub turns : used + get_or left t 0 ≡ turns_of (targets_of g t)
  pub some : 1 ≤ get_or left t 0
  pub earlier : LeadInto g order t used

-- the nodes on the stack, the top first; the search ends with the start left
abbrev pub IsStack : List (List ℕ) → ℕ → List ℕ → List ℕ → List ℕ → Type 0
IsStack g start left order [] = Has order start
IsStack g start left order (t ∷ rest) = IsTop g left order t × Leads g start left order t rest

-- the state of a search: the nodes on the stack, the turns left to each node, and which nodes stand on the stack; `order` has the nodes that were left, the
-- last one first
pub record IsState (g : List (List ℕ)) (stack left : List ℕ) (marks : List Bool) (order : List ℕ) : Type 0 where
  pub graph : IsGraph g
  pub turns : length left ≡ length g
  pub marked : length marks ≡ length g
  pub within : (x : ℕ) → Has stack x → x < length g
  pub distinct : IsDistinct stack
  pub on : (x : ℕ) → x < length g → get_or marks x false ≡ true → Has stack x
  pub off : (x : ℕ) → x < length g → get_or marks x false ≡ false → Has stack x → ⊥
  pub new : (x : ℕ) → x < length g → get_or marks x false ≡ false → (get_or left x 0 ≡ turns_of (targets_of g x)) ⊎ Has order x
  pub gone : (x : ℕ) → x < length g → get_or left x 0 ≡ 0 → Has order x
  pub closed : (x : ℕ) → Has order x → get_or left x 0 ≡ 0
  pub sorted : IsSorted g order

-- between two turns
pub record IsSearch (g : List (List ℕ)) (s : Search) : Type 0 where
  pub order : List ℕ
  pub state : IsState g s.stack s.left.items s.marks.items order
  pub lies : IsStack g s.start s.left.items order s.stack

-- the top has just followed an edge to t
pub record HasFollowed (g : List (List ℕ)) (s : Search) (t : ℕ) : Type 0 where
  pub order : List ℕ
  pub state : IsState g s.stack s.left.items s.marks.items order
  pub lies : Leads g s.start s.left.items order t s.stack
  pub some : 0 < length s.stack
  pub is_node : t < length g

-- each node has all its turns
pub record IsFresh (g : List (List ℕ)) (left : List ℕ) : Type 0 where
  pub turns : length left ≡ length g
  pub all : (x : ℕ) → x < length g → get_or left x 0 ≡ turns_of (targets_of g x)

-- the edge that a node has just followed
abbrev pub edge_of : List (List ℕ) → List ℕ → ℕ → ℕ
edge_of g left x = length (targets_of g x) - get_or left x 0
