-- A search of a graph, depth first.
use Rattle.std.specs.Prelude.{ℕ, zero, suc, ◌≡◌, ◌≢◌, ◌+◌, ◌<◌, ◌≤◌, List, [], ◌∷◌, ◌++◌, length, slice_index, if◌then◌else◌, ◌==◌}
use Rattle.elab_flat_graphs.specs.declared.search.Mark.{Mark}
use Rattle.elab_flat_graphs.specs.declared.search.Mark.TheVariants as m
use Rattle.elab_flat_graphs.specs.declared.search.Search.{Search}
use Rattle.elab_flat_graphs.specs.Graphs.{Among, AreDistinct, AreAfter, graph_of, successors}

-- the mark of a vertex
abbrev pub mark_at : List Mark → ℕ → Mark
mark_at [] v = m.New
mark_at (x ∷ xs) zero = x
mark_at (x ∷ xs) (suc v) = mark_at xs v

-- how often vertices still change their marks
abbrev pub changes : Mark → ℕ
changes m.New = 2
changes m.Open = 1
changes m.Done = 0

abbrev pub all_changes : List Mark → ℕ
all_changes [] = 0
all_changes (x ∷ xs) = changes x + all_changes xs

-- each is followed by one of its successors
abbrev pub IsPath : List (List ℕ) → List ℕ → Type 0
IsPath g [] = Unit {0}
IsPath g (v ∷ []) = Unit {0}
IsPath g (v ∷ w ∷ vs) = Among (successors g v) w × IsPath g (w ∷ vs)

-- from the first place of a number on
abbrev pub from : List ℕ → ℕ → List ℕ
from [] w = []
from (v ∷ vs) w = if v == w then v ∷ vs else from vs w

-- the first successors of each vertex, as many as were looked at, are done
abbrev pub IsPassed : List (List ℕ) → List Mark → ℕ → ℕ → Type 0
IsPassed g marks v n = (k : ℕ) → k < n → mark_at marks (slice_index (successors g v) k) ≡ m.Done

-- what is true between steps of a search: the vertices that are done stand in their order, and the open ones form a path
pub record IsSearch (g : List (List ℕ)) (marks : List Mark) (passed path done : List ℕ) : Type 0 where
  pub marks_long : length marks ≡ length g
  pub passed_long : length passed ≡ length g
  pub done_listed : (v : ℕ) → mark_at marks v ≡ m.Done → Among done v
  pub listed_done : (v : ℕ) → Among done v → mark_at marks v ≡ m.Done
  pub open_listed : (v : ℕ) → mark_at marks v ≡ m.Open → Among path v
  pub listed_open : (v : ℕ) → Among path v → mark_at marks v ≡ m.Open
  pub done_once : AreDistinct done
  pub path_once : AreDistinct path
  pub after : AreAfter g [] done
  pub is_path : IsPath g path
  pub are_passed : (v : ℕ) → IsPassed g marks v (slice_index passed v)
  pub within : (v : ℕ) → slice_index passed v ≤ length (successors g v)

-- the graph of a search
abbrev pub searched : Search → List (List ℕ)
searched s = graph_of s.graph.now

abbrev pub Searches : Search → Type 0
Searches s = IsSearch (searched s) s.marks.items s.passed.items s.path.items s.done.items

-- what isn't new doesn't become new again
abbrev pub KeepsKnown : List Mark → List Mark → Type 0
KeepsKnown old new = (v : ℕ) → mark_at old v ≢ m.New → mark_at new v ≢ m.New

-- a path ends at a vertex
abbrev pub EndsAt : List ℕ → ℕ → Type 0
EndsAt path v = (rest : List ℕ) × (path ≡ rest ++ v ∷ [])
