-- What a search finds.
use Rattle.std.specs.Prelude.{ℕ, List, Option, Some, None}
use Rattle.elab_flat_graphs.specs.declared.cycles.Cycle.{Cycle}
use Rattle.elab_flat_graphs.specs.Walks.{IsCycle}

-- a cycle that walks from a node come to, or none where there is none
abbrev pub IsAnswer : List (List ℕ) → ℕ → Option Cycle → Type 0
IsAnswer g start (Some c) = IsCycle g start c.walk.items c.back
IsAnswer g start None = (walk : List ℕ) (back : ℕ) → IsCycle g start walk back → ⊥
