-- What searches through names answer.
use Rattle.std.specs.Prelude.{List, Option, Some, None}
use Rattle.vlog_tree_runs.specs.Places.{Name, Among}

-- a name of which something holds; none where it holds of no name
abbrev pub Finds : (Name → Type 0) → Option Name → Type 0
Finds P None = (x : Name) → P x → ⊥
Finds P (Some x) = P x

-- a name of the first list that the second one doesn't have
abbrev pub IsAbsent : List Name → List Name → Name → Type 0
IsAbsent xs ys x = Among xs x × (Among ys x → ⊥)
