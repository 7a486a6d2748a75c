-- Sets of the places of names.
use Rattle.std.specs.Prelude.{ℕ, ◌≡◌, ◌⊎◌, ◌↔◌, Bool, List, Some}
use Rattle.vlog_tree_runs.specs.Places.{Name, Among}
use Rattle.elab_flat_scopes.specs.Finding.{place_in}
use Rattle.elab_step_flow.specs.Sets.{Has}

-- i is the first place of one of the names xs, in a list of names
abbrev pub IsPlaceOf : List Name → List Name → ℕ → Type 0
IsPlaceOf names xs i = (x : Name) × Among xs x × (place_in names x ≡ Some i)

-- the places of the names xs are added to a set
abbrev pub Adds : List Name → List Name → List Bool → List Bool → Type 0
Adds names xs old new = (i : ℕ) → Has new i ↔ (Has old i ⊎ IsPlaceOf names xs i)
