-- The names that stand a second time in a list.
use Rattle.std.specs.Prelude.{ℕ, suc, nat_lt, Bool, false, List, [], ◌∷◌, map, Option, Some, None, if◌then◌else◌}
use Rattle.vlog_tree.specs.declared.valuation.Entry.{Entry}
use Rattle.vlog_tree_runs.specs.Places.{Name}
use Rattle.elab_flat_scopes.specs.Finding.{place_in}

abbrev pub entry_name : Entry → Name
entry_name e = e.name

-- whether a place comes before place i
abbrev pub is_before : Option ℕ → ℕ → Bool
is_before None i = false
is_before (Some j) i = nat_lt j i

-- those of the names from place i on that stand in the whole list before
abbrev pub later_names : List Name → ℕ → List Name → List Name
later_names all i [] = []
later_names all i (x ∷ xs) = if is_before (place_in all x) i then x ∷ later_names all (suc i) xs else later_names all (suc i) xs
