-- The nets of an order of all signals.
use Rattle.std.specs.Prelude.{ℕ, Bool, true, get_or, if◌then◌else◌, List, [], ◌∷◌, ◌++◌}
use Rattle.std.specs.List.{flat_map}
use Rattle.vlog_tree_runs.specs.declared.flat.Flat.{Flat}
use Rattle.vlog_tree_runs.specs.Places.{Name}
use Rattle.elab_step.specs.Parts.{input_name}
use Rattle.elab_step.specs.Sources.{clocked_names}

-- the names of registers and of inputs of the top
abbrev pub source_names : Flat → List Name
source_names f = clocked_names f ++ flat_map input_name f.ports

-- the places without a flag
abbrev pub unflagged : List Bool → List ℕ → List ℕ
unflagged ts [] = []
unflagged ts (v ∷ vs) = if get_or ts v true then unflagged ts vs else v ∷ unflagged ts vs
