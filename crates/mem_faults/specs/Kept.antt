-- Memories that are kept wrongly, by the names that texts and declarations give.
use Rattle.std.specs.Prelude.{◌≡◌, ◌⊎◌, Bool, true, false, List, [], ◌∷◌, ◌++◌, if◌then◌else◌}
use Rattle.std.specs.List.{flat_map}
use Rattle.vlog_tree.specs.declared.item.Assign.{Assign}
use Rattle.vlog_tree_runs.specs.declared.flat.Flat.{Flat}
use Rattle.vlog_tree_runs.specs.declared.flat.Signal.{Signal}
use Rattle.vlog_tree_runs.specs.Places.{Name, Among}
use Rattle.vlog_tree_runs.specs.Blocks.{left_names}
use Rattle.elab_flat_drivers.specs.declared.names.Form.TheVariants as m
use Rattle.elab_flat_drivers.specs.Names.{chosen_names}

-- the name of a signed signal
abbrev pub signed_names : Signal → List Name
signed_names g = if g.signed then g.name ∷ [] else []

-- the names on the left of continuous assignments
abbrev pub assign_names : Assign → List Name
assign_names a = left_names a.left

-- those on the left in clocked blocks, and then in the other ones
abbrev pub block_names : Flat → List Name
block_names f = flat_map (chosen_names true m.Any) f.blocks ++ flat_map (chosen_names false m.Any) f.blocks

-- all of them
abbrev pub assigned_names : Flat → List Name
assigned_names f = flat_map assign_names f.assigns ++ block_names f

-- the names that are assigned otherwise than by `<=` in a clocked block
abbrev pub other_names : Flat → List Name
other_names f =
    flat_map assign_names f.assigns
    ++ (flat_map (chosen_names true m.Blocking) f.blocks ++ (flat_map (chosen_names false m.Blocking) f.blocks ++ flat_map (chosen_names false m.Nonblocking) f.blocks))
