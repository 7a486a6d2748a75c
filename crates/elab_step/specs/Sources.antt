-- Which signals are nets and which are registers.
use Rattle.std.specs.Prelude.{Bool, List, [], map, if◌then◌else◌}
use Rattle.std.specs.List.{flat_map}
use Rattle.vlog_tree_runs.specs.declared.flat.Always.{Always}
use Rattle.vlog_tree_runs.specs.declared.flat.Flat.{Flat}
use Rattle.vlog_tree_runs.specs.declared.flat.Signal.{Signal}
use Rattle.vlog_tree_runs.specs.Places.{Name}
use Rattle.vlog_tree_runs.specs.Contents.{is_among}
use Rattle.vlog_tree_runs.specs.Blocks.{lefts, left_names}

abbrev pub signal_names : List Signal → List Name
signal_names gs = map (λ (g : Signal). g.name) gs

-- the names that a clocked block assigns
abbrev pub edge_names : Always → List Name
edge_names k = if k.clocked then flat_map left_names (lefts k.body) else []

abbrev pub clocked_names : Flat → List Name
clocked_names f = flat_map edge_names f.blocks

-- flags that tell the signals that have one of some names
abbrev pub flags_among : List Name → List Signal → List Bool
flags_among xs gs = map (λ (g : Signal). is_among xs g.name) gs
