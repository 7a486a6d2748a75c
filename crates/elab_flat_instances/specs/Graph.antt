-- The graph of modules: an edge of a module for each of its instances, which leads to the instance's module.
use Rattle.std.specs.Prelude.{ℕ, suc, nat_eq, if◌then◌else◌, List, [], ◌∷◌, ◌++◌, length, map, Option, Some, None}
use Rattle.vlog_tree.specs.declared.module.Module.{Module}
use Rattle.vlog_tree_runs.specs.Places.{Name}
use Rattle.vlog_tree_runs.specs.Contents.{Inner, instances_in}
use Rattle.elab_flat_scopes.specs.Finding.{place_in, module_name}

abbrev pub inner_name : Inner → Name
inner_name i = i.name

abbrev pub instance_names : Module → List Name
instance_names m = map inner_name (instances_in m)

-- a module that isn't there is the node behind all modules
abbrev pub node_at : List Name → Option ℕ → ℕ
node_at mods None = length mods
node_at mods (Some n) = n

-- so is that of an instance whose name another one before it has
abbrev pub node_if : List Name → Option ℕ → ℕ → Name → ℕ
node_if mods None j x = length mods
node_if mods (Some k) j x = if nat_eq k j then node_at mods (place_in mods x) else length mods

abbrev pub target_of : List Name → List Name → ℕ → Inner → ℕ
target_of mods names j i = node_if mods (place_in names i.name) j i.of_module

abbrev pub targets_from : List Name → List Name → ℕ → List Inner → List ℕ
targets_from mods names j [] = []
targets_from mods names j (i ∷ rest) = target_of mods names j i ∷ targets_from mods names (suc j) rest

abbrev pub module_targets : List Name → Module → List ℕ
module_targets mods m = targets_from mods (instance_names m) 0 (instances_in m)

abbrev pub graph_of : List Module → List (List ℕ)
graph_of ms = map (module_targets (map module_name ms)) ms ++ [] ∷ []
