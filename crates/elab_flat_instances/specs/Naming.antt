-- Instances by the nodes of their modules, and by what stands in front of their names.
use Rattle.std.specs.Prelude.{ℕ, ◌≡◌, ◌<◌, ◌-◌, List, [], ◌∷◌, length, take, Option, Some, None, slice_get}
use Rattle.vlog_tree.specs.declared.module.Module.{Module}
use Rattle.vlog_tree_runs.specs.Places.{Name}
use Rattle.vlog_tree_runs.specs.Scopes.{Scope, scope_at}
use Rattle.elab_flat_faults.specs.declared.flattening.FlatFault.TheVariants as f
use Rattle.elab_flat_faults.specs.FlatStands.{IsRecursive, Stands}
use Rattle.elab_flat_graphs.specs.Walks.{walk_end}
use Rattle.elab_flat_instances.specs.Graph.{graph_of}

-- a path leads to a scope of module number n, in front of whose names this stands
pub record IsAtNode (ms : List Module) (top prefix : Name) (n : ℕ) : Type 0 where
  pub path : List Name
  pub scope : Scope
  pub reached : scope_at ms top path ≡ Some scope
  pub prefix_is : scope.prefix ≡ prefix
  pub node : slice_get ms n ≡ Some scope.module'

-- a walk in the graph of modules ends at a module that is there
pub record LeadsToModule (ms : List Module) (start : ℕ) (walk : List ℕ) : Type 0 where
  pub last : ℕ
  pub ends : walk_end (graph_of ms) (Some start) walk ≡ Some last
  pub there : last < length ms

-- it leads to a scope, in front of whose names this stands
pub record LeadsHere (ms : List Module) (top : Name) (start : ℕ) (walk : List ℕ) (prefix : Name) : Type 0 where
  pub last : ℕ
  pub ends : walk_end (graph_of ms) (Some start) walk ≡ Some last
  pub at : IsAtNode ms top prefix last

-- the name of a scope by what stands in front of its names: without the last dot, and the top's name at the top
abbrev pub prefix_name : Name → Name → Name
prefix_name top [] = top
prefix_name top (x ∷ xs) = take (length (x ∷ xs) - 1) (x ∷ xs)

-- a module contains itself, by this name, or none does
abbrev pub IsRecursionAnswer : List Module → Name → Option Name → Type 0
IsRecursionAnswer ms top (Some n) = Stands ms top (f.Recursion n)
IsRecursionAnswer ms top None = (path : List Name) → IsRecursive ms top path → ⊥
