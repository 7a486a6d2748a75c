-- Scopes in the order in which they are unfolded.
use Rattle.std.specs.Prelude.{◌≡◌, List, ◌∷◌, Option, Some, map}
use Rattle.std.specs.List.{flat_map}
use Rattle.vlog_tree.specs.declared.module.Module.{Module}
use Rattle.vlog_tree_runs.specs.Contents.{instances_in}
use Rattle.vlog_tree_runs.specs.Scopes.{Scope, child}

-- the scopes of a scope's instances, in the order of its text
abbrev pub inner_scopes : List Module → Scope → List (Option Scope)
inner_scopes ms s = map (child ms s) (instances_in s.module')

-- behind the first scope stand the instances of each scope, one scope's after another's
abbrev pub AreFollowed : List Module → List Scope → Type 0
AreFollowed ms ss = (first : Scope) × (map Some ss ≡ Some first ∷ flat_map (inner_scopes ms) ss)
