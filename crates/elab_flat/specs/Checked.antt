-- What the checks of a scope's text promise.
use Rattle.std.specs.Prelude.{◌⊎◌, List}
use Rattle.vlog_tree.specs.declared.module.Module.{Module}
use Rattle.vlog_tree_runs.specs.Places.{Name, Among}
use Rattle.vlog_tree_runs.specs.Scopes.{Scope}
use Rattle.elab_flat_faults.specs.declared.flattening.FlatFault.{FlatFault}
use Rattle.elab_flat_faults.specs.FlatStands.{BreaksConstant, BreaksWidth, StandsAt}
use Rattle.elab_flat_instances.specs.Naming.{prefix_name}
use Rattle.elab_flat_names.specs.Rows.{IsOfNames}

-- no fault of names or ports stands at a scope
abbrev pub HasFitNames : List Module → Scope → Type 0
HasFitNames ms s = (fault : FlatFault) → IsOfNames fault → (path : Name) → StandsAt ms path s fault → ⊥

-- no rule on constants or lengths is broken at a scope, which has this name where an expression is at fault
abbrev pub HasFitLengths : List Module → Name → Scope → Type 0
HasFitLengths ms path s = (n : Name) → BreaksConstant ms path s n ⊎ BreaksWidth ms path s n → ⊥

-- the text of a scope breaks no rule on names, ports, constants and lengths
pub record IsChecked (ms : List Module) (top : Name) (s : Scope) : Type 0 where
  pub names : HasFitNames ms s
  pub lengths : HasFitLengths ms (prefix_name top s.prefix) s

abbrev pub AreChecked : List Module → Name → List Scope → Type 0
AreChecked ms top ss = (s : Scope) → Among ss s → IsChecked ms top s
