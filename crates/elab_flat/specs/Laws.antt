-- What hangs on the checks.
use Rattle.std.specs.Prelude.{◌≡◌, ◌↔◌, List, Some, map}
use Rattle.vlog_tree.specs.declared.module.Module.{Module}
use Rattle.vlog_tree_runs.specs.declared.flat.Flat.{Flat}
use Rattle.vlog_tree_runs.specs.Places.{Name}
use Rattle.vlog_tree_runs.specs.Contents.{decls_in, port_names}
use Rattle.vlog_tree_runs.specs.Scopes.{Scope, module_at}
use Rattle.vlog_tree_runs.specs.Cycles.{IsInput, IsInputFrom}
use Rattle.elab_flat_laws.specs.Flattened.{CanFlatten}
use Rattle.elab_flat_instances.specs.Unfolding.{AreUnfolded, scope_of_top}
use Rattle.elab_flat_faults.specs.Plain.{ArePlainTexts}
use Rattle.elab_flat_faults.specs.Handed.{top_port}
use Rattle.elab_flat.specs.Following.{AreFollowed}
use Rattle.elab_flat.specs.Checked.{HasFitNames, AreChecked}

-- scopes whose texts break no rule can be flattened
abbrev pub CheckedScopesFlatten : Type 0
CheckedScopesFlatten =
    (ms : List Module) (top : Name) (ss : List Scope) → ArePlainTexts ms → AreUnfolded ms top ss → AreChecked ms top ss → CanFlatten ms ss

-- behind the top stand the instances of each scope
abbrev pub UnfoldedScopesFollow : Type 0
UnfoldedScopesFollow = (ms : List Module) (top : Name) (ss : List Scope) → AreUnfolded ms top ss → AreFollowed ms ss

-- the ports of the top's header that are no outputs are its inputs
abbrev pub PortsAreInputs : Type 0
PortsAreInputs =
    (ms : List Module) (top : Name) (m : Module) (f : Flat) → module_at ms top ≡ Some m → HasFitNames ms (scope_of_top m) → f.ports ≡ map (top_port (decls_in m)) (port_names m) →
    (x : Name) → IsInput f x ↔ IsInputFrom ms top x
