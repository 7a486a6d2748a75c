-- The module without instances that the texts of checked scopes make.
use Rattle.std.proofs.Common.{◌≡◌, List, [], Some, ap}
use Rattle.vlog_tree.specs.declared.module.Module.{Module}
use Rattle.vlog_tree_runs.specs.declared.flat.Flat.{Flat}
use Rattle.vlog_tree_runs.specs.Places.{Name}
use Rattle.vlog_tree_runs.specs.Scopes.{Scope, module_at, top_scope}
use Rattle.elab_flat_laws.specs.Flattened.{KeepsRuns}
use Rattle.elab_flat_laws.proofs.Keeps.{keeps}
use Rattle.elab_flat_instances.specs.Unfolding.{AreUnfolded, scope_of_top}
use Rattle.elab_flat_faults.specs.Handed.{IsFlattened}
use Rattle.elab_flat_faults.specs.Plain.{ArePlainTexts}
use Rattle.elab_flat.specs.Checked.{AreChecked}
use Rattle.elab_flat.proofs.Inputs.{inputs_are}
use Rattle.elab_flat.proofs.Usable.{can_flatten}
use Rattle.elab_flat.specs.Joined.{IsJoined}

module _ (ms : List Module) (top : Name) (f : Flat) where
  pub is_flattened : (ss : List Scope) (m : Module) → AreUnfolded ms top ss → AreChecked ms top ss → ArePlainTexts ms → module_at ms top ≡ Some m → IsJoined ms ss m f → IsFlattened ms top f
  is_flattened ss m are checked plain there joined = record {
    scopes = ss;
    all = are.scopes;
    own = record { paths = are.paths; lead = are.lead; distinct = are.distinct; in_order = are.in_order };
    texts = record {
      signals = joined.signals;
      assigns = joined.assigns;
      blocks = joined.blocks;
      inputs = inputs_are ms top m (checked (scope_of_top m) (are.scopes.each (scope_of_top m) ([], ap top_scope there))).names there f joined.ports;
    };
    usable = can_flatten ms top ss plain are checked;
  }

  pub flattened_runs : IsFlattened ms top f → KeepsRuns ms top f
  flattened_runs h = keeps ms top h.scopes f h.texts h.all h.usable
