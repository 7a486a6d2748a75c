use Rattle.std.proofs.Common.{◌≡◌, ◌++◌, drop, map}
use Rattle.std.specs.List.{flat_map}
use Rattle.vlog_tree_runs.specs.Contents.{item_params, listed_params}
use Rattle.elab_flat_scopes.specs.Borrowed.{param_meant}
use Rattle.elab_flat_scopes.proofs.param.params_in.Given as goal

abbrev pub invariant-loop-item : goal.invariant-loop-item
invariant-loop-item l =
    map param_meant l.all.items ++ flat_map item_params (drop l.item-index l.item-items) ≡ listed_params l.text.parameters ++ flat_map item_params l.item-items
