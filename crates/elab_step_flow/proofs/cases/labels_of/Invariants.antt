use Rattle.std.proofs.Common.{◌≡◌, ◌++◌, drop, map}
use Rattle.std.specs.List.{flat_map}
use Rattle.elab_step_flow.specs.Cases.{expr_meant, item_labels}
use Rattle.elab_step_flow.proofs.cases.labels_of.Given as goal

abbrev pub invariant-loop-item : goal.invariant-loop-item
invariant-loop-item l = map expr_meant l.all.items ++ flat_map item_labels (drop l.item-index l.items) ≡ flat_map item_labels l.items
