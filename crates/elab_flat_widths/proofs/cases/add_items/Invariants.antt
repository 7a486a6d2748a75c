use Rattle.std.proofs.Common.{◌≡◌, ◌++◌, drop, map}
use Rattle.std.specs.List.{flat_map}
use Rattle.elab_flat_widths.specs.Usages.{item_labels}
use Rattle.elab_flat_widths.specs.Cases.{expr_meant}
use Rattle.elab_flat_widths.proofs.cases.add_items.Given as goal

abbrev pub invariant-loop-item : goal.invariant-loop-item
invariant-loop-item l = map expr_meant l.all.items ++ flat_map item_labels (drop l.item-index l.items) ≡ map expr_meant l.initial.all.items ++ flat_map item_labels l.items
