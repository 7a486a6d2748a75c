use Rattle.std.proofs.Common.{◌≡◌, ◌++◌, drop, map}
use Rattle.std.specs.List.{flat_map}
use Rattle.elab_flat_widths.specs.Usages.{usages, item_usages}
use Rattle.elab_flat_widths.specs.Sites.{site_meant}
use Rattle.elab_flat_widths.proofs.site.+sites.Given as goal

abbrev pub invariant-add_stmts-loop-stmt : goal.invariant-add_stmts-loop-stmt
invariant-add_stmts-loop-stmt l = map site_meant l.all.items ++ flat_map usages (drop l.stmt-index l.stmts) ≡ map site_meant l.initial.all.items ++ flat_map usages l.stmts

abbrev pub invariant-add_items-loop-item : goal.invariant-add_items-loop-item
invariant-add_items-loop-item l = map site_meant l.all.items ++ flat_map item_usages (drop l.item-index l.items) ≡ map site_meant l.initial.all.items ++ flat_map item_usages l.items
