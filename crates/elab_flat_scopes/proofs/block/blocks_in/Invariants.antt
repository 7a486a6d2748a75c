use Rattle.std.proofs.Common.{◌≡◌, ◌++◌, drop, map}
use Rattle.std.specs.List.{flat_map}
use Rattle.vlog_tree_runs.specs.Contents.{item_blocks}
use Rattle.elab_flat_scopes.specs.Borrowed.{block_meant}
use Rattle.elab_flat_scopes.proofs.block.blocks_in.Given as goal

abbrev pub invariant-loop-item : goal.invariant-loop-item
invariant-loop-item l = map block_meant l.all.items ++ flat_map item_blocks (drop l.item-index l.item-items) ≡ flat_map item_blocks l.item-items
