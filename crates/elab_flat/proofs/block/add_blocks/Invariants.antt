use Rattle.std.proofs.Common.{◌≡◌, ◌++◌, drop, map}
use Rattle.vlog_tree_runs.specs.Scopes.{place_of}
use Rattle.elab_flat_laws.specs.Flattened.{moved_block, flat_blocks}
use Rattle.elab_flat_scopes.specs.Borrowed.{block_meant}
use Rattle.elab_flat_instances.specs.Unfolding.{scope_meant}
use Rattle.elab_flat.proofs.block.add_blocks.Given as goal

abbrev pub invariant-loop-block : goal.invariant-loop-block
invariant-loop-block l =
    l.all ++ map (moved_block (place_of (scope_meant l.scope))) (map block_meant (drop l.block-index l.block-items)) ≡ l.initial.all ++ flat_blocks (scope_meant l.scope)
