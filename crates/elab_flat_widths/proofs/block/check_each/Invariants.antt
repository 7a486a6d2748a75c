use Rattle.std.proofs.Common.{◌⊎◌, drop, map}
use Rattle.vlog_tree_runs.specs.Places.{Among}
use Rattle.vlog_tree_runs.specs.Contents.{Block}
use Rattle.vlog_tree_runs.specs.Scopes.{place_of}
use Rattle.elab_flat_scopes.specs.Borrowed.{block_meant}
use Rattle.elab_flat_instances.specs.Unfolding.{scope_meant}
use Rattle.elab_flat_widths.specs.Usages.{IsSoundBody}
use Rattle.elab_flat_widths.proofs.block.check_each.Given as goal

abbrev pub invariant-loop-block : goal.invariant-loop-block
invariant-loop-block l =
    (k : Block) → Among (map block_meant l.blocks) k → (IsSoundBody (place_of (scope_meant l.scope)) k.body) ⊎ Among (map block_meant (drop l.block-index l.blocks)) k
