use Rattle.std.proofs.Common.{◌≡◌, ◌++◌, drop, map}
use Rattle.std.specs.List.{flat_map}
use Rattle.elab_flat_scopes.specs.Borrowed.{name_meant, block_meant}
use Rattle.elab_flat_names.specs.Exprs.{block_names}
use Rattle.elab_flat_names.proofs.names.add_blocks.Given as goal

abbrev pub invariant-loop-block : goal.invariant-loop-block
invariant-loop-block l = map name_meant l.all.items ++ flat_map block_names (map block_meant (drop l.block-index l.blocks)) ≡ map name_meant l.initial.all.items ++ flat_map block_names (map block_meant l.blocks)
