use Rattle.std.proofs.Common.{◌≡◌, ◌++◌, drop, map}
use Rattle.std.specs.List.{flat_map}
use Rattle.elab_flat_scopes.specs.Borrowed.{name_meant, block_meant}
use Rattle.elab_flat_names.specs.Exprs.{waited_names}
use Rattle.elab_flat_names.proofs.names.waited.Given as goal

abbrev pub invariant-loop-block : goal.invariant-loop-block
invariant-loop-block l = map name_meant l.all.items ++ flat_map waited_names (map block_meant (drop l.block-index l.blocks)) ≡ flat_map waited_names (map block_meant l.blocks)
