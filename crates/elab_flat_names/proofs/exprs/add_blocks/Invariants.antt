use Rattle.std.proofs.Common.{◌≡◌, ◌++◌, drop, map}
use Rattle.std.specs.List.{flat_map}
use Rattle.elab_flat_scopes.specs.Borrowed.{block_meant}
use Rattle.elab_flat_names.specs.Exprs.{expr_meant, body_exprs}
use Rattle.elab_flat_names.proofs.exprs.add_blocks.Given as goal

abbrev pub invariant-loop-block : goal.invariant-loop-block
invariant-loop-block l = map expr_meant l.all.items ++ flat_map body_exprs (map block_meant (drop l.block-index l.blocks)) ≡ map expr_meant l.initial.all.items ++ flat_map body_exprs (map block_meant l.blocks)
