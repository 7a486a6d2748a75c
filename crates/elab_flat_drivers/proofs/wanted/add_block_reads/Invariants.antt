use Rattle.std.proofs.Common.{◌≡◌, ◌++◌, drop, map}
use Rattle.std.specs.List.{flat_map}
use Rattle.elab_flat_drivers.specs.Parts.{part_meant}
use Rattle.elab_flat_drivers.specs.Wanting.{block_reads}
use Rattle.elab_flat_drivers.proofs.wanted.add_block_reads.Given as goal

abbrev pub invariant-loop-block : goal.invariant-loop-block
invariant-loop-block l = map part_meant l.all.items ++ flat_map block_reads (drop l.block-index l.blocks) ≡ map part_meant l.initial.all.items ++ flat_map block_reads (l.blocks)
