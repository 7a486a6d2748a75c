use Rattle.std.proofs.Common.{◌≡◌, ◌++◌, drop, map}
use Rattle.elab_flat_drivers.specs.Parts.{part_meant}
use Rattle.test_judges.specs.Driving.{block_parts}
use Rattle.test_judges.proofs.parts.add_blocks.Given as goal

abbrev pub invariant-loop-block : goal.invariant-loop-block
invariant-loop-block l = map part_meant l.all.items ++ block_parts l.clocked (drop l.block-index l.blocks) ≡ map part_meant l.initial.all.items ++ block_parts l.clocked l.blocks
