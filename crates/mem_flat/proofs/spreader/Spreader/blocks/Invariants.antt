use Rattle.std.proofs.Common.{◌≡◌, ◌++◌, drop, map}
use Rattle.mem_laws.specs.Spread.{spread_block}
use Rattle.mem_flat.proofs.spreader.Spreader.blocks.Given as goal

abbrev pub invariant-loop-block : goal.invariant-loop-block
invariant-loop-block l = l.all ++ map (spread_block l.self.rest.now) (drop l.block-index l.blocks) ≡ map (spread_block l.self.rest.now) l.blocks
