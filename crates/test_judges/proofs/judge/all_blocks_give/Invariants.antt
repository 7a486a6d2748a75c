use Rattle.std.proofs.Common.{◌≡◌, drop}
use Rattle.std.specs.List.{list_all}
use Rattle.test_judges.specs.Judging.{block_gives}
use Rattle.test_judges.proofs.judge.all_blocks_give.Given as goal

abbrev pub invariant-loop-block : goal.invariant-loop-block
invariant-loop-block l = list_all (block_gives l.flat.signals l.now l.next) (drop l.block-index l.flat.blocks) ≡ list_all (block_gives l.flat.signals l.now l.next) l.flat.blocks
