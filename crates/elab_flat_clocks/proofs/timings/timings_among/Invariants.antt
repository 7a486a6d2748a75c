use Rattle.std.proofs.Common.{take, map}
use Rattle.elab_flat_scopes.specs.Borrowed.{block_meant}
use Rattle.elab_flat_clocks.specs.Driving.{timed_meant, AreTimingsBy}
use Rattle.elab_flat_clocks.proofs.timings.timings_among.Given as goal

abbrev pub invariant-loop-block : goal.invariant-loop-block
invariant-loop-block l = AreTimingsBy l.table (map block_meant (take l.block-index l.blocks)) (map timed_meant l.all.items)
