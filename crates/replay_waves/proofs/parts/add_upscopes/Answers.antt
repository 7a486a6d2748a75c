use Rattle.replay_waves.proofs.Pathing.{ends_more}
use Rattle.replay_waves.proofs.parts.add_upscopes.Goals as goal

pub loop-byte-preserved : goal.loop-byte-preserved
loop-byte-preserved c = ends_more c.args.path.now c.loop-byte.byte-index c.args.out.now.items c.loop-byte.out.items c.add_end.new.out.items c.loop-byte-test.true c.in_ok-add_end.ensures c.loop-byte.invariant
