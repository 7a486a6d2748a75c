use Rattle.replay_waves.specs.Waves.{cycle_text}
use Rattle.replay_waves.proofs.Numbering.{each_more}
use Rattle.replay_waves.proofs.waves.add_cycles.Goals as goal

pub loop-i-preserved : goal.loop-i-preserved
loop-i-preserved c = each_more (cycle_text c.args.wave.now) c.loop-i.i c.args.out.now.items c.loop-i.out.items c.add_cycle.new.out.items c.loop-i.invariant c.in_ok-add_cycle.ensures
