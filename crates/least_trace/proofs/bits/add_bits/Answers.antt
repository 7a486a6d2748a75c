use Rattle.std.proofs.Common.{arith}
use Rattle.least_trace.proofs.Steps.{bits_step, bits_end}
use Rattle.least_trace.proofs.bits.add_bits.Goals as goal

pub loop-above-preserved : goal.loop-above-preserved
loop-above-preserved c =
    bits_step c.loop-above.bits.items c.push.new.self.items c.args.bits.now.items c.args.place c.args.width c.loop-above.above c.loop-above-test.true c.in_ok-push.ensures.items c.loop-above.invariant

pub returns : goal.returns
returns c = bits_end _ c.args.bits.now.items c.args.place c.args.width c.loop-above.above (omega arith) c.loop-above.invariant
