use Rattle.std.proofs.Common.{◌++◌, arith}
use Rattle.replay_waves.specs.Parts.{code}
use Rattle.replay_waves.proofs.Coding.{digit_last, digit_more}
use Rattle.replay_waves.proofs.parts.add_code.Goals as goal

pub loop-rest-preserved : goal.loop-rest-preserved
loop-rest-preserved c = digit_more (c.args.out.now.items ++ code c.args.number) c.loop-rest.out.items c.push.new.self.items c.loop-rest.rest (omega arith) c.loop-rest.invariant c.in_ok-push.ensures.items

pub returns : goal.returns
returns c = digit_last (c.args.out.now.items ++ code c.args.number) c.loop-rest.out.items c.push-2.new.self.items c.loop-rest.rest (omega arith) c.loop-rest.invariant c.in_ok-push-2.ensures.items
