use Rattle.std.proofs.Common.{◌++◌, []}
use Rattle.replay_waves.specs.Parts.{last_part, scopes}
use Rattle.replay_waves.proofs.Pathing.{last_more, scopes_more}
use Rattle.replay_waves.proofs.parts.add_scopes.Goals as goal

pub loop-byte-preserved : goal.loop-byte-preserved
loop-byte-preserved c = record {
  out = scopes_more c.loop-byte.part.items c.add_byte.new.part.items c.args.path.now c.loop-byte.byte-index (c.args.out.now.items ++ scopes [] c.args.path.now) c.loop-byte.out.items c.add_byte.new.out.items c.loop-byte-test.true c.in_ok-add_byte.ensures.part c.in_ok-add_byte.ensures.out c.loop-byte.invariant.out;
  last = last_more c.loop-byte.part.items c.add_byte.new.part.items c.args.path.now (last_part [] c.args.path.now) c.loop-byte.byte-index c.loop-byte-test.true c.in_ok-add_byte.ensures.part c.loop-byte.invariant.last;
}
