use Rattle.std.proofs.Common.{◌≡◌, ◌+◌, ◌∙◌, arith}
use Rattle.std.specs.Prelude.{max}
use Rattle.replay.proofs.Rowing.{last_next}
use Rattle.replay.proofs.twin.last_row.Goals as goal

pub loop-successor-preserved : goal.loop-successor-preserved
loop-successor-preserved c =
    let made : c.max-last.result ≡ max c.loop-successor.last (c.args.n + c.window_of.result) = omega (arith, c.max-last.ensures) in
    record {
      last = last_next c.args.set.now c.loop-successor.last c.args.n c.loop-successor.successor-index _ c.max-last.result c.window_of.result c.args.next.now (omega arith) c.window_of.ensures.window made ∙ c.loop-successor.invariant.last;
      small = omega (arith, made, c.loop-successor.invariant.small, c.window_of.ensures.small, c.requires.end);
    }
