use Rattle.std.proofs.Common.{◌≡◌, ◌+◌, ◌∙◌, arith}
use Rattle.std.specs.Prelude.{max}
use Rattle.replay_eval.proofs.Properties.{last_next}
use Rattle.replay_eval.proofs.judge.last_row.Goals as goal

pub loop-successor-preserved : goal.loop-successor-preserved
loop-successor-preserved c =
    let made : c.max-last.result ≡ max c.loop-successor.last (c.args.n + c.window.result) = omega (arith, c.max-last.ensures, c.from.ensures) in
    record {
      last = last_next c.args.set.now c.loop-successor.last c.args.n c.loop-successor.successor-index _ c.max-last.result c.window.result c.args.next.now (omega arith) c.window.ensures.window made ∙ c.loop-successor.invariant.last;
      small = omega (arith, made, c.loop-successor.invariant.small, c.window.ensures.small, c.ranges.n.fits);
    }
