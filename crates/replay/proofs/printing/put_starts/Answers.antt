use Rattle.std.proofs.Common.{refl}
use Rattle.replay.specs.Texts.{start_line}
use Rattle.replay.proofs.Putting.{stopped_in_loop}
use Rattle.replay.proofs.printing.put_starts.Goals as goal

pub returns-in_err-put_start : goal.returns-in_err-put_start
returns-in_err-put_start g c =
    stopped_in_loop c.from_residual.result start_line c.args.starts.now c.loop-start.start-index c.start-item.result c.start-item.result refl c.loop-start-test.true c.start-item.is c.from_residual.ensures.1 c.loop-start.invariant c.in_err-put_start.ensures
