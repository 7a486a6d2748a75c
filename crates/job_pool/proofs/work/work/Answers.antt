use Rattle.std.proofs.Common.{arith}
use Rattle.job_pool.proofs.Steps.{works_on}
use Rattle.job_pool.proofs.work.work.Goals as goal

pub jobs-preserved : goal.jobs-preserved
jobs-preserved g c =
    let w = c.jobs.invariant in
    let d = c.draw-number.ensures in
    works_on _ _ _ _ _ _ _ _ w d.seat d.many (omega (arith, w.few, w.whole, c.requires.ready.enough)) c.if-number-shift.false c.in_default.ensures
