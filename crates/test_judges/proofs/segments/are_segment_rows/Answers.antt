use Rattle.std.proofs.Common.{◌≡◌, true}
use Rattle.test_judges.proofs.Exact.{segment_exact}
use Rattle.test_judges.proofs.segments.are_segment_rows.Goals as goal

pub returns : goal.returns
returns c =
    let met : c.in_ok-window.window ≡ true = cc in
    segment_exact c.args.set.now c.args.end c.args.rows.now c.in_ok-begun.begun (c.in_ok-window.ensures.0 met) c.in_ok-begun.ensures
