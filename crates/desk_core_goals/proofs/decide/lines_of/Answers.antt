use Rattle.desk_core_goals.proofs.LinesTold.{tell_more}
use Rattle.desk_core_goals.proofs.decide.lines_of.Goals as goal

pub loop-one-preserved : goal.loop-one-preserved
loop-one-preserved c = tell_more c.args.bound.now c.args.decided.items _ _ c.loop-one.lines.items _ c.in-Some.one c.in_ok-line.line c.loop-one.invariant c.in-Some.ensures.steps.0 c.in_ok-line.ensures c.in_ok-push.ensures.items
