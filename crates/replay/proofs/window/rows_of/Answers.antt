use Rattle.replay.proofs.Rowing.{rows_next}
use Rattle.replay.proofs.window.rows_of.Goals as goal

pub loop-cycle-preserved : goal.loop-cycle-preserved
loop-cycle-preserved c = λ e of. rows_next c.args.names.now e c.args.side c.loop-cycle.cycle c.loop-cycle.rows c.push.new.self c.in_ok-row.row (c.loop-cycle.invariant e of) c.in_ok-push.ensures.ok (c.in_ok-row.ensures e of)
