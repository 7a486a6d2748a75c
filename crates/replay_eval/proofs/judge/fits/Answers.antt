use Rattle.replay_eval.proofs.Exact.{trace_answer}
use Rattle.replay_eval.proofs.judge.fits.Goals as goal

pub returns : goal.returns
returns c = trace_answer c.args.set.now c.set.result.now c.as_slice.result.now c.args.rows.now c.is_trace.result c.set.ensures.value c.as_slice.ensures c.is_trace.ensures
