use Rattle.std.proofs.Common.{refl}
use Rattle.std.proofs.lemmas.Result.{IfOk-weaker}
use Rattle.replay_eval.proofs.Exact.{constrained_answer}
use Rattle.replay_eval.proofs.judge.is_constrained.Goals as goal

pub returns : goal.returns
returns c = IfOk-weaker c.meets_constraints.result _ _ (λ i made. constrained_answer c.args.set.now c.args.rows.now i (c.if-not-fits.ensures.0 refl) made) c.meets_constraints.ensures
