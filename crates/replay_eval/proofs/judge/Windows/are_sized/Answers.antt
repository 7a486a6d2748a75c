use Rattle.std.proofs.Common.{refl}
use Rattle.replay_eval.proofs.Exact.{sized_answer}
use Rattle.replay_eval.proofs.judge.Windows.are_sized.Goals as goal

pub returns : goal.returns
returns c = sized_answer c.args.self.now.set.now c.set.result.now c.as_slice.result.now c.args.end c.args.self.now.one.now c.args.self.now.other.now c.all_agree.result c.set.ensures.value c.as_slice.ensures c.all_agree.ensures (c.if-not-is_sized.ensures.0 refl) (c.if-not-is_sized-2.ensures.0 refl)
