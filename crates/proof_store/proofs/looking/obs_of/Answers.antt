use Rattle.std.proofs.Common.{refl}
use Rattle.proof_store.proofs.Lookups.{obs_more}
use Rattle.proof_store.proofs.looking.obs_of.Goals as goal

pub loop-goal-preserved : goal.loop-goal-preserved
loop-goal-preserved g c = obs_more c.args.goals.now c.loop-goal.goal-index c.goal-item.result c.loop-goal.obs.items _ _ c.loop-goal-test.true c.goal-item.is c.loop-goal.invariant refl c.in_ok-push.ensures.items
