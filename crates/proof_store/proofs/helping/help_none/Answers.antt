use Rattle.proof_store.proofs.Helps.{none_more}
use Rattle.proof_store.proofs.helping.help_none.Goals as goal

pub loop-preserved : goal.loop-preserved
loop-preserved c = none_more c.args.obs.now c.loop.index c.loop.helped.items _ c.loop-test.true c.loop.invariant c.in_ok-push.ensures.items
