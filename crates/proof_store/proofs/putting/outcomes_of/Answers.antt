use Rattle.std.proofs.Common.{refl}
use Rattle.proof_store.proofs.Puts.{outcomes_more}
use Rattle.proof_store.proofs.putting.outcomes_of.Goals as goal

pub loop-one-preserved : goal.loop-one-preserved
loop-one-preserved g c =
    outcomes_more c.args.decided.now c.loop-one.one-index c.one-item.result c.loop-one.all.items _ _ c.loop-one-test.true c.one-item.is c.loop-one.invariant (record { ob_is = refl; evidence_is = refl; kept_is = c.is_kept-kept.ensures }) c.in_ok-push.ensures.items
