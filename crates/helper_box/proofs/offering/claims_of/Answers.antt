use Rattle.std.proofs.Common.{rules}
use Rattle.helper_box.proofs.Ready.{more_ready, nobody_ready}
use Rattle.helper_box.proofs.offering.claims_of.Goals as goal

pub loop-helper-init : goal.loop-helper-init
loop-helper-init g c = record { count = search rules; pass = nobody_ready _ _ _ c.new-ready.ensures.items }

pub loop-helper-preserved : goal.loop-helper-preserved
loop-helper-preserved g c = record {
  count = search rules;
  pass = more_ready _ _ c.loop-helper.ready.items _ _ c.loop-helper.invariant.pass c.in_ok-claim.ensures c.in_ok-push.ensures.items;
}
