use Rattle.std.proofs.Common.{map, ◌∙◌, refl}
use Rattle.elab_flat_drivers.proofs.Naming.{meant_at}
use Rattle.elab_flat_clocks.specs.Driving.{timed_meant}
use Rattle.elab_flat_clocks.proofs.Clocking.{same_clock, other_clock, one_more_clock, all_taken, only_clock, first_timing}
use Rattle.elab_flat_clocks.proofs.clocks.one_clock.Goals as goal

pub returns-then-ne-clause-err : goal.returns-then-ne-clause-err
returns-then-ne-clause-err c =
    let ts = c.args.timings.now in (
      timed_meant c.timing-item.result,
      timed_meant c.in-Some.timing.now,
      meant_at timed_meant ts ts (map timed_meant ts) c.loop-timing.timing-index c.timing-item.result c.loop-timing-test.true c.timing-item.is refl refl,
      first_timing ts c.first.result c.in-Some.timing c.first.ensures.item c.in-Some.is,
      other_clock c.ne.result _ _ _ _ c.ne.ensures c.bytes.ensures c.bytes-in-loop-timing.ensures c.if-ne.true,
      c.in_ok-copy.ensures ∙ c.bytes-then-ne.ensures,
    )

pub loop-timing-preserved : goal.loop-timing-preserved
loop-timing-preserved c =
    one_more_clock c.args.timings.now c.loop-timing.timing-index c.timing-item.result c.loop-timing-test.true c.timing-item.is c.in-Some.timing.now.clock.now c.loop-timing.invariant
    (same_clock c.ne.result _ _ _ _ c.ne.ensures c.bytes.ensures c.bytes-in-loop-timing.ensures c.if-ne.false)

pub returns-clause-ok : goal.returns-clause-ok
returns-clause-ok c =
    let ts = c.args.timings.now in
    only_clock (map timed_meant ts) c.in-Some.timing.now.clock.now (all_taken ts c.loop-timing.timing-index c.loop-timing-test.false c.in-Some.timing.now.clock.now c.loop-timing.invariant)
    (timed_meant c.in-Some.timing.now) (first_timing ts c.first.result c.in-Some.timing c.first.ensures.item c.in-Some.is)
