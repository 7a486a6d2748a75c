use Rattle.std.specs.Vec.Iter.{into_iter_items}
use Rattle.helper_box.proofs.Ready.{first_ready, left_ready}
use Rattle.helper_box.proofs.Turns.{asked_next, asked_so_far, all_asked, asks_all}
use Rattle.helper_box.proofs.offering.ask_each.Goals as goal

pub ask-requires-clause-ready : goal.ask-requires-clause-ready
ask-requires-clause-ready g c κs within =
    rw c.unwrap_or-made.ensures (first_ready c.args.ob.now c.args.cnf.now _ (into_iter_items c.next.new.self) c.next.result c.next.ensures.items c.loop-helper.invariant.ready)

pub loop-helper-preserved : goal.loop-helper-preserved
loop-helper-preserved g c = record {
  asked = asked_next _ _ _ _ _ _ c.loop-helper-test.true c.loop-helper.invariant.asked c.ask.ensures.asked;
  ready = left_ready c.args.ob.now c.args.cnf.now _ (into_iter_items c.next.new.self) c.next.result c.next.ensures.items c.loop-helper.invariant.ready;
}

pub returns-in_err-claim-clause-asked : goal.returns-in_err-claim-clause-asked
returns-in_err-claim-clause-asked g c =
    asked_so_far _ _ _ _ c.loop-helper-test.true (asked_next _ _ _ _ _ _ c.loop-helper-test.true c.loop-helper.invariant.asked c.ask.ensures.asked)

pub returns-then-not-matches-clause-asked : goal.returns-then-not-matches-clause-asked
returns-then-not-matches-clause-asked g c =
    asked_so_far _ _ _ _ c.loop-helper-test.true (asked_next _ _ _ _ _ _ c.loop-helper-test.true c.loop-helper.invariant.asked c.ask.ensures.asked)

pub returns-clause-asked : goal.returns-clause-asked
returns-clause-asked g c = asks_all _ _ _ (all_asked _ _ _ _ c.loop-helper-test.false c.loop-helper.auto.helper-index-end c.loop-helper.invariant.asked)

pub returns-clause-nothing : goal.returns-clause-nothing
returns-clause-nothing g c _ = all_asked _ _ _ _ c.loop-helper-test.false c.loop-helper.auto.helper-index-end c.loop-helper.invariant.asked
