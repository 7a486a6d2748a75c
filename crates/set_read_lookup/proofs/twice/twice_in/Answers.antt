use Rattle.set_read_lookup.specs.Faults.{first_twice}
use Rattle.set_read_lookup.proofs.Searches.{stands_again, stands_once}
use Rattle.set_read_lookup.proofs.twice.twice_in.Goals as goal

pub returns-then-has : goal.returns-then-has
returns-then-has c = stands_again c.args.names.now c.loop-at.at c.index-names-at.result c.bytes.result.now c.has.result c.loop-at-test.true c.index-names-at.is (first_twice c.args.names.now) c.loop-at.invariant c.bytes.ensures c.has.ensures c.if-has.true

pub loop-at-preserved : goal.loop-at-preserved
loop-at-preserved c = stands_once c.args.names.now c.loop-at.at c.index-names-at.result c.bytes.result.now c.has.result c.loop-at-test.true c.index-names-at.is (first_twice c.args.names.now) c.loop-at.invariant c.bytes.ensures c.has.ensures c.if-has.false
