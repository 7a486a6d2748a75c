use Rattle.twin_tests_laws.specs.Windows.{named_value}
use Rattle.replay.proofs.Rowing.{map_next}
use Rattle.replay.proofs.window.row_of.Goals as goal

pub loop-name-preserved : goal.loop-name-preserved
loop-name-preserved c = λ e of. map_next (named_value e c.args.side c.args.cycle) c.args.names.now c.loop-name.name-index c.name-item.result c.loop-name.row c.push.new.self c.named_value.result c.loop-name-test.true c.name-item.is (c.loop-name.invariant e of) c.in_ok-push.ensures.ok (c.named_value.ensures e of)
