use Rattle.mem_faults.proofs.Keeping.{among_at}
use Rattle.mem_faults.proofs.rest.all_at_rest.Goals as goal

pub add_signal-requires : goal.add_signal-requires
add_signal-requires c = c.requires c.signal-item.result (among_at c.args.signals.now c.loop-signal.signal-index c.signal-item.result _ c.loop-signal-test.true c.signal-item.is)
