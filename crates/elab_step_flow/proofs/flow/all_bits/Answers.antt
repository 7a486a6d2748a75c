use Rattle.elab_step_flow.proofs.Listing.{among_at}
use Rattle.elab_step_flow.proofs.flow.all_bits.Goals as goal

pub ones-requires : goal.ones-requires
ones-requires c = c.requires c.signal-item.result (among_at c.args.signals.now c.loop-signal.signal-index c.signal-item.result c.loop-signal-test.true c.signal-item.is)
