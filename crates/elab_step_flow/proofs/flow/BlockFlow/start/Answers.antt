use Rattle.elab_step_flow.proofs.Starting.{starts}
use Rattle.elab_step_flow.proofs.flow.BlockFlow.start.Goals as goal

pub returns-clause-start : goal.returns-clause-start
returns-clause-start c = starts c.args.signals.now c.requires.distinct _ _ _ c.in_ok-all_bits.ensures c.in_ok-empty_rows.ensures c.new.ensures.items
