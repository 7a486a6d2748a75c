use Rattle.elab_step_flow.proofs.Rising.{sought}
use Rattle.elab_step_flow.proofs.sets.has.Goals as goal

pub returns : goal.returns
returns c = sought c.args.rising.now c.args.place c.binary_search.result c.is_ok.result c.requires c.binary_search.ensures.position c.is_ok.ensures.value
