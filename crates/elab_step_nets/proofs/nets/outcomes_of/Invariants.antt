use Rattle.std.proofs.Common.{take}
use Rattle.elab_step_nets.proofs.Sources.{Passing}
use Rattle.elab_step_nets.proofs.nets.outcomes_of.Given as goal

abbrev pub invariant-loop-block : goal.invariant-loop-block
invariant-loop-block l = Passing l.flat.signals l.first l.work l.source (take l.block-index l.flat.blocks) l.all.items
