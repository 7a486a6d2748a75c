use Rattle.elab_step_nets.proofs.Boards.{Beginning}
use Rattle.elab_step_nets.proofs.start.begun.Given as goal

abbrev pub invariant-loop-i : goal.invariant-loop-i
invariant-loop-i l = Beginning l.signals l.nets l.i l.initial.dag l.dag l.leaves
