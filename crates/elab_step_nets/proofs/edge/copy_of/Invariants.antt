use Rattle.std.proofs.Common.{◌≡◌, take}
use Rattle.elab_step_nets.proofs.edge.copy_of.Given as goal

abbrev pub invariant-loop-i : goal.invariant-loop-i
invariant-loop-i l = l.copy ≡ take l.i l.leaves
