use Rattle.elab_step_nets.proofs.Driving.{Rounds}
use Rattle.elab_step_nets.proofs.nets.solve_nets.Given as goal

abbrev pub invariant-loop-i : goal.invariant-loop-i
invariant-loop-i l = Rounds l.flat l.text l.groups l.i l.fn.state l.fn.dag l.state l.dag
