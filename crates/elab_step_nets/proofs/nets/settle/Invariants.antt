use Rattle.std.proofs.Common.{drop}
use Rattle.elab_step_nets.specs.Boards.{statements, picked, names_of}
use Rattle.elab_step_nets.proofs.Boards.{Clearing}
use Rattle.elab_step_nets.proofs.Driving.{Settles}
use Rattle.elab_step_nets.proofs.nets.settle.Given as goal

abbrev pub invariant-loop-net : goal.invariant-loop-net
invariant-loop-net l = Clearing l.text.flat.now (names_of l.text.flat.now.signals l.nets) (names_of l.text.flat.now.signals (drop l.net-index l.nets)) l.fn.state l.fn.dag l.state l.dag

abbrev pub invariant-loop-place : goal.invariant-loop-place
invariant-loop-place l =
    Settles l.fn.text l.text (picked (statements l.fn.text.flat.now) l.places) (names_of l.fn.text.flat.now.signals l.nets) (picked (statements l.fn.text.flat.now) (drop l.place-index l.places)) l.fn.state l.fn.dag l.state l.dag
