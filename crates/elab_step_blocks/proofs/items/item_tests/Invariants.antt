use Rattle.std.proofs.Common.{take}
use Rattle.elab_step_blocks.proofs.Choosing.{Matching}
use Rattle.elab_step_blocks.proofs.items.item_tests.Given as goal

abbrev pub invariant-loop-item : goal.invariant-loop-item
invariant-loop-item l = Matching l.case.kind l.leaves l.case.subject.now l.subject.wire.width l.subject.signed l.fn.dag l.subject.wire.node (take l.item-index l.case.items.now) l.tests.items l.dag
