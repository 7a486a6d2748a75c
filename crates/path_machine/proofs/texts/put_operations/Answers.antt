use Rattle.std.proofs.Common.{refl}
use Rattle.set_tree.specs.declared.set.Property.{Property}
use Rattle.path_machine.specs.Texts.{transition}
use Rattle.replay.proofs.Putting.{stopped_in_loop}
use Rattle.path_machine.proofs.texts.put_operations.Goals as goal

pub returns-in_err-put_transition : goal.returns-in_err-put_transition
returns-in_err-put_transition g c =
    stopped_in_loop c.from_residual.result (λ (p : Property). transition c.args.set.now p.name p) c.args.operations.now c.loop-operation.operation-index c.operation-item.result c.operation-item.result refl c.loop-operation-test.true c.operation-item.is c.from_residual.ensures.1 c.loop-operation.invariant (rw c.bytes.ensures at c.in_err-put_transition.ensures)
