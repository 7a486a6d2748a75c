use Rattle.std.proofs.Common.{ap}
use Rattle.path_machine.specs.Texts.{machine_text}
use Rattle.replay.proofs.Putting.{prints_less, prints_same, prints_then}
use Rattle.path_machine.proofs.texts.put_machine.Goals as goal

pub returns-in_err-put_transition : goal.returns-in_err-put_transition
returns-in_err-put_transition g c =
    prints_same _ _ _ _ c.from_residual.result _ _ (ap machine_text c.set-set.ensures.value)
    (prints_less c.from_residual.result _ c.from_residual.ensures.1 c.in_err-put_transition.ensures)

pub returns : goal.returns
returns g c =
    prints_same _ _ _ _ c.put_operations.result _ _ (ap machine_text c.set-set.ensures.value)
    (prints_then _ c.put_operations.result _ c.in_ok-put_transition.ensures (rw c.as_slice.ensures at c.put_operations.ensures))
