use Rattle.elab_step_laws.proofs.Staying.{store_apart, bits_apart}
use Rattle.elab_step_laws.proofs.law.bits_are_apart.Goals as goal

pub returns-clause-assignment : goal.returns-clause-assignment
returns-clause-assignment c =
    let k = c.bits_are_written.ensures in store_apart (record { inside = k.inside; others = k.others; below = k.below })

pub returns-clause-block : goal.returns-clause-block
returns-clause-block c =
    let k = c.bits_are_written.ensures in bits_apart (record { inside = k.inside; others = k.others; below = k.below })
