use Rattle.elab_step_laws.proofs.Staying.{store_follows}
use Rattle.elab_step_laws.proofs.Following.{flow_follows}
use Rattle.elab_step_laws.proofs.Walking.{bits_follow}
use Rattle.elab_step_laws.proofs.law.bits_follow.Goals as goal

pub returns-clause-assignment : goal.returns-clause-assignment
returns-clause-assignment c =
    let k = c.bits_are_written.ensures in store_follows (record { inside = k.inside; others = k.others; below = k.below })

pub returns-clause-flow : goal.returns-clause-flow
returns-clause-flow c =
    let k = c.bits_are_written.ensures in flow_follows (record { inside = k.inside; others = k.others; below = k.below })

pub returns-clause-paths : goal.returns-clause-paths
returns-clause-paths c =
    let k = c.bits_are_written.ensures in bits_follow (record { inside = k.inside; others = k.others; below = k.below })
