use Rattle.elab_step_flow.proofs.cases.shape.Goals as goal

pub unreachable-requires : goal.unreachable-requires
unreachable-requires c = let none = rw c.in-None.is at c.in_ok-own.ensures.none in none c.requires
