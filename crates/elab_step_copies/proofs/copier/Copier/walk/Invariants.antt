use Rattle.elab_step_copies.proofs.Paths.{Walk, measure}
use Rattle.elab_step_copies.proofs.copier.Copier.walk.Given as goal

abbrev pub invariant-loop-top : goal.invariant-loop-top
invariant-loop-top l = Walk l.leaves l.fn.self l.fn.dag l.root l.self l.dag l.stack.items

-- each turn makes a copy or goes to a node of a smaller number
abbrev pub decreases-loop-top : goal.decreases-loop-top
decreases-loop-top l = measure l.self l.stack.items
