use Rattle.elab_step_copies.proofs.Rows.{Reached}
use Rattle.elab_step_copies.proofs.copier.Copier.copy_each.Given as goal

abbrev pub invariant-loop-root : goal.invariant-loop-root
invariant-loop-root l = Reached l.leaves l.fn.self l.fn.dag l.roots l.self l.dag l.made.items l.root-index
