use Rattle.std.proofs.Common.{◌+◌, length}
use Rattle.elab_step_copies.proofs.Forgetting.{Forgetting}
use Rattle.elab_step_copies.proofs.Noting.{counted}
use Rattle.elab_step_copies.proofs.copier.Copier.forget.Given as goal

abbrev pub invariant-loop-top : goal.invariant-loop-top
invariant-loop-top l = Forgetting l.fn.self l.self l.fn.numbers.items l.stack.items

-- each turn takes a node off the stack, and those that it puts there off a list
abbrev pub decreases-loop-top : goal.decreases-loop-top
decreases-loop-top l = length l.stack.items + counted l.self.readers.items
