use Rattle.std.proofs.Common.{◌≡◌, ℕ, Some, take}
use Rattle.vlog_tree_runs.specs.Places.{Among}
use Rattle.elab_step_copies.specs.Copies.{made_at}
use Rattle.elab_step_copies.proofs.copier.is_stale.Given as goal

abbrev pub invariant-loop-number : goal.invariant-loop-number
invariant-loop-number l = (n i : ℕ) → Among (take l.number-index l.numbers) n → made_at l.copies n ≡ Some i → i ≡ l.node
