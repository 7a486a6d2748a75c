use Rattle.std.proofs.Common.{◌≡◌, ℕ, [], length}
use Rattle.elab_step_copies.specs.Copies.{list_at}
use Rattle.elab_step_copies.proofs.lists.empty_lists.Given as goal

abbrev pub invariant-loop : goal.invariant-loop
invariant-loop l = (length l.lists.items ≡ l.counter) × ((i : ℕ) → list_at l.lists.items i ≡ [])
