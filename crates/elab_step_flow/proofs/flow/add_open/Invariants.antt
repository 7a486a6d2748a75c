use Rattle.std.proofs.Common.{◌≡◌, ℕ, List, ◌⊎◌, ◌↔◌, ◌++◌, take, get_or}
use Rattle.vlog_tree_runs.specs.Places.{Among}
use Rattle.elab_step_flow.proofs.Counting.{Opens}
use Rattle.elab_step_flow.proofs.flow.add_open.Given as goal

abbrev pub invariant-loop-place : goal.invariant-loop-place
invariant-loop-place l = record {
  opens : (i : ℕ) → Among l.all.items i ↔ (Among l.initial.all.items i ⊎ Opens (λ j. get_or l.fn.words j 0) (take l.place-index l.places) i);
  grows : (more : List ℕ) × (l.all.items ≡ l.initial.all.items ++ more);
}
