use Rattle.std.proofs.Common.{ℕ, ◌↔◌, take}
use Rattle.vlog_tree_runs.specs.Places.{Among}
use Rattle.elab_step_flow.proofs.sets.both.Given as goal

abbrev pub invariant-loop-place : goal.invariant-loop-place
invariant-loop-place l = (i : ℕ) → Among l.all.items i ↔ (Among (take l.place-index l.places) i × Among l.rising i)
