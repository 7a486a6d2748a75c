use Rattle.std.proofs.Common.{ℕ, ◌⊎◌, ◌↔◌, take}
use Rattle.vlog_tree_runs.specs.Places.{Among}
use Rattle.elab_step_flow.specs.Sets.{CountsIn, tables}
use Rattle.elab_step_flow.proofs.flow.add_counts.Given as goal

abbrev pub invariant-loop-place : goal.invariant-loop-place
invariant-loop-place l = (z : ℕ) → Among l.all.items z ↔ (Among l.initial.all.items z ⊎ CountsIn (take l.place-index l.read) (tables l.flow) z)
