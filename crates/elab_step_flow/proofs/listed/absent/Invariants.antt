use Rattle.std.proofs.Common.{◌≡◌, ℕ, true, take}
use Rattle.vlog_tree_runs.specs.Places.{Name, Among}
use Rattle.vlog_tree_runs.specs.Contents.{is_among}
use Rattle.elab_step_flow.specs.Shows.{IsAt}
use Rattle.elab_step_flow.proofs.listed.absent.Given as goal

abbrev pub invariant-loop-place : goal.invariant-loop-place
invariant-loop-place l = (i : ℕ) (x : Name) → IsAt l.signals i x → Among (take l.place-index l.places) i → is_among l.listed x ≡ true
