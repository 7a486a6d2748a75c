use Rattle.std.proofs.Common.{◌≡◌, ◌++◌, drop}
use Rattle.elab_step_flow.specs.Edges.{pairs}
use Rattle.elab_step_flow.proofs.edges.add_pairs.Given as goal

abbrev pub invariant-loop-place : goal.invariant-loop-place
invariant-loop-place l = l.all.items ++ pairs (drop l.place-index l.from) l.to ≡ l.initial.all.items ++ pairs l.from l.to
