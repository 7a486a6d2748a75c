use Rattle.std.proofs.Common.{◌≡◌, ◌++◌, drop, map}
use Rattle.elab_step_flow.specs.Edges.{edge}
use Rattle.elab_step_flow.proofs.edges.add_edges.Given as goal

abbrev pub invariant-loop-place : goal.invariant-loop-place
invariant-loop-place l = l.all.items ++ map (edge l.from) (drop l.place-index l.to) ≡ l.initial.all.items ++ map (edge l.from) l.to
