use Rattle.std.proofs.Common.{drop, map}
use Rattle.elab_flat_scopes.specs.Borrowed.{name_meant}
use Rattle.elab_step_flow.proofs.Marking.{WithRest}
use Rattle.elab_step_flow.proofs.marks.mark_names.Given as goal

abbrev pub invariant-loop-name : goal.invariant-loop-name
invariant-loop-name l = WithRest l.names (map name_meant l.list) l.initial.set (map name_meant (drop l.name-index l.list)) l.set
