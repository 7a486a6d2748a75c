use Rattle.std.proofs.Common.{map, ap, ◌∙◌, subst}
use Rattle.vlog_tree_runs.specs.Places.{Among}
use Rattle.elab_flat_drivers.specs.Parts.{part_meant}
use Rattle.elab_flat_drivers.proofs.Growing.{ok_then}
use Rattle.elab_step_flow.specs.Assigned.{PartsSet}
use Rattle.elab_step_flow.specs.Sets.{tables}
use Rattle.elab_step_flow.proofs.assign.assign_left.Goals as goal

pub assign_parts-requires-clause-ready : goal.assign_parts-requires-clause-ready
assign_parts-requires-clause-ready c = λ q m. c.requires.ready q (subst (λ qs. Among qs q) (ap (map part_meant) c.deref.ensures.value ∙ c.in_ok-parts.ensures) m)

pub returns-clause-set : goal.returns-clause-set
returns-clause-set c =
    ok_then c.assign_parts.result _ _ c.assign_parts.ensures.set
    (λ h. subst (λ qs. PartsSet c.args.scope.now qs c.args.sources.now (tables c.args.flow.now) (tables c.assign_parts.new.flow)) (ap (map part_meant) c.deref.ensures.value ∙ c.in_ok-parts.ensures) h)
