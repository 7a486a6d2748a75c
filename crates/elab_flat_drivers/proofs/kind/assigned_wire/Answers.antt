use Rattle.std.proofs.Common.{false, ap, ◌∙◌}
use Rattle.std.specs.List.{flat_map}
use Rattle.elab_flat_drivers.specs.declared.names.Form.TheVariants as v
use Rattle.elab_flat_drivers.specs.Names.{chosen_names, declared_names}
use Rattle.elab_flat_drivers.proofs.Kinding.{made, misplaced_by, none_misplaced, some_then, none_then}
use Rattle.elab_flat_drivers.proofs.kind.assigned_wire.Goals as goal

pub returns-clause-some : goal.returns-clause-some
returns-clause-some c =
    some_then c.shared.result _ _ c.shared.ensures.some
    (λ x h. misplaced_by c.args.flat.now c.args.clocked _ _ (made (chosen_names c.args.clocked v.Any) _ _ _ _ c.deref.ensures.value c.in_ok-assigned.ensures c.as_slice-2.ensures) (c.in_ok-wires.ensures ∙ ap (flat_map (declared_names false)) c.as_slice.ensures) x.now h)

pub returns-clause-none : goal.returns-clause-none
returns-clause-none c =
    none_then c.shared.result _ _ c.shared.ensures.none
    (λ h. none_misplaced c.args.flat.now c.args.clocked _ _ (made (chosen_names c.args.clocked v.Any) _ _ _ _ c.deref.ensures.value c.in_ok-assigned.ensures c.as_slice-2.ensures) (c.in_ok-wires.ensures ∙ ap (flat_map (declared_names false)) c.as_slice.ensures) h)
