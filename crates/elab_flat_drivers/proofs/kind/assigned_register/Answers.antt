use Rattle.std.proofs.Common.{true, ap, ◌∙◌}
use Rattle.std.specs.List.{flat_map}
use Rattle.vlog_tree.specs.declared.item.Assign.{Assign}
use Rattle.vlog_tree_runs.specs.Blocks.{left_names}
use Rattle.elab_flat_drivers.specs.Names.{declared_names}
use Rattle.elab_flat_drivers.proofs.Kinding.{made, wired_by, none_wired, some_then, none_then}
use Rattle.elab_flat_drivers.proofs.kind.assigned_register.Goals as goal

pub returns-clause-some : goal.returns-clause-some
returns-clause-some c =
    some_then c.shared.result _ _ c.shared.ensures.some
    (λ x h. wired_by c.args.flat.now _ _ (made (λ (a : Assign). left_names a.left) _ _ _ _ c.deref.ensures.value c.in_ok-assigned.ensures c.as_slice-2.ensures) (c.in_ok-registers.ensures ∙ ap (flat_map (declared_names true)) c.as_slice.ensures) x.now h)

pub returns-clause-none : goal.returns-clause-none
returns-clause-none c =
    none_then c.shared.result _ _ c.shared.ensures.none
    (λ h. none_wired c.args.flat.now _ _ (made (λ (a : Assign). left_names a.left) _ _ _ _ c.deref.ensures.value c.in_ok-assigned.ensures c.as_slice-2.ensures) (c.in_ok-registers.ensures ∙ ap (flat_map (declared_names true)) c.as_slice.ensures) h)
