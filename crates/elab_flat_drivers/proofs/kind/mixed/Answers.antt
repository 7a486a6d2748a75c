use Rattle.std.proofs.Common.{true, false, ap, ◌∙◌}
use Rattle.std.specs.List.{flat_map}
use Rattle.elab_flat_drivers.specs.declared.names.Form.TheVariants as v
use Rattle.elab_flat_drivers.specs.Names.{chosen_names}
use Rattle.elab_flat_drivers.proofs.Kinding.{made, mixed_by, whole_by, some_then, none_then}
use Rattle.elab_flat_drivers.proofs.kind.mixed.Goals as goal

pub returns-clause-some : goal.returns-clause-some
returns-clause-some c = some_then c.shared.result _ _ c.shared.ensures.some (λ x h. mixed_by c.args.flat.now _ _ (made (chosen_names true v.Any) _ _ _ _ c.deref.ensures.value c.in_ok-clocked.ensures c.as_slice-blocks.ensures) (c.in_ok-others.ensures ∙ (c.in_ok-combinational.ensures ∙ ap (flat_map (chosen_names false v.Any)) c.as_slice-blocks.ensures)) x.now h)

pub returns-clause-none : goal.returns-clause-none
returns-clause-none c = none_then c.shared.result _ _ c.shared.ensures.none (λ h. whole_by c.args.flat.now _ _ (made (chosen_names true v.Any) _ _ _ _ c.deref.ensures.value c.in_ok-clocked.ensures c.as_slice-blocks.ensures) (c.in_ok-others.ensures ∙ (c.in_ok-combinational.ensures ∙ ap (flat_map (chosen_names false v.Any)) c.as_slice-blocks.ensures)) h)
