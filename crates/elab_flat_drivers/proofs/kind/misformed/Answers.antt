use Rattle.std.proofs.Common.{true, false}
use Rattle.elab_flat_drivers.specs.declared.names.Form.TheVariants as v
use Rattle.elab_flat_drivers.specs.Names.{chosen_names}
use Rattle.elab_flat_drivers.proofs.Kinding.{made, blocking_by, nonblocking_by, formed_by, empty, some_then, none_then, none_is}
use Rattle.elab_flat_drivers.proofs.kind.misformed.Goals as goal

pub returns-in-Some-clause-some : goal.returns-in-Some-clause-some
returns-in-Some-clause-some c = blocking_by c.args.flat.now _ (made (chosen_names true v.Blocking) _ _ _ _ c.deref.ensures.value c.in_ok-blocking.ensures c.as_slice-blocks.ensures) _ c.in-Some.ensures.some

pub returns-clause-some : goal.returns-clause-some
returns-clause-some c = some_then c.first-2.result _ _ c.first-2.ensures.some (λ x h. nonblocking_by c.args.flat.now _ (made (chosen_names false v.Nonblocking) _ _ _ _ c.deref-2.ensures.value c.in_ok-nonblocking.ensures c.as_slice-blocks.ensures) x.now h)

pub returns-clause-none : goal.returns-clause-none
returns-clause-none c =
    none_then c.first-2.result _ _ c.first-2.ensures.none
    (λ h. formed_by c.args.flat.now _ _ (made (chosen_names true v.Blocking) _ _ _ _ c.deref.ensures.value c.in_ok-blocking.ensures c.as_slice-blocks.ensures) (made (chosen_names false v.Nonblocking) _ _ _ _ c.deref-2.ensures.value c.in_ok-nonblocking.ensures c.as_slice-blocks.ensures) (empty _ (none_is c.first.result _ c.in_default.not-Some c.first.ensures.none)) (empty _ h))
