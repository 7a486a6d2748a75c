use Rattle.std.proofs.Common.{◌∙◌}
use Rattle.elab_flat_drivers.proofs.Kinding.{none_then}
use Rattle.elab_flat_drivers.proofs.Lacks.{within_by, lacking_by, none_by, both_some}
use Rattle.elab_flat_drivers.proofs.lacking.undriven_bit.Goals as goal

pub missing-requires : goal.missing-requires
missing-requires c = within_by c.args.flat.now c.requires.can _ _ (c.deref.ensures.value ∙ c.in_ok-table.ensures) (c.deref-2.ensures.value ∙ c.in_ok-claims.ensures)

pub returns-clause-some : goal.returns-clause-some
returns-clause-some c =
    both_some c.missing.result _ _ _ c.missing.ensures.some c.missing.ensures.unset
    (λ r h u. lacking_by c.args.flat.now c.requires.can _ _ (c.deref.ensures.value ∙ c.in_ok-table.ensures) (c.deref-2.ensures.value ∙ c.in_ok-claims.ensures) r.place r.number h u)

pub returns-clause-none : goal.returns-clause-none
returns-clause-none c =
    none_then c.missing.result _ _ c.missing.ensures.none
    (λ h. none_by c.args.flat.now c.requires.can _ _ (c.deref.ensures.value ∙ c.in_ok-table.ensures) (c.deref-2.ensures.value ∙ c.in_ok-claims.ensures) h)
