use Rattle.std.proofs.Common.{sym, ap, ◌∙◌, subst}
use Rattle.vlog_tree_runs.specs.Places.{Among}
use Rattle.elab_flat_drivers.proofs.Kinding.{made, some_then, none_then}
use Rattle.mem_faults.specs.Kept.{signed_names}
use Rattle.mem_faults.proofs.Telling.{signed_is, is_signed}
use Rattle.mem_faults.proofs.kept.signed.Goals as goal

pub returns-clause-some : goal.returns-clause-some
returns-clause-some c =
    let names = made signed_names _ _ _ _ c.deref.ensures.value c.in_ok-names.ensures c.as_slice.ensures in
    some_then c.first_among.result _ _ c.first_among.ensures.some (λ x h. (h.1, signed_is c.args.flat.now x.now (subst (λ z. Among z x.now) names h.0)))

pub returns-clause-none : goal.returns-clause-none
returns-clause-none c =
    let names = made signed_names _ _ _ _ c.deref.ensures.value c.in_ok-names.ensures c.as_slice.ensures in
    none_then c.first_among.result _ _ c.first_among.ensures.none (λ h x m s. h x (subst (λ z. Among z x) (sym names) (is_signed c.args.flat.now x s)) m)
