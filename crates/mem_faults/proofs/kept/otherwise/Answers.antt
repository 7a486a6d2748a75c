use Rattle.std.proofs.Common.{map, sym, ap, ◌∙◌, subst}
use Rattle.vlog_tree_runs.specs.Places.{Among}
use Rattle.elab_flat_scopes.specs.Borrowed.{name_meant}
use Rattle.elab_flat_drivers.proofs.Kinding.{some_then, none_then}
use Rattle.mem_faults.proofs.Telling.{otherwise_is, is_otherwise}
use Rattle.mem_faults.proofs.kept.otherwise.Goals as goal

pub returns-clause-some : goal.returns-clause-some
returns-clause-some c =
    let names = ap (map name_meant) c.deref.ensures.value ∙ c.in_ok-names.ensures in
    some_then c.first_among.result _ _ c.first_among.ensures.some (λ x h. (h.1, otherwise_is c.args.flat.now x.now (subst (λ z. Among z x.now) names h.0)))

pub returns-clause-none : goal.returns-clause-none
returns-clause-none c =
    let names = ap (map name_meant) c.deref.ensures.value ∙ c.in_ok-names.ensures in
    none_then c.first_among.result _ _ c.first_among.ensures.none (λ h x m s. h x (subst (λ z. Among z x) (sym names) (is_otherwise c.args.flat.now x s)) m)
