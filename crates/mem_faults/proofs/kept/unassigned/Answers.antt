use Rattle.std.proofs.Common.{map, sym, ap, ◌∙◌, subst}
use Rattle.std.specs.List.{flat_map}
use Rattle.vlog_tree_runs.specs.Places.{Among}
use Rattle.elab_flat_drivers.proofs.Kinding.{some_then, none_then}
use Rattle.mem_faults.specs.Used.{memory_names}
use Rattle.mem_faults.proofs.Telling.{assigned_is, is_assigned}
use Rattle.mem_faults.proofs.kept.unassigned.Goals as goal

pub returns-clause-some : goal.returns-clause-some
returns-clause-some c =
    let names = c.in_ok-assigned.ensures in
    some_then c.unassigned_in.result _ _ c.unassigned_in.ensures.some
    (λ x h. (subst (λ z. Among (flat_map memory_names z) x.now) c.as_slice.ensures h.0, λ n. h.1 (subst (λ z. Among z x.now) (sym names) (is_assigned c.args.flat.now x.now n))))

pub returns-clause-none : goal.returns-clause-none
returns-clause-none c =
    let names = c.in_ok-assigned.ensures in
    none_then c.unassigned_in.result _ _ c.unassigned_in.ensures.none
    (λ h x m n. h x (subst (λ z. Among (flat_map memory_names z) x) (sym c.as_slice.ensures) m) (λ a. n (assigned_is c.args.flat.now x (subst (λ z. Among z x) names a))))
