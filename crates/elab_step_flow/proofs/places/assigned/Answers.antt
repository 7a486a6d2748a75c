use Rattle.std.proofs.Common.{ℕ, List, map, sym, ap, ◌∙◌, subst}
use Rattle.vlog_tree_runs.specs.Places.{Among}
use Rattle.elab_flat_drivers.specs.Parts.{part_meant}
use Rattle.elab_step_flow.specs.Edges.{part_places}
use Rattle.elab_step_flow.proofs.places.assigned.Goals as goal

pub returns-clause-assigned : goal.returns-clause-assigned
returns-clause-assigned c = λ i.
    let parts = ap (map part_meant) c.deref.ensures.value ∙ c.in_ok-parts.ensures in
    let found = c.in_ok-places.ensures ∙ (λ r. part_places (c.names.ensures r) (parts r)) in
    let same = c.put_in_order.ensures.same i in
    (λ h. subst (λ (xs : List ℕ). Among xs i) found (same.0 h), λ h. same.1 (subst (λ (xs : List ℕ). Among xs i) (sym found) h))
