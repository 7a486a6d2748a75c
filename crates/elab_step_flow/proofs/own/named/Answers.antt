use Rattle.std.proofs.Common.{ℕ, List, map, subst, sym, ap, ◌∙◌}
use Rattle.vlog_tree_runs.specs.Places.{Name, Among}
use Rattle.elab_flat_drivers.specs.Parts.{part_meant}
use Rattle.elab_flat_drivers.specs.Spots.{signal_name}
use Rattle.elab_step_flow.specs.Edges.{part_places}
use Rattle.elab_step_flow.proofs.Stating.{stated_places}
use Rattle.elab_step_flow.proofs.own.named.Goals as goal

pub returns-clause-named : goal.returns-clause-named
returns-clause-named c = λ i.
    let names : List Name = map signal_name c.args.scope.now in
    let parts = ap (map part_meant) c.deref.ensures.value ∙ c.in_ok-parts.ensures in
    let found = c.in_ok-places.ensures ∙ (λ r. part_places (c.names.ensures r) (parts r)) in
    let is = stated_places names c.args.body.now i in
    let same = c.put_in_order.ensures.same i in (
      λ h. is.0 (subst (λ (xs : List ℕ). Among xs i) found (same.0 h)),
      λ h. same.1 (subst (λ (xs : List ℕ). Among xs i) (sym found) (is.1 h)),
    )
