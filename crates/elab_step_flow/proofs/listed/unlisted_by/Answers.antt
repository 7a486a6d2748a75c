use Rattle.std.proofs.Common.{◌<◌, ◌↔◌, ℕ, List, length, sym, ◌∙◌, subst}
use Rattle.vlog_tree_runs.specs.declared.flat.Signal.{Signal}
use Rattle.vlog_tree_runs.specs.Places.{Among}
use Rattle.elab_step_flow.specs.Sets.{tables}
use Rattle.elab_step_flow.proofs.Finding.{besides, none_besides, if_some, if_none, found_listed, none_listed}
use Rattle.elab_step_flow.proofs.listed.unlisted_by.Goals as goal

pub absent-place-requires : goal.absent-place-requires
absent-place-requires c = λ i h.
    let m = (c.put_in_order.ensures.same i).0 (subst (λ (z : List ℕ). Among z i) c.deref.ensures.value h) in
    subst (λ (gs : List Signal). i < length gs) (sym c.list.ensures) (c.in_ok-flow.ensures.shows.outside.within i m)

pub returns-clause-some : goal.returns-clause-some
returns-clause-some c =
    let places = c.in_ok-flow.flow.outside.items in
    if_some c.absent-place.result _ _
    (λ i h. besides c.args.scope.now c.args.body.now (tables c.in_ok-flow.flow) c.in_ok-flow.ensures.shows c.args.listed.now i
    (found_listed c.list.result.now c.args.scope.now c.deref.result.now places _ c.args.listed.now c.list.ensures (λ j. subst (λ (z : List ℕ). Among z j ↔ Among places j) (sym c.deref.ensures.value) (c.put_in_order.ensures.same j)) (c.in_ok-names.ensures ∙ c.in_ok-borrowed.ensures) i h))
    c.absent-place.ensures.some

pub returns-clause-none : goal.returns-clause-none
returns-clause-none c =
    let places = c.in_ok-flow.flow.outside.items in
    if_none c.absent-place.result _ _
    (λ h. none_besides c.args.scope.now c.args.body.now (tables c.in_ok-flow.flow) c.in_ok-flow.ensures.shows c.args.listed.now
    (none_listed c.list.result.now c.args.scope.now c.deref.result.now places _ c.args.listed.now c.list.ensures (λ j. subst (λ (z : List ℕ). Among z j ↔ Among places j) (sym c.deref.ensures.value) (c.put_in_order.ensures.same j)) (c.in_ok-names.ensures ∙ c.in_ok-borrowed.ensures) h))
    c.absent-place.ensures.none
