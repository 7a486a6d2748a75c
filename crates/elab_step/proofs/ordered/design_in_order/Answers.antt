use Rattle.std.proofs.Common.{◌≡◌, Bool, List, ℕ, Vec, Global, length, arith, sym, ap, ◌∙◌, subst, Result, Ok, Err, IfOk}
use Rattle.vlog_tree_runs.specs.Places.{Name, Among}
use Rattle.elab_flat_faults.specs.Drivers.{DependsOn}
use Rattle.elab_flat_graphs.specs.Graphs.{graph_of}
use Rattle.elab_step_nets.specs.Boards.{names_of, groups_of, AreBelow, IsSolution}
use Rattle.elab_step_nets.specs.Solving.{joined, processes, AreGroups, IsNetOrder}
use Rattle.elab_step_nets.proofs.Boards.{places_long}
use Rattle.elab_step.specs.Sources.{flags_among}
use Rattle.elab_step.proofs.Grouping.{below, joined_names, net_groups}
use Rattle.elab_step.proofs.ordered.design_in_order.Goals as goal

pub groups_of-requires-clause-places : goal.groups_of-requires-clause-places
groups_of-requires-clause-places c =
    let f = c.args.flat.now in
    places_long f f.signals c.args.places.now c.requires.places ∙ sym c.requires.size

pub groups_of-requires-clause-order : goal.groups_of-requires-clause-order
groups_of-requires-clause-order c i m = let l = c.requires.within i m in let n = c.requires.size in omega (arith, l, n)

pub solve-requires-clause-groups : goal.solve-requires-clause-groups
solve-requires-clause-groups c =
    let f = c.args.flat.now in
    let n = places_long f f.signals c.args.places.now c.requires.places in
    let P : List (Vec ℕ Global) → Type 0 = λ z. AreBelow (length c.args.places.now) z in
    subst P (sym c.deref.ensures.value)
    (below (length c.args.places.now) c.in_ok-groups.groups.items (λ i m. let l = c.requires.within i (subst (λ z. Among z i) c.in_ok-groups.ensures.all m) in omega (arith, l, n)))

so_then : {T E : Type 0} (r : Result T E) (P Q : T → Type 0) → ((x : T) → P x → Q x) → IfOk r P → IfOk r Q
so_then (Ok x) P Q f p = f x p
so_then (Err e) P Q f p = tt

pub design_of-requires-clause-order : goal.design_of-requires-clause-order
design_of-requires-clause-order c =
    let f = c.args.flat.now in
    let r = c.requires in
    let vs = c.in_ok-groups.groups.items in
    let e : joined (groups_of f.signals vs) ≡ names_of f.signals c.args.order.now =
    joined_names f r.can (graph_of c.args.graph.now) r.depends c.args.places.now c.requires.places vs ∙ ap (names_of f.signals) c.in_ok-groups.ensures.all in
    let P : List Name → Type 0 = λ z. IsNetOrder f (DependsOn f) z in
    subst P (sym (ap (λ z. joined (groups_of f.signals z)) c.deref-3.ensures.value ∙ e)) r.order

pub design_of-requires-clause-nets : goal.design_of-requires-clause-nets
design_of-requires-clause-nets c =
    let f = c.args.flat.now in
    let r = c.requires in
    let vs = c.in_ok-groups.groups.items in
    let e : joined (groups_of f.signals vs) ≡ names_of f.signals c.args.order.now =
    joined_names f r.can (graph_of c.args.graph.now) r.depends c.args.places.now c.requires.places vs ∙ ap (names_of f.signals) c.in_ok-groups.ensures.all in
    let names : c.in_ok-net_names.net_names ≡ joined (groups_of f.signals c.deref-3.result.now) =
    c.in_ok-net_names.ensures ∙ ap (λ z. names_of z c.args.order.now) c.as_slice-signals.ensures ∙ sym (ap (λ z. joined (groups_of f.signals z)) c.deref-3.ensures.value ∙ e) in
    c.deref-4.ensures.value ∙ c.in_ok-nets.ensures ∙ (λ i. flags_among (names i) (c.as_slice-signals.ensures i))

pub design_of-requires-clause-solution : goal.design_of-requires-clause-solution
design_of-requires-clause-solution c =
    let f = c.args.flat.now in
    let s = c.in_ok-solution.solution in
    let P : List (Vec ℕ Global) → List Bool → Type 0 = λ z t. IsSolution f (groups_of f.signals z) t s.dag s.begun s.now s.next in
    subst (λ z. P z c.deref-4.result.now) (c.deref.ensures.value ∙ sym c.deref-3.ensures.value)
    (subst (λ t. P c.deref.result.now t) (c.deref-2.ensures.value ∙ sym c.deref-4.ensures.value) c.in_ok-solution.ensures)

pub returns-clause-solved : goal.returns-clause-solved
returns-clause-solved c =
    let f = c.args.flat.now in
    let r = c.requires in
    let vs = c.in_ok-groups.groups.items in
    let e : joined (groups_of f.signals vs) ≡ names_of f.signals c.args.order.now =
    joined_names f r.can (graph_of c.args.graph.now) r.depends c.args.places.now c.requires.places vs ∙ ap (names_of f.signals) c.in_ok-groups.ensures.all in
    so_then c.design_of.result _ _ (λ d is. (groups_of f.signals c.deref-3.result.now, ap (λ z. joined (groups_of f.signals z)) c.deref-3.ensures.value ∙ e, is)) c.design_of.ensures.solved

pub returns-clause-runs : goal.returns-clause-runs
returns-clause-runs c clean =
    let f = c.args.flat.now in
    let r = c.requires in
    let vs = c.in_ok-groups.groups.items in
    let g = graph_of c.args.graph.now in
    let ps = c.args.places.now in
    let at = c.deref-3.result.now in
    let e : joined (groups_of f.signals vs) ≡ names_of f.signals c.args.order.now = joined_names f r.can g r.depends ps c.requires.places vs ∙ ap (names_of f.signals) c.in_ok-groups.ensures.all in
    let P : List Name → Type 0 = λ z. IsNetOrder f (DependsOn f) z in
    let order : IsNetOrder f (DependsOn f) (joined (groups_of f.signals vs)) = subst P (sym e) r.order in
    let are = c.in_ok-groups.ensures in
    let groups : AreGroups (processes f) (DependsOn f) (groups_of f.signals vs) =
    net_groups f r.can g r.depends ps c.requires.places vs (λ i m. r.within i (subst (λ z. Among z i) are.all m)) are.each order.order in
    let R : List (Vec ℕ Global) → Type 0 = λ z. IsNetOrder f (DependsOn f) (joined (groups_of f.signals z)) × AreGroups (processes f) (DependsOn f) (groups_of f.signals z) in
    let both : R at = subst R (sym c.deref-3.ensures.value) (order, groups) in
    so_then c.design_of.result _ _ (λ d is. c.solved_designs_have_the_modules_runs.ensures f (groups_of f.signals at) d r.can clean both.0 both.1 is) c.design_of.ensures.solved
