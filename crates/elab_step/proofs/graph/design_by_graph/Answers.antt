use Rattle.std.proofs.Common.{◌≡◌, ◌<◌, ℕ, List, length, inr, sym, ap, ◌∙◌, subst}
use Rattle.vlog_tree_runs.specs.declared.flat.Signal.{Signal}
use Rattle.vlog_tree_runs.specs.Places.{Among}
use Rattle.elab_flat_faults.specs.declared.elaborating.ElabFault.TheVariants as f
use Rattle.elab_flat_faults.specs.Drivers.{DependsOn}
use Rattle.elab_flat_faults.specs.ElabStands.{Stands}
use Rattle.elab_flat_graphs.specs.Graphs.{graph_of, IsSorted, IsOrder, IsCycle}
use Rattle.elab_step_nets.specs.Boards.{name_of, names_of}
use Rattle.elab_step_nets.specs.Solving.{IsNetOrder}
use Rattle.elab_step.specs.Ordering.{source_names, unflagged}
use Rattle.elab_step.specs.Sources.{flags_among}
use Rattle.elab_step.proofs.Ordering.{net_order, nets_within, loop_at}
use Rattle.elab_step.proofs.Loops.{no_loop}
use Rattle.elab_step.proofs.Placing.{placed_long}
use Rattle.elab_step.proofs.graph.design_by_graph.Goals as goal

pub design_in_order-requires-clause-within : goal.design_in_order-requires-clause-within
design_in_order-requires-clause-within c =
    let m = c.args.flat.now in
    let g = graph_of c.args.graph.now in
    let r = c.requires in
    let long : length g ≡ length m.signals = placed_long c.args.graph.now ∙ r.size in
    let is : IsOrder g c.in-Order.signals.items = subst (IsSorted g) c.in-Order.is c.in_ok-signals.ensures.sorted in
    let kept : c.deref-in-Order-4.result.now ≡ unflagged (flags_among (source_names m) m.signals) c.in-Order.signals.items =
    c.deref-in-Order-4.ensures.value ∙ c.in_ok-nets-in-Order.ensures ∙ (λ i. unflagged ((c.deref-in-Order.ensures.value ∙ c.in_ok-sources-in-Order.ensures) i) (c.deref-in-Order-2.ensures.value i)) in
    let P : List ℕ → Type 0 = λ z. (i : ℕ) → Among z i → i < length m.signals in
    subst P (sym kept) (nets_within m r.can g long r.vertices r.depends c.in-Order.signals.items is)

pub design_in_order-requires-clause-order : goal.design_in_order-requires-clause-order
design_in_order-requires-clause-order c =
    let m = c.args.flat.now in
    let g = graph_of c.args.graph.now in
    let r = c.requires in
    let long : length g ≡ length m.signals = placed_long c.args.graph.now ∙ r.size in
    let is : IsOrder g c.in-Order.signals.items = subst (IsSorted g) c.in-Order.is c.in_ok-signals.ensures.sorted in
    let kept : c.deref-in-Order-4.result.now ≡ unflagged (flags_among (source_names m) m.signals) c.in-Order.signals.items =
    c.deref-in-Order-4.ensures.value ∙ c.in_ok-nets-in-Order.ensures ∙ (λ i. unflagged ((c.deref-in-Order.ensures.value ∙ c.in_ok-sources-in-Order.ensures) i) (c.deref-in-Order-2.ensures.value i)) in
    let P : List ℕ → Type 0 = λ z. IsNetOrder m (DependsOn m) (names_of m.signals z) in
    subst P (sym kept) (net_order m r.can g long r.vertices r.depends c.in-Order.signals.items is)

pub looped-requires : goal.looped-requires
looped-requires c =
    let m = c.args.flat.now in
    let g = graph_of c.args.graph.now in
    let r = c.requires in
    let long : length g ≡ length m.signals = placed_long c.args.graph.now ∙ r.size in
    let is : IsCycle g c.in-Cycle.cycle.items = subst (IsSorted g) c.in-Cycle.is c.in_ok-signals.ensures.sorted in
    let at = (loop_at m r.can g long r.vertices r.depends c.in-Cycle.cycle.items c.index.result.now _ is c.index.ensures).0 in
    subst (λ (gs : List Signal). c.index.result.now < length gs) (sym c.as_slice.ensures) at

pub returns-clause-fault : goal.returns-clause-fault
returns-clause-fault c =
    let m = c.args.flat.now in
    let g = graph_of c.args.graph.now in
    let r = c.requires in
    let long : length g ≡ length m.signals = placed_long c.args.graph.now ∙ r.size in
    let is : IsCycle g c.in-Cycle.cycle.items = subst (IsSorted g) c.in-Cycle.is c.in_ok-signals.ensures.sorted in
    let stands = (loop_at m r.can g long r.vertices r.depends c.in-Cycle.cycle.items c.index.result.now _ is c.index.ensures).1 in
    let e : c.in_ok-looped-in-Cycle.field-0 ≡ f.Loop (name_of m.signals c.index.result.now) = c.in_ok-looped-in-Cycle.ensures ∙ ap (λ gs. f.Loop (name_of gs c.index.result.now)) c.as_slice.ensures in
    inr (subst (Stands m) (sym e) stands)

pub returns-in-Order-clause-acyclic : goal.returns-in-Order-clause-acyclic
returns-in-Order-clause-acyclic c x h =
    let m = c.args.flat.now in
    let g = graph_of c.args.graph.now in
    let r = c.requires in
    let long : length g ≡ length m.signals = placed_long c.args.graph.now ∙ r.size in
    let is : IsOrder g c.in-Order.signals.items = subst (IsSorted g) c.in-Order.is c.in_ok-signals.ensures.sorted in
    no_loop m r.can g long r.depends c.in-Order.signals.items is x h.0 h.1
