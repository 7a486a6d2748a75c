use Rattle.std.proofs.Common.{◌≡◌, ◌<◌, ℕ, List, Option, Some, None, length, take, sym, ap, subst, ◌∙◌}
use Rattle.elab_flat_graphs.specs.declared.cycles.Cycle.{Cycle}
use Rattle.elab_flat_graphs.specs.Walks.{IsGraph, IsCycle}
use Rattle.elab_flat_graphs.specs.Answer.{IsAnswer}
use Rattle.elab_flat_instances.specs.Graph.{graph_of}
use Rattle.elab_flat_instances.specs.Naming.{LeadsToModule, LeadsHere, prefix_name}
use Rattle.elab_flat_instances.proofs.Places.{is_graph, module_placed}
use Rattle.elab_flat_instances.proofs.Walks.{recursion_cycles}
use Rattle.elab_flat_instances.proofs.Cycles.{start_within, start_at, way_leads, cycle_recursion}
use Rattle.elab_flat_instances.proofs.recursion.recursion_in.Goals as goal

pub cycle_from-requires-clause-node : goal.cycle_from-requires-clause-node
cycle_from-requires-clause-node c =
    subst (λ (g : List (List ℕ)). c.args.start < length g) (sym c.requires.graph) (start_within c.args.modules.now c.args.top.now c.args.start c.requires.start)

pub cycle_from-requires-clause-graph : goal.cycle_from-requires-clause-graph
cycle_from-requires-clause-graph c = subst IsGraph (sym c.requires.graph) (is_graph c.args.modules.now)

pub prefix_along-requires-clause-start : goal.prefix_along-requires-clause-start
prefix_along-requires-clause-start c =
    start_at c.args.modules.now c.args.top.now c.args.start c.requires.start

found : (g : List (List ℕ)) (start : ℕ) (o : Option Cycle) (k : Cycle) → IsAnswer g start o → o ≡ Some k → IsCycle g start k.walk.items k.back
found g start o k is e = subst (IsAnswer g start) e is

pub prefix_along-requires-clause-walk : goal.prefix_along-requires-clause-walk
prefix_along-requires-clause-walk c =
    let cycle = found (graph_of c.args.modules.now) c.args.start c.in_ok-cycle.field-0 c.in-Some.cycle (subst (λ (g : List (List ℕ)). IsAnswer g c.args.start c.in_ok-cycle.field-0) c.requires.graph c.in_ok-cycle.ensures) c.in-Some.is in
    subst (λ (walk : List ℕ). LeadsToModule c.args.modules.now c.args.start (take c.in-Some.cycle.back walk)) (sym c.deref.ensures.value)
    (way_leads c.args.modules.now c.args.top.now c.args.start c.in-Some.cycle.walk.items c.in-Some.cycle.back cycle)

pub returns-in_ok-prefix_name-in-Some : goal.returns-in_ok-prefix_name-in-Some
returns-in_ok-prefix_name-in-Some c =
    let ms = c.args.modules.now in
    let top = c.args.top.now in
    let k = c.in-Some.cycle in
    let cycle = found (graph_of ms) c.args.start c.in_ok-cycle.field-0 k (subst (λ (g : List (List ℕ)). IsAnswer g c.args.start c.in_ok-cycle.field-0) c.requires.graph c.in_ok-cycle.ensures) c.in-Some.is in
    let prefix = c.in_ok-prefix-in-Some.prefix in
    let here : LeadsHere ms top c.args.start (take k.back k.walk.items) prefix =
    subst (λ (walk : List ℕ). LeadsHere ms top c.args.start (take k.back walk) prefix) c.deref.ensures.value c.in_ok-prefix-in-Some.ensures in
    cycle_recursion ms top c.args.start k.walk.items k.back prefix c.in_ok-prefix_name-in-Some.field-0 cycle here
    (c.in_ok-prefix_name-in-Some.ensures ∙ ap (prefix_name top) c.bytes.ensures)

pub returns-in-None : goal.returns-in-None
returns-in-None c path is =
    let ms = c.args.modules.now in
    let top = c.args.top.now in
    let m = module_placed ms top c.args.start c.requires.start in
    let none : IsAnswer (graph_of ms) c.args.start None =
    subst (λ (o : Option Cycle). IsAnswer (graph_of ms) c.args.start o) c.in-None.is (subst (λ (g : List (List ℕ)). IsAnswer g c.args.start c.in_ok-cycle.field-0) c.requires.graph c.in_ok-cycle.ensures) in
    let r = recursion_cycles ms top m.0 c.args.start m.3 c.requires.start path is in
    none r.0 r.1 r.2
