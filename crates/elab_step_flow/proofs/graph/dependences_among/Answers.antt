use Rattle.std.proofs.Common.{◌<◌, List, length, sym, ap, ◌∙◌, subst}
use Rattle.vlog_tree_runs.specs.declared.flat.Signal.{Signal}
use Rattle.vlog_tree_runs.specs.Cycles.{IsRegister}
use Rattle.elab_step_flow.specs.Shows.{Marks}
use Rattle.elab_step_flow.proofs.Depending.{edge_within, edges_all, graph_depends, graph_within}
use Rattle.elab_step_flow.proofs.graph.dependences_among.Goals as goal

pub graph_from-requires : goal.graph_from-requires
graph_from-requires c = λ e h.
    let m = c.args.flat.now in
    let same = c.requires.scope in
    let all = edges_all m _ _ _ _ c.deref-2.result.now c.in_ok-edges.edges.items c.add_blocks_edges.new.all.items same c.names.ensures c.as_slice.ensures c.as_slice-2.ensures c.deref-2.ensures.value c.in_ok-edges.ensures c.in_ok-add_blocks_edges.ensures in
    subst (λ n. e.from < n) (sym (ap length c.deref.ensures.value ∙ (c.in_ok-registers.ensures.size ∙ ap (λ (gs : List Signal). length gs) same))) (edge_within m c.requires.can e ((all e).0 h)).0

pub returns-clause-vertices : goal.returns-clause-vertices
returns-clause-vertices c =
    let m = c.args.flat.now in
    let same = c.requires.scope in
    let all = edges_all m _ _ _ _ c.deref-2.result.now c.in_ok-edges.edges.items c.add_blocks_edges.new.all.items same c.names.ensures c.as_slice.ensures c.as_slice-2.ensures c.deref-2.ensures.value c.in_ok-edges.ensures c.in_ok-add_blocks_edges.ensures in
    let marks = subst (λ z. Marks m.signals z (λ x. IsRegister m x)) (sym c.deref.ensures.value) (subst (λ (gs : List Signal). Marks gs c.in_ok-registers.registers.items (λ x. IsRegister m x)) same c.in_ok-registers.ensures.marks) in
    graph_within m c.requires.can c.deref.result.now c.deref-2.result.now c.in_ok-graph.graph.items marks all c.in_ok-graph.ensures.edges
    (c.in_ok-graph.ensures.size ∙ (ap length c.deref.ensures.value ∙ (c.in_ok-registers.ensures.size ∙ ap (λ (gs : List Signal). length gs) same)))

pub returns-clause-depends : goal.returns-clause-depends
returns-clause-depends c =
    let m = c.args.flat.now in
    let same = c.requires.scope in
    let all = edges_all m _ _ _ _ c.deref-2.result.now c.in_ok-edges.edges.items c.add_blocks_edges.new.all.items same c.names.ensures c.as_slice.ensures c.as_slice-2.ensures c.deref-2.ensures.value c.in_ok-edges.ensures c.in_ok-add_blocks_edges.ensures in
    let marks = subst (λ z. Marks m.signals z (λ x. IsRegister m x)) (sym c.deref.ensures.value) (subst (λ (gs : List Signal). Marks gs c.in_ok-registers.registers.items (λ x. IsRegister m x)) same c.in_ok-registers.ensures.marks) in
    graph_depends m c.requires.can c.deref.result.now c.deref-2.result.now c.in_ok-graph.graph.items marks all c.in_ok-graph.ensures.edges
