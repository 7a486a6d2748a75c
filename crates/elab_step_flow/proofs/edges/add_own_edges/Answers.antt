use Rattle.std.proofs.Common.{◌++◌, List, map, length, ◌<◌, sym, ap, ◌∙◌, subst}
use Rattle.vlog_tree_runs.specs.Places.{Among}
use Rattle.elab_step_flow.specs.declared.edges.Edge.{Edge}
use Rattle.elab_step_flow.specs.Edges.{moved_edge}
use Rattle.elab_step_flow.proofs.Keeping.{own_edges, edge_kept, edges_moved}
use Rattle.elab_step_flow.proofs.edges.add_own_edges.Goals as goal

pub add_moved-requires : goal.add_moved-requires
add_moved-requires c = λ e m.
    let edges = c.add_block_edges.new.all.items in
    subst (λ n. (e.from < n) × (e.to < n)) (sym (ap length c.deref-then-not-block-2.ensures.value))
    (edge_kept c.args.scope.now c.requires.signals c.args.block.now c.in_ok-own.own.places.items c.in_ok-own.own.signals.items c.in_ok-own.ensures edges
    (own_edges c.args.scope.now c.requires.signals c.args.block.now c.in_ok-own.own.places.items c.in_ok-own.own.signals.items c.in_ok-own.ensures c.in_ok-inner.inner c.new-edges.result.items c.add_block_edges.new.all.items (c.in_ok-inner.ensures ∙ c.deref.ensures.value) c.new-edges.ensures.items c.in_ok-add_block_edges.ensures) e
    (subst (λ (z : List Edge). Among z e) c.deref-then-not-block.ensures.value m))

pub returns-in_ok-add_moved : goal.returns-in_ok-add_moved
returns-in_ok-add_moved c =
    let edges = c.add_block_edges.new.all.items in
    edges_moved c.args.scope.now c.requires.signals c.args.block.now c.in_ok-own.own.places.items c.in_ok-own.own.signals.items c.in_ok-own.ensures edges
    (own_edges c.args.scope.now c.requires.signals c.args.block.now c.in_ok-own.own.places.items c.in_ok-own.own.signals.items c.in_ok-own.ensures c.in_ok-inner.inner c.new-edges.result.items c.add_block_edges.new.all.items (c.in_ok-inner.ensures ∙ c.deref.ensures.value) c.new-edges.ensures.items c.in_ok-add_block_edges.ensures) c.args.all.now.items c.add_moved.new.all.items
    (c.in_ok-add_moved.ensures ∙ (λ r. c.args.all.now.items ++ map (moved_edge (c.deref-then-not-block-2.ensures.value r)) (c.deref-then-not-block.ensures.value r)))
