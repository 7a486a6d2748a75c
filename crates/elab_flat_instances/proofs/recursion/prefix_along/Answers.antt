use Rattle.std.proofs.Common.{◌≡◌, ◌<◌, ℕ, List, Some, length, get_or, refl, sym, ap, subst, ◌∙◌, arith}
use Rattle.std.specs.List.{slice_get}
use Rattle.std.proofs.lemmas.List.{get_or_default}
use Rattle.std.proofs.lemmas.Option.{slice_get_read, slice_get-get_or}
use Rattle.vlog_tree_runs.specs.Places.{Name}
use Rattle.vlog_tree_runs.specs.Scopes.{inner_prefix}
use Rattle.elab_flat_graphs.specs.Walks.{targets_of, walk_end}
use Rattle.elab_flat_instances.specs.Graph.{graph_of}
use Rattle.elab_flat_instances.proofs.Cycles.{node_within, node_in_graph, edge_within, inner_within, next_at, next_rest}
use Rattle.elab_flat_instances.proofs.recursion.prefix_along.Goals as goal

pub prefix_at-requires : goal.prefix_at-requires
prefix_at-requires c =
    let ms = c.args.modules.now in
    let top = c.args.top.now in
    let n = c.loop-edge.node in
    let walk = c.args.walk.now in
    let i = c.loop-edge.edge-index in
    let lt : i < length walk = c.loop-edge-test.true in
    let e : ℕ = get_or walk i 0 in
    let is : e ≡ get_or walk i e = get_or_default walk i 0 e lt in
    let at = c.loop-edge.invariant.at in
    let rest = c.loop-edge.invariant.rest in
    let whole = walk_end (graph_of ms) (Some c.args.start) walk in
    let way = c.requires.walk in
    let m = c.index-modules-node.result in
    let there : n < length ms = node_within ms top c.loop-edge.prefix n at walk i e lt is whole rest way.last way.ends way.there in
    let f : slice_get ms n ≡ Some m = slice_get_read ms (length ms) n m refl there c.index-modules-node.is in
    inner_within ms top c.loop-edge.prefix n at walk i e lt is whole rest way.last way.ends way.there m f

pub targets-requires : goal.targets-requires
targets-requires c =
    let ms = c.args.modules.now in
    let top = c.args.top.now in
    let n = c.loop-edge.node in
    let walk = c.args.walk.now in
    let i = c.loop-edge.edge-index in
    let lt : i < length walk = c.loop-edge-test.true in
    let e : ℕ = get_or walk i 0 in
    let is : e ≡ get_or walk i e = get_or_default walk i 0 e lt in
    let at = c.loop-edge.invariant.at in
    let rest = c.loop-edge.invariant.rest in
    let whole = walk_end (graph_of ms) (Some c.args.start) walk in
    let way = c.requires.walk in
    subst (λ (g : List (List ℕ)). n < length g) (sym c.requires.graph) (node_in_graph ms top c.loop-edge.prefix n at walk i e lt is whole rest way.last way.ends way.there)

pub offset_bounds-targets-edge : goal.offset_bounds-targets-edge
offset_bounds-targets-edge c =
    let ms = c.args.modules.now in
    let top = c.args.top.now in
    let n = c.loop-edge.node in
    let walk = c.args.walk.now in
    let i = c.loop-edge.edge-index in
    let lt : i < length walk = c.loop-edge-test.true in
    let e : ℕ = get_or walk i 0 in
    let is : e ≡ get_or walk i e = get_or_default walk i 0 e lt in
    let at = c.loop-edge.invariant.at in
    let rest = c.loop-edge.invariant.rest in
    let whole = walk_end (graph_of ms) (Some c.args.start) walk in
    let way = c.requires.walk in
    let inside : e < length c.targets.result.now = subst (λ (ts : List ℕ). e < length ts) (sym (c.targets.ensures ∙ ap (λ (g : List (List ℕ)). targets_of g n) c.requires.graph)) (edge_within ms top c.loop-edge.prefix n at walk i e lt is whole rest way.last way.ends way.there) in
    let most = c.targets.type_inv.1 in
    omega arith

pub bounds-targets-edge : goal.bounds-targets-edge
bounds-targets-edge c =
    let ms = c.args.modules.now in
    let top = c.args.top.now in
    let n = c.loop-edge.node in
    let walk = c.args.walk.now in
    let i = c.loop-edge.edge-index in
    let lt : i < length walk = c.loop-edge-test.true in
    let e : ℕ = get_or walk i 0 in
    let is : e ≡ get_or walk i e = get_or_default walk i 0 e lt in
    let at = c.loop-edge.invariant.at in
    let rest = c.loop-edge.invariant.rest in
    let whole = walk_end (graph_of ms) (Some c.args.start) walk in
    let way = c.requires.walk in
    let inside : e < length c.targets.result.now = subst (λ (ts : List ℕ). e < length ts) (sym (c.targets.ensures ∙ ap (λ (g : List (List ℕ)). targets_of g n) c.requires.graph)) (edge_within ms top c.loop-edge.prefix n at walk i e lt is whole rest way.last way.ends way.there) in
    inside

pub loop-edge-preserved : goal.loop-edge-preserved
loop-edge-preserved c =
    let ms = c.args.modules.now in
    let top = c.args.top.now in
    let n = c.loop-edge.node in
    let walk = c.args.walk.now in
    let i = c.loop-edge.edge-index in
    let lt : i < length walk = c.loop-edge-test.true in
    let e : ℕ = get_or walk i 0 in
    let is : e ≡ get_or walk i e = get_or_default walk i 0 e lt in
    let at = c.loop-edge.invariant.at in
    let rest = c.loop-edge.invariant.rest in
    let whole = walk_end (graph_of ms) (Some c.args.start) walk in
    let way = c.requires.walk in
    let m = c.index-modules-node.result in
    let there : n < length ms = node_within ms top c.loop-edge.prefix n at walk i e lt is whole rest way.last way.ends way.there in
    let f : slice_get ms n ≡ Some m = slice_get_read ms (length ms) n m refl there c.index-modules-node.is in
    let inside : e < length c.targets.result.now = subst (λ (ts : List ℕ). e < length ts) (sym (c.targets.ensures ∙ ap (λ (g : List (List ℕ)). targets_of g n) c.requires.graph)) (edge_within ms top c.loop-edge.prefix n at walk i e lt is whole rest way.last way.ends way.there) in
    let targets : c.targets.result.now ≡ targets_of (graph_of ms) n = c.targets.ensures ∙ ap (λ (g : List (List ℕ)). targets_of g n) c.requires.graph in
    let t : ℕ = get_or c.targets.result.now e 0 in
    let to : slice_get (targets_of (graph_of ms) n) e ≡ Some t = ap (λ (ts : List ℕ). slice_get ts e) (sym targets) ∙ slice_get-get_or c.targets.result.now e 0 inside in
    let named = c.in_ok-prefix-2.ensures in
    let prefix : c.in_ok-prefix-2.prefix ≡ inner_prefix c.loop-edge.prefix named.0 = named.2 ∙ ap (λ (p : Name). inner_prefix p named.0) c.bytes.ensures in
    record {
      at = next_at ms top c.loop-edge.prefix n at walk i e lt is whole rest way.last way.ends way.there m named.0 c.in_ok-prefix-2.prefix t f named.1 prefix to;
      rest = next_rest ms top c.loop-edge.prefix n at walk i e lt is whole rest way.last way.ends way.there t to;
    }
