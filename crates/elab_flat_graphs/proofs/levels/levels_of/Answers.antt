use Rattle.std.proofs.Common.{arith, ◌≡◌, ◌<◌, ◌+◌, ◌⊎◌, ℕ, List, length, replicate, slice_index, ap, sym, subst, ◌∙◌, rules}
use Rattle.elab_flat_graphs.specs.Graphs.{Among, graph_of}
use Rattle.elab_flat_graphs.proofs.Searching.{item_among, graph_long}
use Rattle.elab_flat_graphs.proofs.Levelling.{no_levels, next_level, all_levels}
use Rattle.elab_flat_graphs.proofs.levels.levels_of.Goals as goal

pub successors_of-requires : goal.successors_of-requires
successors_of-requires c =
    let l = c.requires.vertices _ (item_among c.args.order.now c.loop-i.i 0 c.loop-i-test.true) in
    let e = graph_long c.args.graph.now in
    omega (arith, l, e)

pub index_mut-requires : goal.index_mut-requires
index_mut-requires c =
    let l = c.requires.vertices _ (item_among c.args.order.now c.loop-i.i 0 c.loop-i-test.true) in
    let e = c.loop-i.invariant.long in
    let n = c.loop-i.levels.ok.0 in
    omega (arith, l, e, n)

pub loop-i-init : goal.loop-i-init
loop-i-init c =
    let e : c.in_ok-levels.levels.items ≡ replicate (length c.args.graph.now) 0 = search rules in
    no_levels (graph_of c.args.graph.now) c.args.order.now c.in_ok-levels.levels.items (e ∙ ap (λ n. replicate n 0) (sym (graph_long c.args.graph.now)))

pub loop-i-preserved : goal.loop-i-preserved
loop-i-preserved c =
    let levels = c.loop-i.levels.items in
    let level = c.level_above.result in
    let vertices = c.successors_of.ensures in
    let Above : List ℕ → List ℕ → Type 0 = λ ls ws. (w : ℕ) → Among ws w → slice_index ls w < level in
    let Is : List ℕ → List ℕ → Type 0 = λ ls ws. (level ≡ 0) ⊎ ((w : ℕ) × Among ws w × (level ≡ slice_index ls w + 1)) in
    next_level (graph_of c.args.graph.now) c.args.order.now levels c.loop-i.i level c.requires c.loop-i.invariant c.loop-i-test.true
    (subst (λ ws. Above levels ws) vertices (subst (λ ls. Above ls c.successors_of.result.now) c.deref.ensures.value c.level_above.ensures.above))
    (subst (λ ws. Is levels ws) vertices (subst (λ ls. Is ls c.successors_of.result.now) c.deref.ensures.value c.level_above.ensures.one))

pub returns : goal.returns
returns c = all_levels (graph_of c.args.graph.now) c.args.order.now c.loop-i.levels.items c.loop-i.i c.requires c.loop-i.invariant (let e = c.loop-i-test.false in omega (arith, e))
