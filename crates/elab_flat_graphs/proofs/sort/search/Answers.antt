use Rattle.std.proofs.Common.{arith, length, ap, subst}
use Rattle.elab_flat_graphs.specs.Graphs.{IsOrder}
use Rattle.elab_flat_graphs.specs.Searching.{searched}
use Rattle.elab_flat_graphs.proofs.Searching.{none_open, graph_long}
use Rattle.elab_flat_graphs.proofs.sort.search.Goals as goal

pub returns : goal.returns
returns c =
    let i = c.loop-v.invariant in
    let n = graph_long c.args.graph.now in
    subst (λ g. IsOrder g c.loop-v.search.done.items) i.0 (none_open (searched c.loop-v.search) _ _ _ _ i.1 i.2 (λ u l. i.3 u (let e = ap length i.0 in omega (arith, l, n, e))))
