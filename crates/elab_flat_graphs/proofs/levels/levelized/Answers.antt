use Rattle.std.proofs.Common.{ℕ, List, slice_index, subst}
use Rattle.std.specs.List.Sorted.{IsNonDecreasingBy}
use Rattle.elab_flat_graphs.specs.Graphs.{graph_of}
use Rattle.elab_flat_graphs.proofs.Levelling.{moved_order}
use Rattle.elab_flat_graphs.proofs.levels.levelized.Goals as goal

pub returns-clause-sorted : goal.returns-clause-sorted
returns-clause-sorted c =
    let levels = c.in_ok-levels.levels.items in
    let rises = subst (λ (ls : List ℕ). IsNonDecreasingBy (λ v. slice_index ls v) c.sort.new.vertices.items) c.deref-2.ensures.value c.in_ok-sort.ensures.rises in
    moved_order (graph_of c.args.graph.now) c.args.order.items c.sort.new.vertices.items levels c.requires c.in_ok-levels.ensures c.in_ok-sort.ensures.same rises
