use Rattle.std.proofs.Common.{◌<◌, length, map, refl, sym, subst, arith}
use Rattle.std.specs.Prelude.{slice_index}
use Rattle.word_dag.specs.Adding.{Adds}
use Rattle.word_dag.specs.Nodes.{FitsNode, width_of}
use Rattle.word_dag.specs.Walks.{Each, operands, renumbered}
use Rattle.unroll.proofs.Copying.{copy_fits, copy_step, nodes_at, operands_copied}
use Rattle.unroll.proofs.copies.copy_nodes.Goals as goal

pub copy_node-requires-clause-within : goal.copy_node-requires-clause-within
copy_node-requires-clause-within c =
    let loop = c.loop-j in
    let at = nodes_at c.args.design.now.nodes c.dag.result.now c.nodes-nodes.result.now loop.j c.index-nodes-j.result c.nodes-nodes.ensures.nodes c.dag.ensures.nodes (omega arith) c.index-nodes-j.is in
    subst (λ z. Each (λ a. a < length z) (operands c.index-nodes-j.result)) (sym c.as_slice.ensures.value) (operands_copied c.args.design.now c.dag.ensures.design c.args.dag.now loop.dag c.args.leaves.now loop.copies.items loop.j loop.invariant c.index-nodes-j.result at)

pub copy_node-requires-clause-fits : goal.copy_node-requires-clause-fits
copy_node-requires-clause-fits c =
    let loop = c.loop-j in
    let at = nodes_at c.args.design.now.nodes c.dag.result.now c.nodes-nodes.result.now loop.j c.index-nodes-j.result c.nodes-nodes.ensures.nodes c.dag.ensures.nodes (omega arith) c.index-nodes-j.is in
    subst (λ z. FitsNode (map width_of loop.dag) (renumbered (slice_index z) c.index-nodes-j.result)) (sym c.as_slice.ensures.value) (copy_fits c.args.design.now c.dag.ensures.design c.args.dag.now loop.dag c.args.leaves.now loop.copies.items loop.j loop.invariant c.index-nodes-j.result at)

pub loop-j-preserved : goal.loop-j-preserved
loop-j-preserved c =
    let loop = c.loop-j in
    let n = c.index-nodes-j.result in
    let at = nodes_at c.args.design.now.nodes c.dag.result.now c.nodes-nodes.result.now loop.j n c.nodes-nodes.ensures.nodes c.dag.ensures.nodes (omega arith) c.index-nodes-j.is in
    copy_step c.args.design.now c.dag.ensures.design c.args.dag.now loop.dag c.args.leaves.now loop.copies.items loop.j loop.invariant n c.copy_node.new.dag c.push.new.self.items c.in_ok-copy.copy (slice_index c.args.leaves.now loop.j) c.requires at refl c.in_ok-copy.ensures.keeps c.in_ok-copy.ensures.leaf
    (λ bound. subst (λ z. Adds loop.dag c.copy_node.new.dag (renumbered (slice_index z) n) c.in_ok-copy.copy) c.as_slice.ensures.value (c.in_ok-copy.ensures.inner bound)) c.in_ok-push.ensures.items
