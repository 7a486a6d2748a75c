use Rattle.std.proofs.Common.{◌≡◌, ◌<◌, length, get_or}
use Rattle.elab_step_blocks.specs.Saving.{node_at}
use Rattle.elab_step_blocks.proofs.Saving.{node_get}
use Rattle.elab_step_nets.proofs.Leaving.{nodes_pushed}
use Rattle.elab_step_nets.proofs.outcomes.nodes_at.Goals as goal

pub loop-place-preserved : goal.loop-place-preserved
loop-place-preserved c =
    let ls = c.args.leaves.now in
    let is = c.args.places.now in
    let k = c.loop-place.place-index in
    let lt : k < length is = c.loop-place-test.true in
    let node : c.leaf.result.now.node ≡ node_at ls (get_or is k 0) = node_get ls (get_or is k 0) c.leaf.result.now (c.requires k 0 lt) c.leaf.ensures in
    nodes_pushed ls is c.loop-place.nodes.items c.push.new.self.items k c.leaf.result.now.node lt c.loop-place.invariant node c.in_ok-push.ensures.items
