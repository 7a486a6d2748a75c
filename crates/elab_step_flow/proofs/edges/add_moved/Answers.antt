use Rattle.elab_flat_drivers.proofs.Marking.{among_at}
use Rattle.elab_step_flow.proofs.edges.add_moved.Goals as goal

pub whole_place-requires : goal.whole_place-requires
whole_place-requires c = (c.requires _ (among_at c.args.edges.now c.loop-edge.edge-index (record { from = 0; to = 0 }) c.loop-edge-test.true)).0

pub whole_place-requires-in-loop-edge : goal.whole_place-requires-in-loop-edge
whole_place-requires-in-loop-edge c = (c.requires _ (among_at c.args.edges.now c.loop-edge.edge-index (record { from = 0; to = 0 }) c.loop-edge-test.true)).1
