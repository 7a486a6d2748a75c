use Rattle.std.proofs.Common.{arith}
use Rattle.elab_step_nets.proofs.Boards.{wide_at}
use Rattle.elab_step_nets.proofs.edge.copy_of.Goals as goal

pub push-requires : goal.push-requires
push-requires c = wide_at c.args.leaves.now c.loop-i.i c.leaf.result.now c.in_ok-next.next c.declared-wide.ensures.wide (omega arith) c.leaf.ensures c.in_ok-next.ensures
