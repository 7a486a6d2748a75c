use Rattle.std.proofs.Common.{arith}
use Rattle.elab_flat_graphs.proofs.Searching.{item_among}
use Rattle.elab_flat_graphs.proofs.search.passed.Goals as goal

pub is_done-requires : goal.is_done-requires
is_done-requires c = c.requires.vertices _ (item_among c.args.successors.now c.loop-count.count 0 (omega arith))
