use Rattle.std.proofs.Common.{◌≡◌, ◌<◌, ℕ, length, get_or}
use Rattle.elab_flat_graphs.specs.Walks.{targets_of}
use Rattle.elab_flat_graphs.specs.Search.{turns_of}
use Rattle.elab_flat_graphs.proofs.cycles.all_turns.Given as goal

abbrev pub invariant-loop-node : goal.invariant-loop-node
invariant-loop-node l = record {
  count : length l.left.items ≡ l.node;
  all : (x : ℕ) → x < l.node → get_or l.left.items x 0 ≡ turns_of (targets_of l.graph x);
}
