use Rattle.std.proofs.Common.{◌≡◌, ℕ, length, get_or, false}
use Rattle.elab_flat_graphs.proofs.cycles.no_marks.Given as goal

abbrev pub invariant-loop-node : goal.invariant-loop-node
invariant-loop-node l = record {
  count : length l.marks.items ≡ l._node;
  clear : (k : ℕ) → get_or l.marks.items k false ≡ false;
}
