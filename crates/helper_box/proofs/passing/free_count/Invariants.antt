use Rattle.std.proofs.Common.{◌≡◌, ◌+◌, ◌≤◌, drop}
use Rattle.std.specs.Prelude.{count_by}
use Rattle.word_dag.specs.Given.{is_free}
use Rattle.helper_box.proofs.passing.free_count.Given as goal

-- those counted so far, with those that are left, are all
abbrev pub invariant-loop-node : goal.invariant-loop-node
invariant-loop-node l = record {
  counted : l.count + count_by is_free (drop l.node-index l.nodes) ≡ count_by is_free l.nodes;
  few : l.count ≤ l.node-index;
}
