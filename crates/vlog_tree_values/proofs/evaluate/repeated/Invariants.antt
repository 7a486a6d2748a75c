use Rattle.std.proofs.Common.{◌≡◌, ◌*◌}
use Rattle.vlog_tree_values.specs.Shapes.{copy_number}
use Rattle.vlog_tree_values.proofs.evaluate.repeated.Given as goal

abbrev pub invariant-loop-copy : goal.invariant-loop-copy
invariant-loop-copy l = record {
  width : l.all.width ≡ l.copy * l.word.width;
  value : l.all.value ≡ copy_number l.copy l.word.width l.word.value;
}
