use Rattle.std.proofs.Common.{◌+◌, ◌/◌, ◌%◌, ◌^◌}
use Rattle.std.specs.Prelude.{count_ones}
use Rattle.word_dag.specs.Adding.{Keeps}
use Rattle.elab_step_expr.specs.Nodes.{Makes, number_at}
use Rattle.elab_step_expr.proofs.reductions.parity.Given as goal

-- the parity of the bits below the one with the number i: that of all and of those from it upwards
abbrev pub invariant-loop-i : goal.invariant-loop-i
invariant-loop-i l = record {
  keeps : Keeps l.fn.dag l.dag;
  odd : Makes l.dag l.odd 1 (λ e. (count_ones (number_at e l.fn.dag l.a.node) + count_ones (number_at e l.fn.dag l.a.node / 2 ^ l.i)) % 2);
}
