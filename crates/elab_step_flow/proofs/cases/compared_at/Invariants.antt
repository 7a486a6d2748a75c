use Rattle.std.proofs.Common.{max, map, drop, ◌&&◌}
use Rattle.vlog_tree.specs.Valuation.{IsLength}
use Rattle.vlog_tree_runs.specs.Blocks.{widest, all_signed}
use Rattle.elab_step_flow.specs.Cases.{expr_meant}
use Rattle.elab_step_flow.proofs.Casing.{Longest}
use Rattle.elab_step_flow.proofs.cases.compared_at.Given as goal

abbrev pub invariant-loop-label : goal.invariant-loop-label
invariant-loop-label l = record {
  length : IsLength l.longest.0;
  longest : Longest l.valuation l.longest.0 l.longest.1 (drop l.label-index l.labels) (max l.fn.own.0 (widest l.valuation (map expr_meant l.labels))) (l.fn.own.1 && all_signed l.valuation (map expr_meant l.labels));
}
