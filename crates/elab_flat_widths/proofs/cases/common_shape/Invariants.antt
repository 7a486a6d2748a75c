use Rattle.std.proofs.Common.{◌≡◌, ◌≤◌, ◌⊎◌, ◌&&◌, max, drop, map}
use Rattle.vlog_tree.specs.declared.expr.Expr.{Expr}
use Rattle.vlog_tree.specs.Value.{IsFormed, HasConstantParts}
use Rattle.vlog_tree_runs.specs.Places.{Among}
use Rattle.vlog_tree_runs.specs.Blocks.{widest, all_signed}
use Rattle.elab_flat_params.specs.Constants.{is_known}
use Rattle.elab_flat_widths.specs.Cases.{expr_meant}
use Rattle.elab_flat_widths.proofs.cases.common_shape.Given as goal

abbrev pub invariant-loop-expr : goal.invariant-loop-expr
invariant-loop-expr l = record {
  most : l.longest ≤ 64;
  width : max l.longest (widest l.rest (map expr_meant (drop l.expr-index l.exprs))) ≡ widest l.rest (map expr_meant l.exprs);
  sign : (l.all_signed && all_signed l.rest (map expr_meant (drop l.expr-index l.exprs))) ≡ all_signed l.rest (map expr_meant l.exprs);
  ready : (a : Expr) → Among (map expr_meant l.exprs) a → (HasConstantParts (is_known l.params) a × IsFormed l.rest a) ⊎ Among (map expr_meant (drop l.expr-index l.exprs)) a;
}
