use Rattle.std.proofs.Common.{◌⊎◌, drop, map}
use Rattle.vlog_tree.specs.declared.expr.Expr.{Expr}
use Rattle.vlog_tree_runs.specs.Places.{Among}
use Rattle.elab_flat_params.specs.Constants.{is_known}
use Rattle.elab_flat_widths.specs.Cases.{expr_meant}
use Rattle.elab_flat_widths.specs.Taken.{IsSound, taken_at}
use Rattle.elab_flat_widths.proofs.cases.check_all_at.Given as goal

abbrev pub invariant-loop-expr : goal.invariant-loop-expr
invariant-loop-expr l =
    (a : Expr) → Among (map expr_meant l.exprs) a → (IsSound (is_known l.params) l.rest (taken_at a l.shape.0 l.shape.1)) ⊎ Among (map expr_meant (drop l.expr-index l.exprs)) a
