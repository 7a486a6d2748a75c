use Rattle.std.proofs.Common.{List, ◌++◌, drop}
use Rattle.vlog_tree.specs.declared.expr.Expr.{Expr}
use Rattle.vlog_tree_values.specs.Meanings.{RowSame}
use Rattle.vlog_tree_values.proofs.counts.Folder.+folding.Given as goal

-- whatever folds the rest folds all
abbrev pub invariant-row-loop-expr : goal.invariant-row-loop-expr
invariant-row-loop-expr l =
    (ys : List Expr) → RowSame l.self.valuation.now (drop l.expr-index l.exprs) ys → RowSame l.self.valuation.now l.exprs (l.all ++ ys)
