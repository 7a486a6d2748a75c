-- The bounds of expressions in a list.
use Rattle.std.specs.Prelude.{List, [], ◌∷◌}
use Rattle.vlog_tree.specs.declared.expr.Expr.{Expr}
use Rattle.vlog_tree.specs.declared.valuation.Entry.{Entry}
use Rattle.elab_flat_faults.specs.Constants.{BoundsDefined}

abbrev pub EachBoundsDefined : List Entry → List Expr → Type 0
EachBoundsDefined v [] = Unit {0}
EachBoundsDefined v (a ∷ as') = BoundsDefined v a × EachBoundsDefined v as'
