use Rattle.std.proofs.Common.{◌≡◌, drop}
use Rattle.std.specs.List.{list_all}
use Rattle.elab_flat_names.specs.Assignable.{is_assignable}
use Rattle.elab_flat_names.proofs.assignable.+assignable.Given as goal

abbrev pub invariant-are_assignable-loop-expr : goal.invariant-are_assignable-loop-expr
invariant-are_assignable-loop-expr l = list_all (is_assignable l.signals) (drop l.expr-index l.exprs) ≡ list_all (is_assignable l.signals) l.exprs
