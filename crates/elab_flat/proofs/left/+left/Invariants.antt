use Rattle.std.proofs.Common.{◌≡◌, ◌++◌, drop, map}
use Rattle.vlog_tree_runs.specs.Scopes.{left_of}
use Rattle.elab_flat_laws.specs.Moved.{moved_left}
use Rattle.elab_flat.proofs.left.+left.Given as goal

abbrev pub invariant-lefts_of-loop-expr : goal.invariant-lefts_of-loop-expr
invariant-lefts_of-loop-expr l =
    l.all ++ map (λ a. moved_left l.mover.prefix.now l.mover.params.now (left_of a)) (drop l.expr-index l.exprs) ≡ map (λ a. moved_left l.mover.prefix.now l.mover.params.now (left_of a)) l.exprs
