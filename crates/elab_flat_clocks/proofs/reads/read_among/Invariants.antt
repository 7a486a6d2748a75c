use Rattle.std.proofs.Common.{map, drop}
use Rattle.vlog_tree_runs.specs.Places.{Name}
use Rattle.elab_flat_names.specs.Exprs.{expr_meant}
use Rattle.elab_flat_clocks.specs.Clocking.{IsReadAmong}
use Rattle.elab_flat_clocks.proofs.reads.read_among.Given as goal

abbrev pub invariant-loop-expr : goal.invariant-loop-expr
invariant-loop-expr l = (x : Name) → IsReadAmong (map expr_meant l.exprs) l.table l.clock x → IsReadAmong (map expr_meant (drop l.expr-index l.exprs)) l.table l.clock x
