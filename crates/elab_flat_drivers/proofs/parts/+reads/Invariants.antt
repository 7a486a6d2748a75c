use Rattle.std.proofs.Common.{◌≡◌, ◌++◌, drop, map}
use Rattle.std.specs.List.{flat_map}
use Rattle.elab_flat_drivers.specs.Parts.{part_meant, reads_of}
use Rattle.elab_flat_drivers.proofs.parts.+reads.Given as goal

abbrev pub invariant-add_row_reads-loop-expr : goal.invariant-add_row_reads-loop-expr
invariant-add_row_reads-loop-expr l = map part_meant l.all.items ++ flat_map reads_of (drop l.expr-index l.exprs) ≡ map part_meant l.initial.all.items ++ flat_map reads_of l.exprs
