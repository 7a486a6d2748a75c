use Rattle.std.proofs.Common.{◌≡◌, ◌++◌, drop, map}
use Rattle.std.specs.List.{flat_map}
use Rattle.elab_flat_drivers.specs.Parts.{part_meant, reads_of}
use Rattle.elab_step_flow.specs.Cases.{expr_meant}
use Rattle.elab_step_flow.proofs.places.add_all_reads.Given as goal

abbrev pub invariant-loop-expr : goal.invariant-loop-expr
invariant-loop-expr l = map part_meant l.all.items ++ flat_map reads_of (map expr_meant (drop l.expr-index l.exprs)) ≡ map part_meant l.initial.all.items ++ flat_map reads_of (map expr_meant l.exprs)
