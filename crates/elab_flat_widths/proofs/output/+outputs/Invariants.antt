use Rattle.std.proofs.Common.{◌≡◌, ◌++◌, drop, map}
use Rattle.std.specs.List.{flat_map}
use Rattle.elab_flat_drivers.specs.Parts.{part_meant}
use Rattle.elab_flat_widths.specs.Outputs.{expr_parts}
use Rattle.elab_flat_widths.proofs.output.+outputs.Given as goal

abbrev pub invariant-add_row-loop-expr : goal.invariant-add_row-loop-expr
invariant-add_row-loop-expr l = map part_meant l.all.items ++ flat_map expr_parts (drop l.expr-index l.exprs) ≡ map part_meant l.initial.all.items ++ flat_map expr_parts l.exprs
