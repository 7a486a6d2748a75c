use Rattle.std.proofs.Common.{◌⊎◌, drop, map}
use Rattle.vlog_tree.specs.declared.stmt.Lval.{Lval}
use Rattle.vlog_tree_runs.specs.Places.{Among}
use Rattle.elab_flat_drivers.specs.Parts.{part_meant}
use Rattle.elab_flat_widths.specs.Outputs.{IsOf}
use Rattle.elab_flat_widths.proofs.output.are_of.Given as goal

abbrev pub invariant-loop-part : goal.invariant-loop-part
invariant-loop-part l = (q : Lval) → Among (map part_meant l.parts) q → (IsOf l.names q) ⊎ Among (map part_meant (drop l.part-index l.parts)) q
