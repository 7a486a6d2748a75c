use Rattle.std.proofs.Common.{map, drop, ◌⊎◌}
use Rattle.vlog_tree.specs.declared.stmt.Lval.{Lval}
use Rattle.vlog_tree_runs.specs.Places.{Among}
use Rattle.elab_flat_params.specs.Constants.{is_known}
use Rattle.elab_flat_drivers.specs.Parts.{part_meant}
use Rattle.elab_flat_widths.specs.Lefts.{PartHasLegalNumbers}
use Rattle.elab_flat_widths.proofs.left.check_numbers.Given as goal

abbrev pub invariant-loop-part : goal.invariant-loop-part
invariant-loop-part l =
    (q : Lval) → Among (map part_meant l.parts) q → (PartHasLegalNumbers l.side (is_known l.params) l.rest q) ⊎ Among (map part_meant (drop l.part-index l.parts)) q
