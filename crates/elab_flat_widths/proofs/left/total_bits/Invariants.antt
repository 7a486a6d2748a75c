use Rattle.std.proofs.Common.{◌≡◌, ◌+◌, ◌≤◌, map, drop, ◌⊎◌}
use Rattle.vlog_tree.specs.declared.stmt.Lval.{Lval}
use Rattle.vlog_tree_runs.specs.Places.{Among}
use Rattle.elab_flat_faults.specs.Constants.{IsLeftFormed}
use Rattle.elab_flat_drivers.specs.Parts.{part_meant}
use Rattle.elab_flat_widths.specs.Lefts.{bits_in}
use Rattle.elab_flat_widths.proofs.left.total_bits.Given as goal

abbrev pub invariant-loop-part : goal.invariant-loop-part
invariant-loop-part l = record {
  few : l.total ≤ 64;
  size : l.total + bits_in l.rest (map part_meant (drop l.part-index l.parts)) ≡ bits_in l.rest (map part_meant l.parts);
  formed : (q : Lval) → Among (map part_meant l.parts) q → (IsLeftFormed l.rest q) ⊎ Among (map part_meant (drop l.part-index l.parts)) q;
}
