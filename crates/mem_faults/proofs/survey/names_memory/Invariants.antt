use Rattle.std.proofs.Common.{◌≡◌, drop, map}
use Rattle.std.specs.List.{flat_map, list_any}
use Rattle.vlog_tree_runs.specs.Blocks.{left_names}
use Rattle.vlog_tree_runs.specs.Contents.{is_among}
use Rattle.elab_flat_drivers.specs.Parts.{part_meant}
use Rattle.mem_faults.proofs.survey.names_memory.Given as goal

abbrev pub invariant-loop-part : goal.invariant-loop-part
invariant-loop-part l = list_any (is_among l.memories) (flat_map left_names (map part_meant (drop l.part-index l.part-items))) ≡ list_any (is_among l.memories) (flat_map left_names (map part_meant l.part-items))
