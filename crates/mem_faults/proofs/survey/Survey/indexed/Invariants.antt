use Rattle.std.proofs.Common.{◌≡◌, ◌+◌, ◌≤◌, map, drop, filter, length}
use Rattle.elab_flat_drivers.specs.Parts.{part_meant}
use Rattle.mem_faults.specs.Used.{is_indexed}
use Rattle.mem_faults.proofs.survey.Survey.indexed.Given as goal

abbrev pub invariant-loop-part : goal.invariant-loop-part
invariant-loop-part l =
    (l.count + length (filter (is_indexed l.self.memories) (map part_meant (drop l.part-index l.part-items))) ≡ length (filter (is_indexed l.self.memories) (map part_meant l.part-items)))
    × (l.count ≤ l.part-index)
