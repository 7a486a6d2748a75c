use Rattle.std.proofs.Common.{drop}
use Rattle.std.specs.List.{flat_map}
use Rattle.vlog_tree_runs.specs.Places.{Name, Among}
use Rattle.mem_faults.specs.Used.{memory_names}
use Rattle.mem_faults.proofs.kept.unassigned_in.Given as goal

abbrev pub invariant-loop-signal : goal.invariant-loop-signal
invariant-loop-signal l =
    (x : Name) → Among (flat_map memory_names l.signals) x → (Among l.assigned x → ⊥) → Among (flat_map memory_names (drop l.signal-index l.signals)) x
