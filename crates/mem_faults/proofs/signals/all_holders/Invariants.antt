use Rattle.std.proofs.Common.{◌≡◌, ◌++◌, drop}
use Rattle.std.specs.List.{flat_map}
use Rattle.vlog_tree_runs.specs.Places.{holders}
use Rattle.mem_faults.proofs.signals.all_holders.Given as goal

abbrev pub invariant-loop-signal : goal.invariant-loop-signal
invariant-loop-signal l = l.all ++ flat_map holders (drop l.signal-index l.signals) ≡ flat_map holders l.signals
