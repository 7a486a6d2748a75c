use Rattle.std.proofs.Common.{drop}
use Rattle.std.specs.List.{flat_map}
use Rattle.vlog_tree_runs.specs.Places.{Name, Among}
use Rattle.elab_flat_faults.specs.Declaring.{words_of}
use Rattle.mem_faults.proofs.twice.word_among.Given as goal

abbrev pub invariant-loop-signal : goal.invariant-loop-signal
invariant-loop-signal l = (x : Name) → Among (flat_map words_of l.signals) x → Among l.names x → Among (flat_map words_of (drop l.signal-index l.signals)) x
