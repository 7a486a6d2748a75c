use Rattle.std.proofs.Common.{◌≡◌, ◌++◌, ◌-◌}
use Rattle.vlog_tree_runs.specs.Places.{words_from}
use Rattle.mem_faults.proofs.signals.words.Given as goal

abbrev pub invariant-loop-word : goal.invariant-loop-word
invariant-loop-word l = l.all ++ words_from l.memory l.word (l.memory.depth - l.word) ≡ words_from l.memory 0 l.memory.depth
