use Rattle.std.proofs.Common.{◌≡◌, take}
use Rattle.least_trace.specs.Bits.{words_from}
use Rattle.least_trace.proofs.words.free_words.Given as goal

-- the words so far
abbrev pub invariant-loop-node : goal.invariant-loop-node
invariant-loop-node l = l.words.items ≡ words_from 0 (take l.node-index l.nodes)
