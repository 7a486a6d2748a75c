use Rattle.std.proofs.Common.{◌∷◌, take}
use Rattle.std.specs.List.{flat_map}
use Rattle.replay.specs.Puts.{Put}
use Rattle.replay.proofs.printing.put_words.Given as goal

-- what was put so far
abbrev pub invariant-loop-word : goal.invariant-loop-word
invariant-loop-word g l = Put g.S.Sink.written g.S.Sink.faults l.fn.sink l.sink (flat_map (λ w. 32 ∷ w) (take l.word-index l.words))
