use Rattle.std.proofs.Common.{◌∷◌, take}
use Rattle.std.specs.Fmt.{decimal}
use Rattle.std.specs.List.{flat_map}
use Rattle.replay.specs.Puts.{Put}
use Rattle.replay.proofs.printing.put_values.Given as goal

-- what was put so far
abbrev pub invariant-loop-value : goal.invariant-loop-value
invariant-loop-value g l = Put g.S.Sink.written g.S.Sink.faults l.fn.sink l.sink (flat_map (λ n. 32 ∷ decimal n) (take l.value-index l.values))
