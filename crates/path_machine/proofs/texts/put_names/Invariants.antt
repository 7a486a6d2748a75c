use Rattle.std.proofs.Common.{◌∷◌, take}
use Rattle.std.specs.List.{flat_map}
use Rattle.replay.specs.Puts.{Put}
use Rattle.twin_tests_laws.specs.Names.{property_name}
use Rattle.path_machine.proofs.texts.put_names.Given as goal

-- what was put so far
abbrev pub invariant-loop-at : goal.invariant-loop-at
invariant-loop-at g l = Put g.S.Sink.written g.S.Sink.faults l.fn.sink l.sink (flat_map (λ q. 32 ∷ property_name l.set q) (take l.at-index l.next))
