use Rattle.std.proofs.Common.{take}
use Rattle.replay.specs.Puts.{Put}
use Rattle.path_machine.specs.Texts.{operations_text}
use Rattle.path_machine.proofs.texts.put_operations.Given as goal

-- what was put so far
abbrev pub invariant-loop-operation : goal.invariant-loop-operation
invariant-loop-operation g l = Put g.S.Sink.written g.S.Sink.faults l.fn.sink l.sink (operations_text l.set (take l.operation-index l.operations))
