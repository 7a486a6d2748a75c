use Rattle.std.proofs.Common.{◌≡◌, map, take}
use Rattle.word_dag.specs.Nodes.{Naming}
use Rattle.replay.specs.Segments.{named_start}
use Rattle.replay.specs.Values.{AreOf}
use Rattle.replay.proofs.segment.starts_of.Given as goal

abbrev pub invariant-loop-register : goal.invariant-loop-register
invariant-loop-register l = (e : Naming) → AreOf e l.values → l.starts ≡ map (named_start e l.resets) (take l.register-index l.registers)
