use Rattle.std.proofs.Common.{◌≡◌, ◌++◌, drop}
use Rattle.std.specs.List.{flat_map}
use Rattle.elab_step.specs.Parts.{zip3, register_of}
use Rattle.elab_step.proofs.parts.registers_of.Given as goal

abbrev pub invariant-loop-i : goal.invariant-loop-i
invariant-loop-i l = l.all.items ++ flat_map register_of (drop l.i (zip3 l.flags l.begun l.next)) ≡ flat_map register_of (zip3 l.flags l.begun l.next)
