use Rattle.std.proofs.Common.{◌≡◌, ◌++◌, map, drop}
use Rattle.elab_step.specs.Parts.{zip3, net_of}
use Rattle.elab_step.proofs.parts.nets_of.Given as goal

abbrev pub invariant-loop-i : goal.invariant-loop-i
invariant-loop-i l = l.all.items ++ map net_of (drop l.i (zip3 l.flags l.begun l.solved)) ≡ map net_of (zip3 l.flags l.begun l.solved)
