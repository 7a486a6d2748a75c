use Rattle.std.proofs.Common.{map, take}
use Rattle.elab_step_design.specs.Designs.{source}
use Rattle.unroll.proofs.Leaving.{LeafLoop}
use Rattle.unroll.proofs.leaves.put_registers.Given as goal

-- the registers so far
abbrev pub invariant-loop-register : goal.invariant-loop-register
invariant-loop-register l = LeafLoop l.bound.design l.bound.set l.moment.resets l.moment.position l.fn.dag l.dag l.leaves (map source (take l.register-index l.bound.design.registers))
