use Rattle.std.proofs.Common.{◌++◌, map, take}
use Rattle.elab_step_design.specs.Designs.{source}
use Rattle.unroll.proofs.Leaving.{LeafLoop}
use Rattle.unroll.proofs.leaves.put_inputs.Given as goal

-- the registers, and the inputs so far
abbrev pub invariant-loop-input : goal.invariant-loop-input
invariant-loop-input l = LeafLoop l.bound.design l.bound.set l.moment.resets l.moment.position l.fn.dag l.dag l.leaves (map source l.bound.design.registers ++ take l.input-index l.bound.design.inputs)
