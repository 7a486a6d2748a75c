use Rattle.std.proofs.Common.{map, take}
use Rattle.unroll.specs.Named.{line_of}
use Rattle.unroll.proofs.Obtaining.{ObsLoop}
use Rattle.unroll.proofs.obs.design_obs.Given as goal

-- the obligations so far
abbrev pub invariant-loop-line : goal.invariant-loop-line
invariant-loop-line l = ObsLoop l.bound.design l.bound.set l.dag l.segments (take l.line-index (map line_of l.line-items)) l.obs.items
