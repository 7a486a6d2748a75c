use Rattle.std.proofs.Common.{map, take}
use Rattle.twin_tests.specs.Ordering.{line_of}
use Rattle.twin_tests.proofs.Spoken.{ObsLoop}
use Rattle.twin_tests.proofs.obs.twin_obs.Given as goal

-- the obligations so far
abbrev pub invariant-loop-line : goal.invariant-loop-line
invariant-loop-line l = ObsLoop l.fn.sound l.nodes.dag l.nodes.made.items l.twins.frames (take l.line-index (map line_of l.line-items)) l.obs.items
