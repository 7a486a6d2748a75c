use Rattle.std.proofs.Common.{◌+◌, ◌-◌, length}
use Rattle.std.specs.Prelude.{nat_eq, if◌then◌else◌}
use Rattle.set_tree.specs.Formulas.{meaning_of}
use Rattle.path_machine.proofs.Walking.{WalkLoop}
use Rattle.path_machine.proofs.path.path_of.Given as goal

-- the properties so far, and the next one
abbrev pub invariant-loop-steps : goal.invariant-loop-steps
invariant-loop-steps l = WalkLoop (meaning_of l.sound) l.sound l.rows l.at.property l.at.start l.steps

-- the rows that are left, reset being followed by an operation
abbrev pub decreases-loop-steps : goal.decreases-loop-steps
decreases-loop-steps l = length l.rows - l.at.start + (if nat_eq l.at.property 0 then 1 else 0)
