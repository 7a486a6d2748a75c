use Rattle.std.proofs.Common.{take}
use Rattle.std.specs.List.{AllZip}
use Rattle.proof_store.specs.Lookups.{IsObOf}
use Rattle.proof_store.proofs.looking.obs_of.Given as goal

-- the goals so far
abbrev pub invariant-loop-goal : goal.invariant-loop-goal
invariant-loop-goal g l = AllZip IsObOf (take l.goal-index l.goals) l.obs.items
