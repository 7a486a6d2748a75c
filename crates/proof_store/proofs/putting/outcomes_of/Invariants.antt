use Rattle.std.proofs.Common.{take}
use Rattle.std.specs.List.{AllZip}
use Rattle.proof_store.specs.Outcomes.{IsOutcome}
use Rattle.proof_store.proofs.putting.outcomes_of.Given as goal

-- the goals so far
abbrev pub invariant-loop-one : goal.invariant-loop-one
invariant-loop-one g l = AllZip IsOutcome (take l.one-index l.decided) l.all.items
