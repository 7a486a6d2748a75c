use Rattle.least_trace.specs.Walks.{IsWalk}
use Rattle.least_trace.proofs.finding.least.Given as goal

-- the bits so far are decided
abbrev pub invariant-loop-number : goal.invariant-loop-number
invariant-loop-number l = IsWalk l.ob l.bits.items l.number l.walk
