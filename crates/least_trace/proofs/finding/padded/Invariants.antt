use Rattle.std.proofs.Common.{◌≡◌, ◌++◌, ◌-◌, drop}
use Rattle.least_trace.specs.Walks.{padded}
use Rattle.least_trace.proofs.finding.padded.Given as goal

-- the values so far, and those to come
abbrev pub invariant-loop-place : goal.invariant-loop-place
invariant-loop-place l = l.all.items ++ padded (l.count - l.place) (drop l.place l.values) ≡ padded l.count l.values
