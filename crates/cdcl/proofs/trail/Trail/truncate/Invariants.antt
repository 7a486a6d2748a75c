use Rattle.std.proofs.Common.{◌≡◌, ◌≤◌, length, take}
use Rattle.cdcl.proofs.trail.Trail.truncate.Given as goal

abbrev pub invariant-loop-self : goal.invariant-loop-self
invariant-loop-self l = record {
  rest : l.self.entries ≡ take (length l.self.entries) l.initial.self.entries;
  vars : l.self.vars ≡ l.initial.self.vars;
  long : l.len ≤ length l.self.entries;
}

abbrev pub decreases-loop-self : goal.decreases-loop-self
decreases-loop-self l = length l.self.entries
