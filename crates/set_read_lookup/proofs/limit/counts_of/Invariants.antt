use Rattle.std.proofs.Common.{◌≡◌, ◌+◌, drop, length}
use Rattle.set_read_lookup.specs.Meaning.{constraints_of, invariants_of}
use Rattle.set_read_lookup.proofs.limit.counts_of.Given as goal

abbrev pub invariant-loop-rule : goal.invariant-loop-rule
invariant-loop-rule l =
    (l.constraints + length (constraints_of (drop l.rule-index l.rules)) ≡ length (constraints_of l.rules))
    × (l.invariants + length (invariants_of (drop l.rule-index l.rules)) ≡ length (invariants_of l.rules))
    × (l.constraints + l.invariants ≡ l.rule-index)
