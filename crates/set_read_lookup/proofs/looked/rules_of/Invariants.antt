use Rattle.std.proofs.Common.{◌≡◌, ◌++◌}
use Rattle.set_read_lookup.specs.Meaning.{constraints_of, invariants_of}
use Rattle.set_read_lookup.proofs.looked.rules_of.Given as goal

abbrev pub invariant-loop-text : goal.invariant-loop-text
invariant-loop-text l = (l.constraints.items ++ constraints_of l.text-iterator.rest.items ≡ constraints_of l.fn.rules.items)
    × (l.invariants.items ++ invariants_of l.text-iterator.rest.items ≡ invariants_of l.fn.rules.items)
