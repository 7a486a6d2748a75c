use Rattle.std.proofs.Common.{◌≡◌, drop}
use Rattle.set_read_lookup.specs.Meaning.{output_from}
use Rattle.set_read_lookup.proofs.looked.output_of.Given as goal

abbrev pub invariant-loop-at : goal.invariant-loop-at
invariant-loop-at l = output_from (drop l.at l.declarations) l.name l.at ≡ output_from l.declarations l.name 0
