use Rattle.std.proofs.Common.{◌≡◌, take}
use Rattle.cnf_build.specs.Meaning.{read_words}
use Rattle.cnf_build.specs.Built.{at}
use Rattle.cnf_build.proofs.building.Built.values.Given as goal

abbrev pub invariant-loop-vars : goal.invariant-loop-vars
invariant-loop-vars l = l.values.items ≡ read_words (at l.assignment) (take l.vars-index l.self.bits.items)
