use Rattle.std.proofs.Common.{ap}
use Rattle.std.specs.Prelude.{not}
use Rattle.cnf_build.specs.Circuits.{false_lit}
use Rattle.cnf_build.proofs.Comparisons.{adds_mod, subtracts, borrows}
use Rattle.cnf_build.proofs.circuit_laws.words_compare.Goals as goal

pub returns : goal.returns
returns c = λ s n xs ys h e. record {
  sums = adds_mod s n false_lit xs ys e (ap not h);
  differences = subtracts s n xs ys h e;
  borrows = borrows s n xs ys h e;
}
