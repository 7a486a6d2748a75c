use Rattle.cnf_build.proofs.Numbers.{number-append}
use Rattle.cnf_build.proofs.Wires.{number-const_lits, number-slice, number-zext, number-sext}
use Rattle.cnf_build.proofs.Comparisons.{number-top_turned, number-top_of}
use Rattle.cnf_build.proofs.circuit_laws.wires_compute.Goals as goal

pub returns : goal.returns
returns c = λ s xs h. record {
  constant = λ w v. number-const_lits s w v h;
  slice = λ lo w. number-slice s lo w xs;
  zext = λ k. number-zext s k xs h;
  sext = λ k. number-sext s k xs;
  concat = λ ys. number-append s ys xs;
  turned = number-top_turned s xs;
  top = number-top_of s xs;
}
