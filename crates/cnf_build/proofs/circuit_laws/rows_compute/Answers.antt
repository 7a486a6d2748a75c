use Rattle.cnf_build.proofs.Rows.{and_ands, or_ors, xor_xors, mux_picks}
use Rattle.cnf_build.proofs.Equals.{equal_compares}
use Rattle.cnf_build.proofs.circuit_laws.rows_compute.Goals as goal

pub returns : goal.returns
returns c = λ s n xs ys e. record {
  ands = and_ands s n xs ys e;
  ors = or_ors s n xs ys e;
  xors = xor_xors s n xs ys e;
  picks = λ c. mux_picks s n c xs ys e;
  compares = λ c. equal_compares s n c xs ys e;
}
