use Rattle.cnf_build.proofs.Moves.{number-moved_up, number-moved_down, negated-moved_down}
use Rattle.cnf_build.proofs.circuit_laws.words_move.Goals as goal

pub returns : goal.returns
returns c = λ s k xs. record {
  up = number-moved_up s k xs;
  down = λ f. number-moved_down s k f xs;
  down_ones = λ f. negated-moved_down s k f xs;
}
