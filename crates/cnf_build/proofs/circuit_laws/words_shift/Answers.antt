use Rattle.cnf_build.proofs.Products.{product_multiplies, shifter_up, shifter_down, shifter_down_ones}
use Rattle.cnf_build.proofs.circuit_laws.words_shift.Goals as goal

pub returns : goal.returns
returns c = λ s n k xs ys h. record {
  product = λ sum e. product_multiplies s n sum xs ys h e;
  up = shifter_up s n k xs ys h;
  down = λ f e. shifter_down s f n k xs ys e;
  down_ones = λ f e. shifter_down_ones s f n k xs ys e;
}
