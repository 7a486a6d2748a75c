use Rattle.cnf_build.proofs.Nets as Nets
use Rattle.cnf_build.proofs.circuit_laws.product_sound.Goals as goal

pub returns : goal.returns
returns c = λ n sum xs ys p bs bx by. let r = Nets.product_sound n sum xs ys p bs bx by in (r.net, r.below)
