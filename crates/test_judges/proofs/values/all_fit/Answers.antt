use Rattle.std.proofs.Common.{arith}
use Rattle.test_judges.proofs.Fitting.{other_length}
use Rattle.test_judges.proofs.values.all_fit.Goals as goal

pub returns-then-signals-values : goal.returns-then-signals-values
returns-then-signals-values c = other_length c.args.signals.now c.args.values.now (λ same. omega (arith, same, c.if-signals-values.true))
