use Rattle.set_read.proofs.PartSteps.{digits_agree, no_distance, some_distance}
use Rattle.set_read.proofs.parts.distance.Goals as goal

pub returns-in-Err-clause-only : goal.returns-in-Err-clause-only
returns-in-Err-clause-only c = λ x j q g. no_distance c.args.tokens.now c.args.at c.in-Err.ensures.none x j q

pub returns-in-Ok-clause-only : goal.returns-in-Ok-clause-only
returns-in-Ok-clause-only c = λ x j q g. digits_agree c.args.tokens.now c.args.at _ c.in-Ok.ensures.ok.1 c.digits.result c.digits.ensures.ok c.digits.ensures.none x j (some_distance c.args.tokens.now c.args.at c.in-Ok.ensures.ok.0 x j q g)
