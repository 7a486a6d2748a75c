use Rattle.std.proofs.Common.{◌<◌, true}
use Rattle.vlog_tree.specs.Spelling.{IsIdentifier}
use Rattle.set_read.proofs.Steps.{lacks_flat, lacks_denies}
use Rattle.set_read.proofs.tokens.name.Goals as goal

pub returns-in-Ok-clause-only : goal.returns-in-Ok-clause-only
returns-in-Ok-clause-only c = λ x j q g. q.1

pub returns-in-Err-clause-only : goal.returns-in-Err-clause-only
returns-in-Err-clause-only c = λ x j q g. lacks_denies c.args.tokens.now c.args.at (λ x j. IsIdentifier true c.args.tokens.now c.args.at x) (0 < 0) _ _ c.of_reader.ensures c.in-Err.ensures.err x j q.0

pub returns-in-Err-clause-plain : goal.returns-in-Err-clause-plain
returns-in-Err-clause-plain c = lacks_flat c.args.tokens.now c.args.at (λ x j. IsIdentifier true c.args.tokens.now c.args.at x) _ _ c.of_reader.ensures c.in-Err.ensures.err
