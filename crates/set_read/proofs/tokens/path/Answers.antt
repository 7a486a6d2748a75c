use Rattle.std.proofs.Common.{◌<◌}
use Rattle.vlog_read_expr.specs.Names.{ReadsPath}
use Rattle.set_read.proofs.Steps.{lacks_denies, lacks_long, path_past, path_only}
use Rattle.set_read.proofs.tokens.path.Goals as goal

pub returns-in-Ok-clause-past : goal.returns-in-Ok-clause-past
returns-in-Ok-clause-past c = path_past c.args.tokens.now c.args.at _ _ c.in-Ok.ensures.0

pub returns-in-Ok-clause-only : goal.returns-in-Ok-clause-only
returns-in-Ok-clause-only c = path_only c.args.tokens.now c.args.at _ _ c.in-Ok.ensures

pub returns-in-Err-clause-only : goal.returns-in-Err-clause-only
returns-in-Err-clause-only c = λ x j q g. lacks_denies c.args.tokens.now c.args.at (ReadsPath c.args.tokens.now c.args.at) (0 < 0) _ _ c.of_reader.ensures c.in-Err.ensures x j (q, g)

pub returns-in-Err-clause-long : goal.returns-in-Err-clause-long
returns-in-Err-clause-long c = lacks_long c.args.tokens.now c.args.at (ReadsPath c.args.tokens.now c.args.at) _ _ c.of_reader.ensures c.in-Err.ensures
