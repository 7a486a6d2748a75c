use Rattle.vlog_read_expr.proofs.SignTests.{yes_by, no_by}
use Rattle.set_read.proofs.PartSteps.{signed_stands, signed_missing}
use Rattle.set_read.proofs.parts.signed.Goals as goal

pub returns-then-is_word-clause-only : goal.returns-then-is_word-clause-only
returns-then-is_word-clause-only c = signed_stands c.args.tokens.now c.args.at (yes_by _ c.is_word.ensures c.if-is_word.true)

pub returns-else-is_word-clause-only : goal.returns-else-is_word-clause-only
returns-else-is_word-clause-only c = signed_missing c.args.tokens.now c.args.at (no_by _ c.is_word.ensures c.if-is_word.false)
