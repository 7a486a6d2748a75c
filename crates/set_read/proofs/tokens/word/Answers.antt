use Rattle.vlog_read_expr.proofs.SignTests.{yes_by, no_by}
use Rattle.vlog_read_spelling.proofs.Tokens.{kind_within}
use Rattle.set_read.proofs.tokens.word.Goals as goal

pub after-requires : goal.after-requires
after-requires c = kind_within _ _ _ (yes_by _ c.is_word.ensures c.if-is_word.true)

pub returns-else-is_word-clause-none : goal.returns-else-is_word-clause-none
returns-else-is_word-clause-none c = no_by _ c.is_word.ensures c.if-is_word.false
