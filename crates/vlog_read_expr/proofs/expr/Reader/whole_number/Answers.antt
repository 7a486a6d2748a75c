use Rattle.vlog_read_spelling.proofs.Tokens.{kind_within}
use Rattle.vlog_read_expr.proofs.SignTests.{no_by}
use Rattle.vlog_read_expr.proofs.Operands.{number_followed, number_wild}
use Rattle.vlog_read_expr.proofs.expr.Reader.whole_number.Goals as goal

pub after-end-requires : goal.after-end-requires
after-end-requires c = kind_within _ _ _ c.requires.here

pub returns-then-not-is_alone : goal.returns-then-not-is_alone
returns-then-not-is_alone c = number_followed _ _ _ _ c.requires.positive _ c.requires.here (rw c.after-end.ensures at (no_by _ c.is_alone.ensures c.if-not-is_alone.true))

pub returns-then-number : goal.returns-then-number
returns-then-number c = number_wild _ _ _ _ c.requires.positive _ c.requires.here (λ h. let t = c.if-number.true in cc)
