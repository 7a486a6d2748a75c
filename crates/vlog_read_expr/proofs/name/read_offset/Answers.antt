use Rattle.std.proofs.Common.{refl}
use Rattle.vlog_read_spelling.proofs.Tokens.{kind_within}
use Rattle.vlog_read_expr.proofs.SignTests.{yes_by, no_by}
use Rattle.vlog_read_expr.proofs.NameSteps.{no_offset}
use Rattle.vlog_read_expr.proofs.name.read_offset.Goals as goal

pub returns-then-not-is_sign : goal.returns-then-not-is_sign
returns-then-not-is_sign c = no_offset _ _ (no_by _ c.is_sign.ensures c.if-not-is_sign.true) _ refl _ refl

pub after-digits-requires : goal.after-digits-requires
after-digits-requires c = kind_within _ _ _ (yes_by _ c.is_sign.ensures c.if-not-is_sign.false)
