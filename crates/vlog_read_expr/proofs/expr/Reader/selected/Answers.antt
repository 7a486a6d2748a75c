use Rattle.std.proofs.Common.{refl}
use Rattle.vlog_read_spelling.proofs.Tokens.{kind_within}
use Rattle.vlog_read_spelling.proofs.Made.{select_made}
use Rattle.vlog_read_expr.proofs.SignTests.{yes_by, no_by}
use Rattle.vlog_read_expr.proofs.Operands.{select_open, select_followed, select_read}
use Rattle.vlog_read_expr.proofs.expr.Reader.selected.Goals as goal

pub returns-then-not-is_sign : goal.returns-then-not-is_sign
returns-then-not-is_sign c =
    select_open _ _ _ _ c.requires.positive _ _ c.requires.here c.requires.open _ c.requires.read c.requires.none (no_by _ c.is_sign.ensures c.if-not-is_sign.true)

pub after-end-requires : goal.after-end-requires
after-end-requires c = kind_within _ _ _ (yes_by _ c.is_sign.ensures c.if-not-is_sign.false)

pub returns-then-not-is_alone : goal.returns-then-not-is_alone
returns-then-not-is_alone c =
    select_followed _ _ _ _ c.requires.positive _ _ c.requires.here c.requires.open _ c.requires.read c.requires.none
    (rw c.after-end.ensures at (no_by _ c.is_alone.ensures c.if-not-is_alone.true))

pub returns : goal.returns
returns c =
    select_read _ _ _ _ c.requires.positive _ _ c.requires.here c.requires.open _ c.requires.read (yes_by _ c.is_sign.ensures c.if-not-is_sign.false)
    (rw c.after-end.ensures at (yes_by _ c.is_alone.ensures c.if-not-is_alone.false)) _ (select_made _ _ _ c.in_ok-new.ensures) c.after-end.ensures refl
