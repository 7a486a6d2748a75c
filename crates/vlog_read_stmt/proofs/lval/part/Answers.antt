use Rattle.std.proofs.Common.{arith, refl}
use Rattle.vlog_read_spelling.proofs.Tokens.{kind_within}
use Rattle.vlog_read_spelling.proofs.Forms.{span_within}
use Rattle.vlog_read_expr.proofs.SignTests.{yes_by, no_by}
use Rattle.vlog_read_stmt.proofs.LvalSteps.{part_spelt, part_refuses, part_open}
use Rattle.vlog_read_stmt.proofs.lval.part.Goals as goal

pub after-next-requires : goal.after-next-requires
after-next-requires c = span_within _ _ _ c.requires.sign

pub after-requires : goal.after-requires
after-requires c = kind_within _ _ _ (yes_by _ c.is_sign.ensures c.if-not-is_sign.false)

pub returns : goal.returns
returns c =
    part_spelt _ _ _ c.requires.positive _ c.requires.here c.requires.open _ c.requires.read _ c.requires.sign _ (rw c.after-next.ensures at c.in-Ok.ensures)
    (yes_by _ c.is_sign.ensures c.if-not-is_sign.false) _ refl c.after.ensures (omega (arith, c.max.ensures))

pub returns-in-Err : goal.returns-in-Err
returns-in-Err c =
    part_refuses _ _ _ c.requires.positive _ c.requires.here c.requires.open _ c.requires.read _ c.requires.sign _ (rw c.after-next.ensures at c.in-Err.ensures)

pub returns-then-not-is_sign : goal.returns-then-not-is_sign
returns-then-not-is_sign c = part_open _ _ _ c.requires.positive _ c.requires.here c.requires.open _ c.requires.read _ c.requires.sign _ (rw c.after-next.ensures at c.in-Ok.ensures) (no_by _ c.is_sign.ensures c.if-not-is_sign.true)
