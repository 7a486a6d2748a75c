use Rattle.std.proofs.Common.{refl, arith}
use Rattle.vlog_read_spelling.proofs.Made.{choice_made}
use Rattle.vlog_read_expr.proofs.Steps.{choice_grown, choice_deep}
use Rattle.vlog_read_expr.proofs.expr.Reader.chosen.Goals as goal

pub returns-then-height-sought : goal.returns-then-height-sought
returns-then-height-sought c =
    choice_deep _ _ _ _ _ _ c.requires.grown c.requires.sign c.requires.high _ c.requires.read_yes c.requires.colon _ c.requires.read_no
    (omega (arith, c.max.ensures, c.max-height.ensures, c.if-height-sought.true))

pub returns : goal.returns
returns c =
    choice_grown _ _ _ _ _ _ c.requires.grown c.requires.sign c.requires.high _ c.requires.read_yes c.requires.colon _ c.requires.read_no _
    (choice_made _ _ _ _ _ _ c.in_ok-left.ensures c.in_ok-yes.ensures c.in_ok-no.ensures) refl
    (omega (arith, c.max.ensures, c.max-height.ensures)) (omega (arith, c.if-height-sought.false))
