use Rattle.std.proofs.Common.{refl}
use Rattle.std.proofs.lemmas.Result.{err_from_is_err_and}
use Rattle.vlog_read_spelling.proofs.Tokens.{kind_within}
use Rattle.vlog_read_expr.proofs.SignTests.{yes_by, no_by}
use Rattle.vlog_read_stmt.proofs.LabelSteps.{list_refuses, list_open, list_read}
use Rattle.vlog_read_stmt.proofs.label.labels.Goals as goal

pub after-next-requires : goal.after-next-requires
after-next-requires c = kind_within _ _ _ (yes_by _ c.is_word.ensures c.if-is_word.true)

pub returns-in_err-list : goal.returns-in_err-list
returns-in_err-list c =
    let p = err_from_is_err_and c.from_residual.result c.from_residual.ensures.1 in
    rw (p.1, p.2) (list_refuses _ _ _ _ (no_by _ c.is_word.ensures c.if-is_word.false) _ c.in_err-list.ensures)

pub returns-then-not-is_sign : goal.returns-then-not-is_sign
returns-then-not-is_sign c = list_open _ _ _ _ (no_by _ c.is_word.ensures c.if-is_word.false) _ c.in_ok-list.ensures (no_by _ c.is_sign-2.ensures c.if-not-is_sign.true)

pub returns : goal.returns
returns c = list_read _ _ _ _ (no_by _ c.is_word.ensures c.if-is_word.false) _ c.in_ok-list.ensures (yes_by _ c.is_sign-2.ensures c.if-not-is_sign.false) _ refl refl refl c.after.ensures

pub after-end-requires : goal.after-end-requires
after-end-requires c = kind_within _ _ _ (yes_by _ c.is_sign.ensures c.if-is_sign.true)

pub after-requires : goal.after-requires
after-requires c = kind_within _ _ _ (yes_by _ c.is_sign-2.ensures c.if-not-is_sign.false)
