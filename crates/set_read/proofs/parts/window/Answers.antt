use Rattle.std.proofs.Common.{arith}
use Rattle.vlog_read_expr.proofs.SignTests.{yes_by, no_by}
use Rattle.std.proofs.lemmas.Result.{err_from_is_err_and}
use Rattle.set_read.proofs.PartSteps.{no_window, some_window}
use Rattle.set_read.proofs.parts.window.Goals as goal

pub returns-in_ok-window-clause-only : goal.returns-in_ok-window-clause-only
returns-in_ok-window-clause-only c = λ x j q g. let w = some_window c.args.tokens.now c.args.at (yes_by _ c.is_word.ensures c.if-is_word.true) x j q g in omega (arith, w.1.4, w.1.2.4, c.in_ok-window.ensures.spelt.4, c.in_ok-window.ensures.spelt.2.4)

pub returns-in_err-window-clause-only : goal.returns-in_err-window-clause-only
returns-in_err-window-clause-only c =
    let p = err_from_is_err_and c.from_residual.result c.from_residual.ensures.1 in
    rw (p.1, p.2) (λ x j q g. let w = some_window c.args.tokens.now c.args.at (yes_by _ c.is_word.ensures c.if-is_word.true) x j q g in absurd (c.in_err-window.ensures.none w.0 j w.1))

pub returns-else-is_word-clause-only : goal.returns-else-is_word-clause-only
returns-else-is_word-clause-only c = λ x j q g. no_window c.args.tokens.now c.args.at (no_by _ c.is_word.ensures c.if-is_word.false) x j q
