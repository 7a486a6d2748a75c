use Rattle.std.proofs.Common.{arith}
use Rattle.vlog_read_expr.proofs.SignTests.{yes_by, no_by}
use Rattle.vlog_read_spelling.proofs.Tokens.{kind_within}
use Rattle.std.proofs.lemmas.Result.{err_from_is_err_and}
use Rattle.set_read.proofs.PartSteps.{after_end, no_end}
use Rattle.set_read.proofs.parts.end_text.Goals as goal

pub returns-in_err-distance-clause-only : goal.returns-in_err-distance-clause-only
returns-in_err-distance-clause-only c =
    let p = err_from_is_err_and c.from_residual.result c.from_residual.ensures.1 in
    rw (p.1, p.2) (λ x j q g. let d = after_end c.args.tokens.now c.args.at (yes_by _ c.is_word.ensures c.if-is_word.true) x j q in (rw c.after.ensures at c.in_err-distance.ensures.only) d.0 j d.1 g)

pub returns-in_ok-distance-clause-only : goal.returns-in_ok-distance-clause-only
returns-in_ok-distance-clause-only c = λ x j q g. let d = after_end c.args.tokens.now c.args.at (yes_by _ c.is_word.ensures c.if-is_word.true) x j q in (rw c.after.ensures at c.in_ok-distance.ensures.only) d.0 j d.1 g

pub returns-in_err-offset-clause-only : goal.returns-in_err-offset-clause-only
returns-in_err-offset-clause-only c =
    let p = err_from_is_err_and c.from_residual-in_err-offset.result c.from_residual-in_err-offset.ensures.1 in
    rw (p.1, p.2) (λ x j q g. let d = no_end c.args.tokens.now c.args.at (no_by _ c.is_word.ensures c.if-is_word.false) x j q in absurd (c.in_err-offset.ensures.none d.0 j d.1))

pub returns-in_ok-offset-clause-only : goal.returns-in_ok-offset-clause-only
returns-in_ok-offset-clause-only c = λ x j q g. let d = no_end c.args.tokens.now c.args.at (no_by _ c.is_word.ensures c.if-is_word.false) x j q in omega (arith, d.1.4, c.in_ok-offset.ensures.ok.1)

pub after-requires : goal.after-requires
after-requires c = kind_within _ _ _ (yes_by _ c.is_word.ensures c.if-is_word.true)
