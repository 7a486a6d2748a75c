use Rattle.std.proofs.Common.{◌+◌}
use Rattle.vlog_read_expr.proofs.SignTests.{no_by}
use Rattle.std.proofs.lemmas.Result.{err_from_is_err_and}
use Rattle.set_read.proofs.PropertySteps.{some_by, none_by_test, until_apart, assume_apart}
use Rattle.set_read.proofs.property.reset_property.Goals as goal

pub returns-in_err-end-clause-only : goal.returns-in_err-end-clause-only
returns-in_err-end-clause-only c =
    let p = err_from_is_err_and c.from_residual.result c.from_residual.ensures.1 in
    rw (p.1, p.2) (λ x j q g. absurd (c.in_err-end.ensures.none (q.0, q.1)))

pub returns-in_err-first-clause-only : goal.returns-in_err-first-clause-only
returns-in_err-first-clause-only c =
    let p = err_from_is_err_and c.from_residual-in_err-first.result c.from_residual-in_err-first.ensures.1 in
    rw (p.1, p.2) (λ x j q g. (rw c.in_ok-end.ensures.end at c.in_err-first.ensures.only) x j q.5 tt)

pub returns-then-is_some-clause-only : goal.returns-then-is_some-clause-only
returns-then-is_some-clause-only c = rw c.dropping.ensures (λ x j q g. absurd (until_apart c.args.tokens.now (c.args.at + 2) c.in_ok-first.first c.in_ok-first.end (rw c.in_ok-end.ensures.end at c.in_ok-first.ensures.spelt) (some_by _ _ c.is_some.ensures c.if-is_some.true) x j q.5 q.3))

pub returns-then-not-is_empty-clause-only : goal.returns-then-not-is_empty-clause-only
returns-then-not-is_empty-clause-only c = rw c.dropping-then-not-is_empty.ensures (λ x j q g. absurd (assume_apart c.args.tokens.now (c.args.at + 2) c.in_ok-first.first c.in_ok-first.end (rw c.in_ok-end.ensures.end at c.in_ok-first.ensures.spelt) (none_by_test _ _ c.is_some.ensures c.if-is_some.false) (no_by _ c.is_empty.ensures c.if-not-is_empty.true) x j q.5 q.3 q.4))

pub returns-clause-only : goal.returns-clause-only
returns-clause-only c = λ x j q g. (rw c.in_ok-end.ensures.end at c.in_ok-first.ensures.only) x j q.5 tt
