use Rattle.std.proofs.Common.{arith, ◌≡◌, ◌+◌, inr}
use Rattle.std.proofs.lemmas.Result.{err_from_is_err_and}
use Rattle.set_read.proofs.parts.until.Goals as goal

pub returns-in_err-end-clause-only : goal.returns-in_err-end-clause-only
returns-in_err-end-clause-only c =
    let p = err_from_is_err_and c.from_residual.result c.from_residual.ensures.1 in
    rw (p.1, p.2) (λ x j q g. absurd (c.in_err-end.ensures.none q.0))

pub returns-in_err-high-clause-only : goal.returns-in_err-high-clause-only
returns-in_err-high-clause-only c =
    let p = err_from_is_err_and c.from_residual-in_err-high.result c.from_residual-in_err-high.ensures.1 in
    rw (p.1, p.2) (λ x j q g. absurd ((rw c.in_ok-end.ensures.ok.1 at c.in_err-high.ensures.none) x.high (c.args.at + 2) q.1))

pub returns-in_err-end-2-clause-only : goal.returns-in_err-end-2-clause-only
returns-in_err-end-2-clause-only c =
    let p = err_from_is_err_and c.from_residual-in_err-end-2.result c.from_residual-in_err-end-2.ensures.1 in
    rw (p.1, p.2) (let e : c.in_ok-high.end ≡ c.args.at + 2 = omega (arith, c.in_ok-end.ensures.ok.1, c.in_ok-high.ensures.ok.1) in λ x j q g. absurd ((rw e at c.in_err-end-2.ensures.none) q.2))

pub returns-in_err-condition-clause-only : goal.returns-in_err-condition-clause-only
returns-in_err-condition-clause-only c =
    let p = err_from_is_err_and c.from_residual-in_err-condition.result c.from_residual-in_err-condition.ensures.1 in
    rw (p.1, p.2) (let e : c.in_ok-end-2.end ≡ c.args.at + 3 = omega (arith, c.in_ok-end.ensures.ok.1, c.in_ok-high.ensures.ok.1, c.in_ok-end-2.ensures.ok.1) in λ x j q g. (rw e at c.in_err-condition.ensures.only) x.condition j q.3 (inr g))

pub returns-clause-only : goal.returns-clause-only
returns-clause-only c = let e : c.in_ok-end-2.end ≡ c.args.at + 3 = omega (arith, c.in_ok-end.ensures.ok.1, c.in_ok-high.ensures.ok.1, c.in_ok-end-2.ensures.ok.1) in λ x j q g. (rw e at c.in_ok-condition.ensures.only) x.condition j q.3 (inr g)
