use Rattle.std.proofs.Common.{arith, ◌≡◌, ◌+◌}
use Rattle.std.proofs.lemmas.Result.{err_from_is_err_and}
use Rattle.set_read.proofs.parts.bits.Goals as goal

pub returns-in_err-end-clause-none : goal.returns-in_err-end-clause-none
returns-in_err-end-clause-none c =
    let p = err_from_is_err_and c.from_residual.result c.from_residual.ensures.1 in
    rw p.1 (λ x j q. c.in_err-end.ensures.none q.0)

pub returns-in_err-high-clause-none : goal.returns-in_err-high-clause-none
returns-in_err-high-clause-none c =
    let p = err_from_is_err_and c.from_residual-in_err-high.result c.from_residual-in_err-high.ensures.1 in
    rw p.1 (λ x j q. (rw c.in_ok-end.ensures.ok.1 at c.in_err-high.ensures.none) x.high (c.args.at + 2) q.1)

pub returns-in_err-end-2-clause-none : goal.returns-in_err-end-2-clause-none
returns-in_err-end-2-clause-none c =
    let p = err_from_is_err_and c.from_residual-in_err-end-2.result c.from_residual-in_err-end-2.ensures.1 in
    rw p.1 (let e : c.in_ok-high.end ≡ c.args.at + 2 = omega (arith, c.in_ok-end.ensures.ok.1, c.in_ok-high.ensures.ok.1) in λ x j q. (rw e at c.in_err-end-2.ensures.none) q.2)

pub returns-in_err-low-clause-none : goal.returns-in_err-low-clause-none
returns-in_err-low-clause-none c =
    let p = err_from_is_err_and c.from_residual-in_err-low.result c.from_residual-in_err-low.ensures.1 in
    rw p.1 (let e : c.in_ok-end-2.end ≡ c.args.at + 3 = omega (arith, c.in_ok-end.ensures.ok.1, c.in_ok-high.ensures.ok.1, c.in_ok-end-2.ensures.ok.1) in λ x j q. (rw e at c.in_err-low.ensures.none) x.low (c.args.at + 4) q.3)

pub returns-in_err-end-3-clause-none : goal.returns-in_err-end-3-clause-none
returns-in_err-end-3-clause-none c =
    let p = err_from_is_err_and c.from_residual-in_err-end-3.result c.from_residual-in_err-end-3.ensures.1 in
    rw p.1 (let e : c.in_ok-low.end ≡ c.args.at + 4 = omega (arith, c.in_ok-end.ensures.ok.1, c.in_ok-high.ensures.ok.1, c.in_ok-end-2.ensures.ok.1, c.in_ok-low.ensures.ok.1) in λ x j q. (rw e at c.in_err-end-3.ensures.none) q.4)
