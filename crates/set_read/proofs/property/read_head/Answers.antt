use Rattle.std.proofs.Common.{arith, refl, ◌≡◌, ◌<◌}
use Rattle.std.proofs.lemmas.Result.{err_from_is_err_and}
use Rattle.set_read.proofs.Steps.{passes}
use Rattle.set_read.proofs.property.read_head.Goals as goal

pub returns-in_err-block-clause-only : goal.returns-in_err-block-clause-only
returns-in_err-block-clause-only c =
    let p = err_from_is_err_and c.from_residual.result c.from_residual.ensures.1 in
    rw (p.1, p.2) (λ x j q g. passes (0 < 0) _ (λ h. absurd (omega (arith, h))) _ (c.in_err-block.ensures.only x.block 3 q.0 tt))

pub returns-in_err-clock-clause-only : goal.returns-in_err-clock-clause-only
returns-in_err-clock-clause-only c =
    let p = err_from_is_err_and c.from_residual-in_err-clock.result c.from_residual-in_err-clock.ensures.1 in
    rw (p.1, p.2) (λ x j q g. passes (0 < 0) _ (λ h. absurd (omega (arith, h))) _ ((rw c.in_ok-block.ensures.spelt.3 at c.in_err-clock.ensures.only) x.clock 6 q.1 tt))

pub returns-in_err-end-clause-only : goal.returns-in_err-end-clause-only
returns-in_err-end-clause-only c =
    let p = err_from_is_err_and c.from_residual-in_err-end.result c.from_residual-in_err-end.ensures.1 in
    rw (p.1, p.2) (let e : c.in_ok-clock.end ≡ 6 = omega (arith, c.in_ok-block.ensures.spelt.3, c.in_ok-clock.ensures.spelt.3) in λ x j q g. absurd ((rw e at c.in_err-end.ensures.none) q.2))

pub returns-in_err-reset-clause-only : goal.returns-in_err-reset-clause-only
returns-in_err-reset-clause-only c =
    let p = err_from_is_err_and c.from_residual-in_err-reset.result c.from_residual-in_err-reset.ensures.1 in
    rw (p.1, p.2) (let e : c.in_ok-end.end ≡ 7 = omega (arith, c.in_ok-block.ensures.spelt.3, c.in_ok-clock.ensures.spelt.3, c.in_ok-end.ensures.ok.1) in λ x j q g. passes (0 < 0) _ (λ h. absurd (omega (arith, h))) _ ((rw e at c.in_err-reset.ensures.only) x.reset 8 q.3 tt))

pub returns-in_err-high-clause-only : goal.returns-in_err-high-clause-only
returns-in_err-high-clause-only c =
    let p = err_from_is_err_and c.from_residual-in_err-high.result c.from_residual-in_err-high.ensures.1 in
    rw (p.1, p.2) (let e : c.in_ok-reset.end ≡ 8 = omega (arith, c.in_ok-block.ensures.spelt.3, c.in_ok-clock.ensures.spelt.3, c.in_ok-end.ensures.ok.1, c.in_ok-reset.ensures.ok.1) in λ x j q g. absurd ((rw e at c.in_err-high.ensures.none) x.high 9 (q.4, refl)))

pub returns-in_err-cycles-clause-only : goal.returns-in_err-cycles-clause-only
returns-in_err-cycles-clause-only c =
    let p = err_from_is_err_and c.from_residual-in_err-cycles.result c.from_residual-in_err-cycles.ensures.1 in
    rw (p.1, p.2) (let e : c.in_ok-high.end ≡ 9 = omega (arith, c.in_ok-block.ensures.spelt.3, c.in_ok-clock.ensures.spelt.3, c.in_ok-end.ensures.ok.1, c.in_ok-reset.ensures.ok.1, c.in_ok-high.ensures.spelt.1) in λ x j q g. absurd ((rw e at c.in_err-cycles.ensures.none) x.cycles 10 q.5))

pub returns-in_err-end-2-clause-only : goal.returns-in_err-end-2-clause-only
returns-in_err-end-2-clause-only c =
    let p = err_from_is_err_and c.from_residual-in_err-end-2.result c.from_residual-in_err-end-2.ensures.1 in
    rw (p.1, p.2) (let e : c.in_ok-cycles.end ≡ 10 = omega (arith, c.in_ok-block.ensures.spelt.3, c.in_ok-clock.ensures.spelt.3, c.in_ok-end.ensures.ok.1, c.in_ok-reset.ensures.ok.1, c.in_ok-high.ensures.spelt.1, c.in_ok-cycles.ensures.ok.1) in λ x j q g. absurd ((rw e at c.in_err-end-2.ensures.none) q.6))

pub returns-clause-only : goal.returns-clause-only
returns-clause-only c = λ x j q g. omega (arith, q.7, c.in_ok-block.ensures.spelt.3, c.in_ok-clock.ensures.spelt.3, c.in_ok-end.ensures.ok.1, c.in_ok-reset.ensures.ok.1, c.in_ok-high.ensures.spelt.1, c.in_ok-cycles.ensures.ok.1, c.in_ok-end-2.ensures.ok.1)
