use Rattle.std.proofs.Common.{arith, subst, ◌≡◌, ◌+◌}
use Rattle.std.proofs.lemmas.Result.{err_from_is_err_and}
use Rattle.std.specs.Prelude.{codes}
use Rattle.vlog_tree.specs.Signs.{IsSign}
use Rattle.set_read.proofs.parts.length.Goals as goal

pub returns-in_err-end-clause-only : goal.returns-in_err-end-clause-only
returns-in_err-end-clause-only c =
    let p = err_from_is_err_and c.from_residual.result c.from_residual.ensures.1 in
    rw (p.1, p.2) (λ x j q g. absurd (c.in_err-end.ensures.none q.1))

pub returns-in_err-low-clause-only : goal.returns-in_err-low-clause-only
returns-in_err-low-clause-only c =
    let p = err_from_is_err_and c.from_residual-in_err-low.result c.from_residual-in_err-low.ensures.1 in
    rw (p.1, p.2) (λ x j q g. absurd ((rw c.in_ok-end.ensures.ok.1 at c.in_err-low.ensures.none) x.low (c.args.at + 1 + 1) q.2.0))

pub returns-in_err-until-clause-only : goal.returns-in_err-until-clause-only
returns-in_err-until-clause-only c =
    let p = err_from_is_err_and c.from_residual-in_err-until.result c.from_residual-in_err-until.ensures.1 in
    rw (p.1, p.2) (let e : c.in_ok-low.end ≡ c.args.at + 1 + 1 = omega (arith, c.in_ok-end.ensures.ok.1, c.in_ok-low.ensures.ok.1) in λ x j q g. (rw e at c.in_err-until.ensures.only) x.until q.0 q.2.1 q.3)

pub returns-in-Err-clause-only : goal.returns-in-Err-clause-only
returns-in-Err-clause-only c =
    rw c.dropping.ensures (let e : c.in_ok-low.end ≡ c.args.at + 1 + 1 = omega (arith, c.in_ok-end.ensures.ok.1, c.in_ok-low.ensures.ok.1) in λ x j q g. let s = (rw e at c.in_ok-until.ensures.only) x.until q.0 q.2.1 q.3 in absurd (c.in-Err.ensures.none (subst (λ z. IsSign c.args.tokens.now z (codes ";")) s q.3)))

pub returns-clause-only : goal.returns-clause-only
returns-clause-only c = let e : c.in_ok-low.end ≡ c.args.at + 1 + 1 = omega (arith, c.in_ok-end.ensures.ok.1, c.in_ok-low.ensures.ok.1) in λ x j q g. let s = (rw e at c.in_ok-until.ensures.only) x.until q.0 q.2.1 q.3 in omega (arith, s, q.4, c.in-Ok.ensures.ok.1)
