use Rattle.std.proofs.Common.{arith, subst, ◌≡◌, ◌+◌}
use Rattle.std.proofs.lemmas.Result.{err_from_is_err_and}
use Rattle.std.specs.Prelude.{codes}
use Rattle.vlog_tree.specs.Signs.{IsSign}
use Rattle.set_read.proofs.PartSteps.{output_end, after_output}
use Rattle.set_read.proofs.parts.cover.Goals as goal

pub returns-in_err-end-clause-only : goal.returns-in_err-end-clause-only
returns-in_err-end-clause-only c =
    let p = err_from_is_err_and c.from_residual.result c.from_residual.ensures.1 in
    rw (p.1, p.2) (λ x j q g. absurd (c.in_err-end.ensures.none q.2))

pub returns-in_err-output-clause-only : goal.returns-in_err-output-clause-only
returns-in_err-output-clause-only c =
    let p = err_from_is_err_and c.from_residual-in_err-output.result c.from_residual-in_err-output.ensures.1 in
    rw (p.1, p.2) (λ x j q g. (rw c.in_ok-end.ensures.ok.1 at c.in_err-output.ensures.only) x.output q.0 q.3 (output_end c.args.tokens.now c.args.at x j q))

pub returns-in_err-end-2-clause-only : goal.returns-in_err-end-2-clause-only
returns-in_err-end-2-clause-only c =
    let p = err_from_is_err_and c.from_residual-in_err-end-2.result c.from_residual-in_err-end-2.ensures.1 in
    rw (p.1, p.2) (λ x j q g. let a = after_output c.args.tokens.now c.args.at _ (rw c.in_ok-end.ensures.ok.1 at c.in_ok-output.ensures.only) x j q in absurd (c.in_err-end-2.ensures.none a.1))

pub returns-in_err-from-clause-only : goal.returns-in_err-from-clause-only
returns-in_err-from-clause-only c =
    let p = err_from_is_err_and c.from_residual-in_err-from.result c.from_residual-in_err-from.ensures.1 in
    rw (p.1, p.2) (λ x j q g. let a = after_output c.args.tokens.now c.args.at _ (rw c.in_ok-end.ensures.ok.1 at c.in_ok-output.ensures.only) x j q in absurd ((rw c.in_ok-end-2.ensures.ok.1 at c.in_err-from.ensures.none) x.from (c.in_ok-output.end + 2) a.2))

pub returns-in_err-end-3-clause-only : goal.returns-in_err-end-3-clause-only
returns-in_err-end-3-clause-only c =
    let p = err_from_is_err_and c.from_residual-in_err-end-3.result c.from_residual-in_err-end-3.ensures.1 in
    rw (p.1, p.2) (let e : c.in_ok-from.end ≡ c.in_ok-output.end + 2 = omega (arith, c.in_ok-end-2.ensures.ok.1, c.in_ok-from.ensures.ok.1) in λ x j q g. let a = after_output c.args.tokens.now c.args.at _ (rw c.in_ok-end.ensures.ok.1 at c.in_ok-output.ensures.only) x j q in absurd ((rw e at c.in_err-end-3.ensures.none) a.3))

pub returns-in_err-to-clause-only : goal.returns-in_err-to-clause-only
returns-in_err-to-clause-only c =
    let p = err_from_is_err_and c.from_residual-in_err-to.result c.from_residual-in_err-to.ensures.1 in
    rw (p.1, p.2) (let e : c.in_ok-end-3.end ≡ c.in_ok-output.end + 3 = omega (arith, c.in_ok-end-2.ensures.ok.1, c.in_ok-from.ensures.ok.1, c.in_ok-end-3.ensures.ok.1) in λ x j q g. let a = after_output c.args.tokens.now c.args.at _ (rw c.in_ok-end.ensures.ok.1 at c.in_ok-output.ensures.only) x j q in (rw e at c.in_err-to.ensures.only) x.to a.0 a.4 a.5)

pub returns-in_err-end-4-clause-only : goal.returns-in_err-end-4-clause-only
returns-in_err-end-4-clause-only c =
    let p = err_from_is_err_and c.from_residual-in_err-end-4.result c.from_residual-in_err-end-4.ensures.1 in
    rw (p.1, p.2) (let e : c.in_ok-end-3.end ≡ c.in_ok-output.end + 3 = omega (arith, c.in_ok-end-2.ensures.ok.1, c.in_ok-from.ensures.ok.1, c.in_ok-end-3.ensures.ok.1) in λ x j q g. let a = after_output c.args.tokens.now c.args.at _ (rw c.in_ok-end.ensures.ok.1 at c.in_ok-output.ensures.only) x j q in let s = (rw e at c.in_ok-to.ensures.only) x.to a.0 a.4 a.5 in absurd (c.in_err-end-4.ensures.none (subst (λ z. IsSign c.args.tokens.now z (codes ";")) s a.5)))

pub returns-clause-only : goal.returns-clause-only
returns-clause-only c = let e : c.in_ok-end-3.end ≡ c.in_ok-output.end + 3 = omega (arith, c.in_ok-end-2.ensures.ok.1, c.in_ok-from.ensures.ok.1, c.in_ok-end-3.ensures.ok.1) in λ x j q g. let a = after_output c.args.tokens.now c.args.at _ (rw c.in_ok-end.ensures.ok.1 at c.in_ok-output.ensures.only) x j q in let s = (rw e at c.in_ok-to.ensures.only) x.to a.0 a.4 a.5 in omega (arith, s, a.6, c.in_ok-end-4.ensures.ok.1)
