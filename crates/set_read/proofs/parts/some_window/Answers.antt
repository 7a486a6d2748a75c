use Rattle.std.proofs.Common.{arith, subst, ◌≡◌, ◌+◌}
use Rattle.std.proofs.lemmas.Result.{err_from_is_err_and}
use Rattle.std.specs.Prelude.{codes}
use Rattle.vlog_tree.specs.Signs.{IsSign}
use Rattle.set_read.proofs.parts.some_window.Goals as goal

pub returns-in_err-end-clause-none : goal.returns-in_err-end-clause-none
returns-in_err-end-clause-none c =
    let p = err_from_is_err_and c.from_residual.result c.from_residual.ensures.1 in
    rw p.1 (λ x j q. c.in_err-end.ensures.none q.1)

pub returns-in_err-window-clause-none : goal.returns-in_err-window-clause-none
returns-in_err-window-clause-none c =
    let p = err_from_is_err_and c.from_residual-in_err-window.result c.from_residual-in_err-window.ensures.1 in
    rw p.1 (λ x j q. (rw c.in_ok-end.ensures.ok.1 at c.in_err-window.ensures.none) x q.0 q.2)

pub returns-in_err-end-2-clause-none : goal.returns-in_err-end-2-clause-none
returns-in_err-end-2-clause-none c =
    let p = err_from_is_err_and c.from_residual-in_err-end-2.result c.from_residual-in_err-end-2.ensures.1 in
    rw p.1 (let e : c.in_ok-window.end ≡ c.args.at + 1 + 1 = omega (arith, c.in_ok-end.ensures.ok.1, c.in_ok-window.ensures.ok.1) in λ x j q. (rw e at c.in_err-end-2.ensures.none) (subst (λ z. IsSign c.args.tokens.now z (codes ";")) q.2.4 q.3))
