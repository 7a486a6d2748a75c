use Rattle.std.proofs.Common.{arith, subst, inr}
use Rattle.std.proofs.lemmas.Result.{err_from_is_err_and}
use Rattle.std.specs.Prelude.{codes}
use Rattle.vlog_tree.specs.Signs.{IsSign}
use Rattle.set_read.proofs.parts.clause.Goals as goal

pub returns-in_err-end-clause-only : goal.returns-in_err-end-clause-only
returns-in_err-end-clause-only c =
    let p = err_from_is_err_and c.from_residual.result c.from_residual.ensures.1 in
    rw (p.1, p.2) (λ x j q g. absurd (c.in_err-end.ensures.none q.1))

pub returns-in_err-tree-clause-only : goal.returns-in_err-tree-clause-only
returns-in_err-tree-clause-only c =
    let p = err_from_is_err_and c.from_residual-in_err-tree.result c.from_residual-in_err-tree.ensures.1 in
    rw (p.1, p.2) (λ x j q g. (rw c.in_ok-end.ensures.ok.1 at c.in_err-tree.ensures.only) x q.0 q.2 (inr q.3))

pub returns-in-Err-clause-only : goal.returns-in-Err-clause-only
returns-in-Err-clause-only c =
    rw c.dropping.ensures (λ x j q g. let s = (rw c.in_ok-end.ensures.ok.1 at c.in_ok-tree.ensures.only) x q.0 q.2 (inr q.3) in absurd (c.in-Err.ensures.none (subst (λ z. IsSign c.args.tokens.now z (codes ";")) s q.3)))

pub returns-clause-only : goal.returns-clause-only
returns-clause-only c = λ x j q g. let s = (rw c.in_ok-end.ensures.ok.1 at c.in_ok-tree.ensures.only) x q.0 q.2 (inr q.3) in omega (arith, s, q.4, c.in-Ok.ensures.ok.1)
