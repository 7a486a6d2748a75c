use Rattle.std.proofs.Common.{arith, subst, ◌≡◌, ◌+◌, ◌<◌, inr}
use Rattle.vlog_read_spelling.proofs.Tokens.{kind_within}
use Rattle.std.proofs.lemmas.Result.{err_from_is_err_and}
use Rattle.std.specs.Prelude.{codes}
use Rattle.vlog_tree.specs.Signs.{IsSign}
use Rattle.vlog_tree.specs.Spelling.{height}
use Rattle.set_read.specs.Heights.{rule_height}
use Rattle.set_read.proofs.Steps.{passes}
use Rattle.set_read.proofs.parts.rule.Goals as goal

pub returns-in_err-name-clause-only : goal.returns-in_err-name-clause-only
returns-in_err-name-clause-only c =
    let p = err_from_is_err_and c.from_residual.result c.from_residual.ensures.1 in
    rw (p.1, p.2) (λ x j q g. passes (0 < 0) _ (λ h. absurd (omega (arith, h))) _ (c.in_err-name.ensures.only x.name (c.args.at + 2) q.2 tt))

pub returns-in_err-end-clause-only : goal.returns-in_err-end-clause-only
returns-in_err-end-clause-only c =
    let p = err_from_is_err_and c.from_residual-in_err-end.result c.from_residual-in_err-end.ensures.1 in
    rw (p.1, p.2) (let e : c.in_ok-name.end ≡ c.args.at + 2 = omega (arith, c.in_ok-name.ensures.ok.1) in λ x j q g. absurd ((rw e at c.in_err-end.ensures.none) q.3))

pub returns-in_err-formula-clause-only : goal.returns-in_err-formula-clause-only
returns-in_err-formula-clause-only c =
    let p = err_from_is_err_and c.from_residual-in_err-formula.result c.from_residual-in_err-formula.ensures.1 in
    rw (p.1, p.2) (let e : c.in_ok-end.end ≡ c.args.at + 3 = omega (arith, c.in_ok-name.ensures.ok.1, c.in_ok-end.ensures.ok.1) in λ x j q g. passes (498 < height x.formula) (499 < rule_height x) (λ h. omega (arith, h)) _ ((rw e at c.in_err-formula.ensures.only) x.formula q.0 q.4 (inr q.5)))

pub returns-in-Err-clause-only : goal.returns-in-Err-clause-only
returns-in-Err-clause-only c =
    rw c.dropping.ensures (let e : c.in_ok-end.end ≡ c.args.at + 3 = omega (arith, c.in_ok-name.ensures.ok.1, c.in_ok-end.ensures.ok.1) in λ x j q g. let s = (rw e at c.in_ok-formula.ensures.only) x.formula q.0 q.4 (inr q.5) in absurd (c.in-Err.ensures.none (subst (λ z. IsSign c.args.tokens.now z (codes ";")) s q.5)))

pub returns-clause-only : goal.returns-clause-only
returns-clause-only c = let e : c.in_ok-end.end ≡ c.args.at + 3 = omega (arith, c.in_ok-name.ensures.ok.1, c.in_ok-end.ensures.ok.1) in λ x j q g. omega (arith, (rw e at c.in_ok-formula.ensures.only) x.formula q.0 q.4 (inr q.5), q.6, c.in-Ok.ensures.ok.1)

pub returns-then-at-tokens-clause-only : goal.returns-then-at-tokens-clause-only
returns-then-at-tokens-clause-only c = λ x j q g. absurd (omega (arith, c.if-at-tokens.true, kind_within c.args.tokens.now c.args.at _ c.requires))
