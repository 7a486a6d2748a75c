use Rattle.std.proofs.Common.{arith, refl, sym, subst, ◌+◌, ◌<◌, true}
use Rattle.std.proofs.lemmas.Result.{err_from_is_err_and}
use Rattle.vlog_tree.specs.Spelling.{IsNamed}
use Rattle.set_tree.specs.Spelling.{SpellsProperty}
use Rattle.set_read.proofs.Steps.{passes}
use Rattle.set_read.proofs.property.operation.Goals as goal

pub returns-clause-spelt : goal.returns-clause-spelt
returns-clause-spelt c = (
  c.in_ok-name.ensures.word,
  subst (λ n. IsNamed true c.args.tokens.now (c.args.at + 1) n (c.args.at + 2)) (sym c.in_ok-property.ensures.name) c.in_ok-name.ensures.name,
  subst (λ i. SpellsProperty c.args.tokens.now i c.in_ok-property.property c.in_ok-property.end) c.in_ok-name.ensures.end c.in_ok-property.ensures.spelt,
)

pub returns-in_err-name-clause-only : goal.returns-in_err-name-clause-only
returns-in_err-name-clause-only c =
    let p = err_from_is_err_and c.from_residual.result c.from_residual.ensures.1 in
    rw (p.1, p.2) (λ x j q g. passes (0 < 0) _ (λ h. absurd (omega (arith, h))) _ (c.in_err-name.ensures.only x.name (c.args.at + 2) (q.0, q.1, refl) tt))

pub returns-in_err-property-clause-only : goal.returns-in_err-property-clause-only
returns-in_err-property-clause-only c =
    let p = err_from_is_err_and c.from_residual-in_err-property.result c.from_residual-in_err-property.ensures.1 in
    rw (p.1, p.2) (λ x j q g. (rw c.in_ok-name.ensures.end at c.in_err-property.ensures.only) x j q.2 tt)

pub returns-clause-only : goal.returns-clause-only
returns-clause-only c = λ x j q g. (rw c.in_ok-name.ensures.end at c.in_ok-property.ensures.only) x j q.2 tt
