use Rattle.std.proofs.Common.{arith, subst, ◌<◌}
use Rattle.std.proofs.lemmas.Result.{err_from_is_err_and}
use Rattle.set_tree.specs.Spelling.{SpellsConditions}
use Rattle.set_read.specs.Heights.{property_height}
use Rattle.set_read.specs.Parts.{tail_height, conditions_height}
use Rattle.set_read.proofs.Steps.{passes}
use Rattle.set_read.proofs.PropertySteps.{conditions_of, tail_of, tail_begins, after_conditions}
use Rattle.set_read.proofs.property.property.Goals as goal

pub returns-clause-spelt : goal.returns-clause-spelt
returns-clause-spelt c =
    let held = c.in_ok-conditions.conditions in (
      c.in_ok-conditions.end,
      c.in_ok-end.ensures.ok.0,
      subst (λ i. SpellsConditions c.args.tokens.now i held.length held.window held.assume held.commit c.in_ok-conditions.end) c.in_ok-end.ensures.ok.1 c.in_ok-conditions.ensures.spelt,
      c.in-Ok.ensures.spelt,
    )

pub returns-in_err-end-clause-only : goal.returns-in_err-end-clause-only
returns-in_err-end-clause-only c =
    let p = err_from_is_err_and c.from_residual.result c.from_residual.ensures.1 in
    rw (p.1, p.2) (λ x j q g. absurd (c.in_err-end.ensures.none q.1))

pub returns-in_err-conditions-clause-only : goal.returns-in_err-conditions-clause-only
returns-in_err-conditions-clause-only c =
    let p = err_from_is_err_and c.from_residual-in_err-conditions.result c.from_residual-in_err-conditions.ensures.1 in
    rw (p.1, p.2) (λ x j q g. passes (498 < conditions_height (conditions_of c.args.tokens.now x)) (499 < property_height x) (λ h. omega (arith, h)) _ ((rw c.in_ok-end.ensures.ok.1 at c.in_err-conditions.ensures.only) (conditions_of c.args.tokens.now x) q.0 q.2 (tail_begins c.args.tokens.now q.0 x j q.3)))

pub returns-in-Err-clause-only : goal.returns-in-Err-clause-only
returns-in-Err-clause-only c =
    rw c.dropping.ensures (λ x j q g. passes (498 < tail_height (tail_of c.args.tokens.now x)) (499 < property_height x) (λ h. omega (arith, h)) _ (c.in-Err.ensures.only (tail_of c.args.tokens.now x) j (after_conditions c.args.tokens.now c.args.at _ (rw c.in_ok-end.ensures.ok.1 at c.in_ok-conditions.ensures.only) x j q) tt))

pub returns-clause-only : goal.returns-clause-only
returns-clause-only c = λ x j q g. c.in-Ok.ensures.only (tail_of c.args.tokens.now x) j (after_conditions c.args.tokens.now c.args.at _ (rw c.in_ok-end.ensures.ok.1 at c.in_ok-conditions.ensures.only) x j q) tt
