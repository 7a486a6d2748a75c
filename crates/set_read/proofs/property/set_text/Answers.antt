use Rattle.std.proofs.Common.{arith, sym, ◌<◌, length}
use Rattle.std.proofs.lemmas.Result.{err_from_is_err_and}
use Rattle.vlog_tree.specs.Lists.{highest}
use Rattle.set_read.specs.Heights.{declaration_height, rule_height, property_height, set_height}
use Rattle.set_read.proofs.Steps.{passes}
use Rattle.set_read.proofs.PropertySteps.{declarations_end, after_declarations, rules_end, after_rules, after_reset, operations_end}
use Rattle.set_read.proofs.property.set_text.Goals as goal

pub returns-in_err-head-clause-only : goal.returns-in_err-head-clause-only
returns-in_err-head-clause-only c =
    let p = err_from_is_err_and c.from_residual.result c.from_residual.ensures.1 in
    rw (p.1, p.2) (λ x q. passes (0 < 0) _ (λ h. absurd (omega (arith, h))) _ (c.in_err-head.ensures.only (record { block = x.block; clock = x.clock; reset = x.reset; high = x.high; cycles = x.cycles }) 11 q.3 tt))

pub returns-in_err-declarations-clause-only : goal.returns-in_err-declarations-clause-only
returns-in_err-declarations-clause-only c =
    let p = err_from_is_err_and c.from_residual-in_err-declarations.result c.from_residual-in_err-declarations.ensures.1 in
    rw (p.1, p.2) (λ x q. passes (499 < highest declaration_height x.declarations) (500 < set_height x) (λ h. omega (arith, h)) _ ((rw c.in_ok-head.ensures.spelt.7 at c.in_err-declarations.ensures.only) x.declarations q.0 q.4 (declarations_end c.args.tokens.now x q)))

pub returns-in-Err-clause-only : goal.returns-in-Err-clause-only
returns-in-Err-clause-only c =
    rw c.dropping.ensures (λ x q. let a = after_declarations c.args.tokens.now _ (rw c.in_ok-head.ensures.spelt.7 at c.in_ok-declarations.ensures.only) x q in passes (499 < highest rule_height x.rules) (500 < set_height x) (λ h. omega (arith, h)) _ (c.in-Err.ensures.only x.rules a.0 a.2 (rules_end c.args.tokens.now _ x a)))

pub returns-in-Err-reset_property-clause-only : goal.returns-in-Err-reset_property-clause-only
returns-in-Err-reset_property-clause-only c =
    rw c.dropping-in-Err-reset_property.ensures (λ x q. let a = after_rules c.args.tokens.now _ _ c.in-Ok.ensures.only x (after_declarations c.args.tokens.now _ (rw c.in_ok-head.ensures.spelt.7 at c.in_ok-declarations.ensures.only) x q) in passes (499 < property_height x.first) (500 < set_height x) (λ h. omega (arith, h)) _ (c.in-Err-reset_property.ensures.only x.first a.0 a.1 tt))

pub returns-in-Err-operations-clause-only : goal.returns-in-Err-operations-clause-only
returns-in-Err-operations-clause-only c =
    rw c.dropping-in-Err-operations.ensures (λ x q. passes (499 < highest property_height x.operations) (500 < set_height x) (λ h. omega (arith, h)) _ (c.in-Err-operations.ensures.only x.operations (length c.args.tokens.now) (after_reset c.args.tokens.now _ _ c.in-Ok-reset_property.ensures.only x (after_rules c.args.tokens.now _ _ c.in-Ok.ensures.only x (after_declarations c.args.tokens.now _ (rw c.in_ok-head.ensures.spelt.7 at c.in_ok-declarations.ensures.only) x q))) (operations_end c.args.tokens.now)))

pub returns-then-end-tokens-clause-only : goal.returns-then-end-tokens-clause-only
returns-then-end-tokens-clause-only c = rw c.dropping-then-end-tokens.ensures (λ x q. absurd (c.if-end-tokens.true (sym (c.in-Ok-operations.ensures.only x.operations (length c.args.tokens.now) (after_reset c.args.tokens.now _ _ c.in-Ok-reset_property.ensures.only x (after_rules c.args.tokens.now _ _ c.in-Ok.ensures.only x (after_declarations c.args.tokens.now _ (rw c.in_ok-head.ensures.spelt.7 at c.in_ok-declarations.ensures.only) x q))) (operations_end c.args.tokens.now)))))
