use Rattle.std.proofs.Common.{◌+◌, ◌≤◌, [], ◌∷◌, map, drop, length, ap, arith}
use Rattle.set_read_lookup.specs.Tests.{IsPresent}
use Rattle.set_read_lookup.proofs.Judged.{judge_one, judge_step, judge_stop, judge_end, cut, over}
use Rattle.set_read_lookup.proofs.formed.rules_are.Goals as goal

pub returns-then-not-branch : goal.returns-then-not-branch
returns-then-not-branch c =
    let P = IsPresent c.args.valuation.now in
    judge_stop P (map (λ r. r.formula) (drop c.loop-rule.rule-index c.args.rules.now)) (c.rule-item.result.formula ∷ []) (map (λ r. r.formula) (drop (c.loop-rule.rule-index + 1) c.args.rules.now)) (map (λ r. r.formula) c.args.rules.now) c.in_ok-is_formed.field-0 (ap (map (λ r. r.formula)) (cut c.args.rules.now c.loop-rule.rule-index c.rule-item.result c.loop-rule-test.true (c.rule-item.is))) c.loop-rule.invariant c.if-not-branch.true
    (judge_one P c.rule-item.result.formula c.in_ok-is_formed.field-0 c.in_ok-is_formed.ensures)

pub loop-rule-preserved : goal.loop-rule-preserved
loop-rule-preserved c =
    let P = IsPresent c.args.valuation.now in
    judge_step P (map (λ r. r.formula) (drop c.loop-rule.rule-index c.args.rules.now)) (c.rule-item.result.formula ∷ []) (map (λ r. r.formula) (drop (c.loop-rule.rule-index + 1) c.args.rules.now)) (map (λ r. r.formula) c.args.rules.now) c.in_ok-is_formed.field-0 (ap (map (λ r. r.formula)) (cut c.args.rules.now c.loop-rule.rule-index c.rule-item.result c.loop-rule-test.true (c.rule-item.is))) c.loop-rule.invariant c.if-not-branch.false
    (judge_one P c.rule-item.result.formula c.in_ok-is_formed.field-0 c.in_ok-is_formed.ensures)

pub returns : goal.returns
returns c =
    let le : length c.args.rules.now ≤ c.loop-rule.rule-index = omega (arith, c.loop-rule-test.false) in
    judge_end (IsPresent c.args.valuation.now) (map (λ r. r.formula) (drop c.loop-rule.rule-index c.args.rules.now)) (map (λ r. r.formula) c.args.rules.now) (ap (map (λ r. r.formula)) (over c.args.rules.now c.loop-rule.rule-index le)) c.loop-rule.invariant
