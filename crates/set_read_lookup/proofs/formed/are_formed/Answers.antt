use Rattle.std.proofs.Common.{◌+◌, ◌≤◌, [], ◌∷◌, drop, length, arith}
use Rattle.set_read_lookup.specs.Tests.{IsPresent}
use Rattle.set_read_lookup.proofs.Judged.{judge_one, judge_step, judge_stop, judge_end, cut, over}
use Rattle.set_read_lookup.proofs.formed.are_formed.Goals as goal

pub returns-then-not-branch : goal.returns-then-not-branch
returns-then-not-branch c =
    let P = IsPresent c.args.valuation.now in
    judge_stop P (drop c.loop-formula.formula-index c.args.formulas.now) (c.formula-item.result ∷ []) (drop (c.loop-formula.formula-index + 1) c.args.formulas.now) c.args.formulas.now c.in_ok-is_formed.field-0 (cut c.args.formulas.now c.loop-formula.formula-index c.formula-item.result c.loop-formula-test.true (c.formula-item.is)) c.loop-formula.invariant c.if-not-branch.true
    (judge_one P c.formula-item.result c.in_ok-is_formed.field-0 c.in_ok-is_formed.ensures)

pub loop-formula-preserved : goal.loop-formula-preserved
loop-formula-preserved c =
    let P = IsPresent c.args.valuation.now in
    judge_step P (drop c.loop-formula.formula-index c.args.formulas.now) (c.formula-item.result ∷ []) (drop (c.loop-formula.formula-index + 1) c.args.formulas.now) c.args.formulas.now c.in_ok-is_formed.field-0 (cut c.args.formulas.now c.loop-formula.formula-index c.formula-item.result c.loop-formula-test.true (c.formula-item.is)) c.loop-formula.invariant c.if-not-branch.false
    (judge_one P c.formula-item.result c.in_ok-is_formed.field-0 c.in_ok-is_formed.ensures)

pub returns : goal.returns
returns c =
    let le : length c.args.formulas.now ≤ c.loop-formula.formula-index = omega (arith, c.loop-formula-test.false) in
    judge_end (IsPresent c.args.valuation.now) (drop c.loop-formula.formula-index c.args.formulas.now) c.args.formulas.now (over c.args.formulas.now c.loop-formula.formula-index le) c.loop-formula.invariant
