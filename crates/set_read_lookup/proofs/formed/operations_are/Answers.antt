use Rattle.std.proofs.Common.{◌+◌, ◌≤◌, drop, length, ap, arith}
use Rattle.std.specs.List.{flat_map}
use Rattle.set_read_lookup.specs.Formed.{formulas_of}
use Rattle.set_read_lookup.specs.Tests.{IsPresent}
use Rattle.set_read_lookup.proofs.Judged.{judge_step, judge_stop, judge_end, cut, over}
use Rattle.set_read_lookup.proofs.formed.operations_are.Goals as goal

pub returns-then-not-branch : goal.returns-then-not-branch
returns-then-not-branch c =
    let P = IsPresent c.args.valuation.now in
    judge_stop P (flat_map formulas_of (drop c.loop-operation.operation-index c.args.operations.now)) (formulas_of c.operation-item.result) (flat_map formulas_of (drop (c.loop-operation.operation-index + 1) c.args.operations.now)) (flat_map formulas_of c.args.operations.now) c.in_ok-property_is.field-0 (ap (flat_map formulas_of) (cut c.args.operations.now c.loop-operation.operation-index c.operation-item.result c.loop-operation-test.true (c.operation-item.is))) c.loop-operation.invariant c.if-not-branch.true
    c.in_ok-property_is.ensures

pub loop-operation-preserved : goal.loop-operation-preserved
loop-operation-preserved c =
    let P = IsPresent c.args.valuation.now in
    judge_step P (flat_map formulas_of (drop c.loop-operation.operation-index c.args.operations.now)) (formulas_of c.operation-item.result) (flat_map formulas_of (drop (c.loop-operation.operation-index + 1) c.args.operations.now)) (flat_map formulas_of c.args.operations.now) c.in_ok-property_is.field-0 (ap (flat_map formulas_of) (cut c.args.operations.now c.loop-operation.operation-index c.operation-item.result c.loop-operation-test.true (c.operation-item.is))) c.loop-operation.invariant c.if-not-branch.false
    c.in_ok-property_is.ensures

pub returns : goal.returns
returns c =
    let le : length c.args.operations.now ≤ c.loop-operation.operation-index = omega (arith, c.loop-operation-test.false) in
    judge_end (IsPresent c.args.valuation.now) (flat_map formulas_of (drop c.loop-operation.operation-index c.args.operations.now)) (flat_map formulas_of c.args.operations.now) (ap (flat_map formulas_of) (over c.args.operations.now c.loop-operation.operation-index le)) c.loop-operation.invariant
