use Rattle.std.proofs.Common.{◌+◌, ◌≤◌, drop, length, ap, arith}
use Rattle.std.specs.List.{flat_map}
use Rattle.std.specs.Option.{option_to_list}
use Rattle.set_read_lookup.specs.Tests.{IsPresent}
use Rattle.set_read_lookup.proofs.Judged.{judge_step, judge_stop, judge_end, cut, over}
use Rattle.set_read_lookup.proofs.formed.domains_are.Goals as goal

pub returns-then-not-branch : goal.returns-then-not-branch
returns-then-not-branch c =
    let P = IsPresent c.args.valuation.now in
    judge_stop P (flat_map (λ d. option_to_list d.domain) (drop c.loop-declaration.declaration-index c.args.declarations.now)) (option_to_list c.declaration-item.result.domain) (flat_map (λ d. option_to_list d.domain) (drop (c.loop-declaration.declaration-index + 1) c.args.declarations.now)) (flat_map (λ d. option_to_list d.domain) c.args.declarations.now) c.in_ok-option_is.field-0 (ap (flat_map (λ d. option_to_list d.domain)) (cut c.args.declarations.now c.loop-declaration.declaration-index c.declaration-item.result c.loop-declaration-test.true (c.declaration-item.is))) c.loop-declaration.invariant c.if-not-branch.true
    c.in_ok-option_is.ensures

pub loop-declaration-preserved : goal.loop-declaration-preserved
loop-declaration-preserved c =
    let P = IsPresent c.args.valuation.now in
    judge_step P (flat_map (λ d. option_to_list d.domain) (drop c.loop-declaration.declaration-index c.args.declarations.now)) (option_to_list c.declaration-item.result.domain) (flat_map (λ d. option_to_list d.domain) (drop (c.loop-declaration.declaration-index + 1) c.args.declarations.now)) (flat_map (λ d. option_to_list d.domain) c.args.declarations.now) c.in_ok-option_is.field-0 (ap (flat_map (λ d. option_to_list d.domain)) (cut c.args.declarations.now c.loop-declaration.declaration-index c.declaration-item.result c.loop-declaration-test.true (c.declaration-item.is))) c.loop-declaration.invariant c.if-not-branch.false
    c.in_ok-option_is.ensures

pub returns : goal.returns
returns c =
    let le : length c.args.declarations.now ≤ c.loop-declaration.declaration-index = omega (arith, c.loop-declaration-test.false) in
    judge_end (IsPresent c.args.valuation.now) (flat_map (λ d. option_to_list d.domain) (drop c.loop-declaration.declaration-index c.args.declarations.now)) (flat_map (λ d. option_to_list d.domain) c.args.declarations.now) (ap (flat_map (λ d. option_to_list d.domain)) (over c.args.declarations.now c.loop-declaration.declaration-index le)) c.loop-declaration.invariant
