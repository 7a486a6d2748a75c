use Rattle.std.proofs.Common.{◌<◌, ◌≤◌, length, arith}
use Rattle.meet_lines.proofs.Largest.{exact_end, exact_start, exact_step}
use Rattle.meet_lines.proofs.segments.largest_window.Goals as goal

pub loop-property-init : goal.loop-property-init
loop-property-init c = exact_start c.args.set.now c.as_slice-property-items.result.now c.requires

pub loop-property-preserved : goal.loop-property-preserved
loop-property-preserved c =
    let i = c.loop-property.property-index in
    let items = c.as_slice-property-items.result.now in
    let lt : i < length items = omega arith in
    exact_step c.args.set.now items i c.loop-property.largest c.max-largest.result c.property-item.result c.requires c.as_slice-property-items.ensures c.property-item.is lt c.max-largest.ensures c.loop-property.invariant

pub returns-clause-largest : goal.returns-clause-largest
returns-clause-largest c =
    let i = c.loop-property.property-index in
    let items = c.as_slice-property-items.result.now in
    let past : length items ≤ i = omega arith in
    exact_end c.args.set.now items i c.loop-property.largest c.as_slice-property-items.ensures past c.loop-property.invariant

pub returns-clause-small : goal.returns-clause-small
returns-clause-small c = c.loop-property.invariant.bound.0
