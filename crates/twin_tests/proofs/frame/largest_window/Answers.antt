use Rattle.std.proofs.Common.{◌<◌, length, arith}
use Rattle.twin_tests.proofs.Framed.{largest_step}
use Rattle.twin_tests.proofs.frame.largest_window.Goals as goal

pub loop-property-preserved : goal.loop-property-preserved
loop-property-preserved c =
    let i = c.loop-property.property-index in
    let items = c.as_slice-property-items.result.now in
    let lt : i < length items = omega arith in
    largest_step c.args.set.now items i c.loop-property.largest c.max-largest.result c.property-item.result c.requires c.as_slice-property-items.ensures c.property-item.is lt c.max-largest.ensures c.loop-property.invariant
