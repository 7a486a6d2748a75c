use Rattle.std.proofs.Common.{◌∙◌}
use Rattle.path_machine.proofs.Walking.{largest_step}
use Rattle.path_machine.proofs.path.largest_window.Goals as goal

pub loop-property-preserved : goal.loop-property-preserved
loop-property-preserved c =
    largest_step c.as_slice-property-items.result.now c.loop-property.property-index c.loop-property.largest c.max-largest.result c.property-item.result c.loop-property-test.true c.property-item.is c.max-largest.ensures ∙ c.loop-property.invariant
