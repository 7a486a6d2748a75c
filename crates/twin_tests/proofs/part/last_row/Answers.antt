use Rattle.std.proofs.Common.{◌<◌, get_or, length, ap, arith}
use Rattle.set_tree.specs.declared.set.Property.{Property}
use Rattle.twin_tests.proofs.Framed.{last_step}
use Rattle.twin_tests.proofs.Handing.{get_again}
use Rattle.twin_tests.proofs.part.last_row.Goals as goal

pub loop-property-preserved : goal.loop-property-preserved
loop-property-preserved c =
    let set = c.args.set.now in
    let qs = c.args.properties.now in
    let i = c.loop-property.property-index in
    let lt : i < length qs = omega arith in
    let q = get_or qs i 0 in
    let wide = ap (λ (y : Property). y.window) c.property_of-next.ensures in
    let bound = c.requires.structure.formed.bounds.windows q (c.requires.positions i 0 lt) in (
      last_step set c.args.window c.args.n i c.loop-property.last c.max-last.result c.property_of-next.result.now.window q qs lt (get_again qs i 0 lt) wide c.max-last.ensures c.loop-property.invariant.0,
      omega (arith, c.max-last.ensures, wide, bound, c.loop-property.invariant.1, c.requires.end),
    )
