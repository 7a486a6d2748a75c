use Rattle.std.proofs.Common.{◌≡◌, ◌-◌, ◌<◌, List, get_or, sym, ap, ◌∙◌, arith}
use Rattle.set_tree.specs.declared.set.Property.{Property}
use Rattle.twin_tests.proofs.Readings.{property_later}
use Rattle.twin_tests.proofs.property.property_of.Goals as goal

pub returns : goal.returns
returns c =
    let x = c.index-operations-at.result in
    let some : 0 < c.args.at = omega (arith, c.if-at-eq0.false) in
    let is : x ≡ get_or c.args.set.now.operations (c.args.at - 1) x = c.index-operations-at.is ∙ ap (λ (ps : List Property). get_or ps (c.args.at - 1) x) c.as_slice-operations.ensures in
    sym (property_later c.args.set.now c.args.at x some c.requires is)
