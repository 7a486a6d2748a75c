use Rattle.std.proofs.Common.{◌≡◌, Some, sym, ◌∙◌}
use Rattle.set_read_lookup.specs.Meaning.{looked_of}
use Rattle.set_read_lookup.proofs.Each.{each_more}
use Rattle.set_read_lookup.proofs.looked.all_looked.Goals as goal

pub loop-property-preserved : goal.loop-property-preserved
loop-property-preserved c =
    let f = looked_of c.args.declarations.now c.args.operations.now in
    let e : f c.property-item.result ≡ Some c.in-Some.looked = sym c.in_ok-looked.ensures ∙ c.in-Some.is in
    each_more f c.args.operations.now c.loop-property.property-index c.loop-property.list.items c.property-item.result c.in-Some.looked c.push.new.self.items
    c.loop-property-test.true c.property-item.is e c.in_ok-push-in-Some.ensures.items c.loop-property.invariant
