use Rattle.std.proofs.Common.{◌≡◌, Some, sym, ap, ◌∙◌}
use Rattle.set_read_lookup.specs.Meaning.{successor_of}
use Rattle.set_read_lookup.proofs.Each.{each_more}
use Rattle.set_read_lookup.proofs.looked.next_of.Goals as goal

pub loop-name-preserved : goal.loop-name-preserved
loop-name-preserved c =
    let f = successor_of c.args.operations.now in
    let e : f c.name-item.result ≡ Some c.in-Some.next = ap f (sym c.bytes.ensures) ∙ (sym c.successor_of.ensures ∙ c.in-Some.is) in
    each_more f c.args.names.now c.loop-name.name-index c.loop-name.list.items c.name-item.result c.in-Some.next c.push.new.self.items
    c.loop-name-test.true c.name-item.is e c.in_ok-push-in-Some.ensures.items c.loop-name.invariant
