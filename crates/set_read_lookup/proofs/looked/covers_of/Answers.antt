use Rattle.std.proofs.Common.{◌≡◌, Some, sym, ◌∙◌}
use Rattle.set_read_lookup.specs.Meaning.{cover_of}
use Rattle.set_read_lookup.proofs.Each.{each_more}
use Rattle.set_read_lookup.proofs.looked.covers_of.Goals as goal

pub loop-cover-preserved : goal.loop-cover-preserved
loop-cover-preserved c =
    let f = cover_of c.args.declarations.now in
    let e : f c.cover-item.result ≡ Some c.in-Some.cover = sym c.cover_of.ensures ∙ c.in-Some.is in
    each_more f c.args.covers.now c.loop-cover.cover-index c.loop-cover.list.items c.cover-item.result c.in-Some.cover c.push.new.self.items
    c.loop-cover-test.true c.cover-item.is e c.in_ok-push-in-Some.ensures.items c.loop-cover.invariant
