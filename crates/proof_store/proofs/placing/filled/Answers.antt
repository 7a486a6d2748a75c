use Rattle.std.proofs.Common.{rules}
use Rattle.std.specs.Vec.Iter.{into_iter_items}
use Rattle.proof_store.proofs.Placed.{all_filled, fill_more}
use Rattle.proof_store.proofs.placing.filled.Goals as goal

pub loop-place-preserved : goal.loop-place-preserved
loop-place-preserved g c =
    fill_more c.loop-place.all.items c.push.new.self.items (into_iter_items c.loop-place.place-iterator) (into_iter_items c.next.new.self) c.in-Some.place (into_iter_items c.loop-place.obs) (into_iter_items c.taken-one.new.obs) (into_iter_items c.loop-place.ends) (into_iter_items c.taken-one.new.ends) _
    c.taken-one.result c.loop-place.invariant (search rules) c.taken-one.ensures c.in_ok-push.ensures.items

pub returns : goal.returns
returns g c = all_filled c.loop-place.all.items (into_iter_items c.loop-place.place-iterator) (into_iter_items c.loop-place.obs) (into_iter_items c.loop-place.ends) _ c.loop-place.invariant (search rules)
