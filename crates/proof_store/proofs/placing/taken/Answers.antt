use Rattle.std.proofs.Common.{refl, rules, sym, subst}
use Rattle.std.specs.Vec.Iter.{into_iter_items}
use Rattle.proof_store.specs.Places.{Takes, solved}
use Rattle.proof_store.specs.declared.placing.Place.{Place}
use Rattle.proof_store.proofs.placing.taken.Goals as goal

pub returns-in-Open : goal.returns-in-Open
returns-in-Open g c =
    subst (λ (p : Place _). Takes p (solved c.in-Open.line c.unwrap-ob.result c.unwrap-evidence.result) (into_iter_items c.args.obs.now) (into_iter_items c.args.ends.now) (into_iter_items c.next.new.self) (into_iter_items c.next-in-Open.new.self)) (sym c.in-Open.is)
    (c.unwrap-ob.result, c.unwrap-evidence.result, refl, search rules, search rules)
