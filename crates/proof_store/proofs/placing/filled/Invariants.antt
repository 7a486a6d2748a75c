use Rattle.std.specs.Vec.Iter.{into_iter_items}
use Rattle.proof_store.specs.Places.{filled}
use Rattle.proof_store.proofs.Placed.{Filling}
use Rattle.proof_store.proofs.placing.filled.Given as goal

-- the places so far
abbrev pub invariant-loop-place : goal.invariant-loop-place
invariant-loop-place g l = Filling l.all.items (into_iter_items l.place-iterator) (into_iter_items l.obs) (into_iter_items l.ends) (filled l.fn.placed.places.items l.fn.placed.rest.items l.fn.ends.items)
