use Rattle.std.specs.Iterator.Adapters.{zip_first, zip_second}
use Rattle.std.specs.Vec.Iter.{into_iter_items}
use Rattle.proof_store.specs.Places.{places_of}
use Rattle.proof_store.proofs.Finding.{PlaceLoop}
use Rattle.proof_store.proofs.placing.place_each.Given as goal

-- the places so far
abbrev pub invariant-loop-goal : goal.invariant-loop-goal
invariant-loop-goal g l = record {
  can_next : (goal.iterator-loop-goal g).can_next l.goal-iterator;
  is_finite : (goal.iterator-loop-goal g).is_finite l.goal-iterator;
  placed : PlaceLoop (places_of l.fn.goals.items l.fn.found.items) l.fn.goals.items l.places.items l.rest.items (into_iter_items (zip_first l.goal-iterator)) (into_iter_items (zip_second l.goal-iterator));
}
