use Rattle.std.proofs.Common.{◌≡◌, ◌++◌}
use Rattle.std.specs.Iterator.Adapters.{zip_first, zip_second}
use Rattle.std.specs.Vec.Iter.{into_iter_items}
use Rattle.proof_store.specs.Places.{found_each}
use Rattle.proof_store.proofs.placing.found_each.Given as goal

-- the obligations so far
abbrev pub invariant-loop-one : goal.invariant-loop-one
invariant-loop-one l = record {
  can_next : goal.iterator-loop-one.can_next l.one-iterator;
  is_finite : goal.iterator-loop-one.is_finite l.one-iterator;
  are : l.found.items ++ found_each (into_iter_items (zip_first l.one-iterator)) (into_iter_items (zip_second l.one-iterator)) ≡ found_each l.fn.obs.items l.fn.helped.items;
}
