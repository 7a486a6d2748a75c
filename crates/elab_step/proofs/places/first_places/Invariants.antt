use Rattle.std.proofs.Common.{◌≡◌, ◌++◌, map, drop}
use Rattle.elab_step.specs.Placing.{first_place}
use Rattle.elab_step.proofs.places.first_places.Given as goal

abbrev pub invariant-loop-list : goal.invariant-loop-list
invariant-loop-list l = l.firsts.items ++ map first_place (drop l.list-index l.lists) ≡ map first_place l.lists
