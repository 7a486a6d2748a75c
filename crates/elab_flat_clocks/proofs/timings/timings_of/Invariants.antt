use Rattle.std.proofs.Common.{◌≡◌, ◌++◌, List, drop, map}
use Rattle.elab_flat_instances.specs.Unfolding.{scope_meant}
use Rattle.elab_flat_clocks.specs.Driving.{Timed, timed_meant, AreTimingsOf}
use Rattle.elab_flat_clocks.proofs.timings.timings_of.Given as goal

abbrev pub invariant-loop-scope : goal.invariant-loop-scope
invariant-loop-scope l = record {
  place : l.at ≡ l.scope-index;
  made : (rest : List Timed) → AreTimingsOf (map scope_meant (drop l.scope-index l.scopes)) (drop l.scope-index l.tables) rest → AreTimingsOf (map scope_meant l.scopes) l.tables (map timed_meant l.all.items ++ rest);
}
