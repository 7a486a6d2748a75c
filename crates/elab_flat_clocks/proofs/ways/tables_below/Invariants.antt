use Rattle.std.proofs.Common.{◌≡◌, take, map}
use Rattle.elab_flat_scopes.specs.Borrowed.{inner_meant}
use Rattle.elab_flat_instances.specs.Unfolding.{scope_meant}
use Rattle.elab_flat_clocks.specs.Tabled.{AreTablesBelow}
use Rattle.elab_flat_clocks.proofs.ways.tables_below.Given as goal

abbrev pub invariant-loop-inner : goal.invariant-loop-inner
invariant-loop-inner l = record {
  place : l.at ≡ l.inner-index;
  made : AreTablesBelow l.outer (map inner_meant (take l.inner-index l.instances)) (map scope_meant (take l.inner-index l.scopes)) l.all.items;
}
