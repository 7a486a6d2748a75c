use Rattle.std.proofs.Common.{◌≡◌, ◌++◌, drop, map}
use Rattle.elab_flat_scopes.specs.Borrowed.{name_meant}
use Rattle.elab_flat_clocks.specs.Clocking.{async_at}
use Rattle.elab_flat_clocks.proofs.asyncs.add_asyncs.Given as goal

abbrev pub invariant-loop-name : goal.invariant-loop-name
invariant-loop-name l = l.all ++ map (async_at l.high) (map name_meant (drop l.name-index l.names)) ≡ l.initial.all ++ map (async_at l.high) (map name_meant l.names)
