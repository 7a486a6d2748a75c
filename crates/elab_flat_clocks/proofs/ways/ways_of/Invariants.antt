use Rattle.std.proofs.Common.{◌≡◌, ◌≤◌, ◌-◌, List, length, map, take, drop}
use Rattle.vlog_tree.specs.declared.module.Module.{Module}
use Rattle.vlog_tree_runs.specs.Places.{Name}
use Rattle.elab_flat_instances.specs.Unfolding.{scope_meant, AreUnfolded}
use Rattle.elab_flat_clocks.specs.Passing.{exprs_meant, AreKept}
use Rattle.elab_flat_clocks.specs.Tabled.{AreTables}
use Rattle.elab_flat_clocks.proofs.Paths.{known}
use Rattle.elab_flat_clocks.proofs.ways.ways_of.Given as goal

abbrev pub invariant-loop-at : goal.invariant-loop-at
invariant-loop-at l = record {
  within : l.at ≤ length l.scopes;
  behind : (ms : List Module) (top : Name) (u : AreUnfolded ms top (map scope_meant l.scopes)) → l.at ≤ length (known ms top u.paths l.at);
  left : (ms : List Module) (top : Name) (u : AreUnfolded ms top (map scope_meant l.scopes)) → l.rest ≡ drop (length (known ms top u.paths l.at)) l.scopes;
  tables : (ms : List Module) (top : Name) (u : AreUnfolded ms top (map scope_meant l.scopes)) → AreTables ms top (known ms top u.paths l.at) l.tables.items;
  connections : (ms : List Module) (top : Name) (u : AreUnfolded ms top (map scope_meant l.scopes)) → AreKept ms (take l.at (map scope_meant l.scopes)) (map exprs_meant l.kept.items);
}

abbrev pub decreases-loop-at : goal.decreases-loop-at
decreases-loop-at l = length l.scopes - l.at
