-- Places by their parts.
use Rattle.std.specs.Prelude.{List}
use Rattle.vlog_tree.specs.declared.valuation.Entry.{Entry}
use Rattle.vlog_tree_runs.specs.declared.flat.Signal.{Signal}
use Rattle.vlog_tree_runs.specs.Places.{Name, Place}

-- a place with these signals
abbrev pub placed : Name → List Signal → List Entry → Place
placed pre gs ps = record { prefix = pre; signals = gs; params = ps }
