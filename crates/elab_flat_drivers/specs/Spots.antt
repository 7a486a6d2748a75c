-- The names of signals.
use Rattle.vlog_tree_runs.specs.declared.flat.Signal.{Signal}
use Rattle.vlog_tree_runs.specs.Places.{Name}

abbrev pub signal_name : Signal → Name
signal_name g = g.name
