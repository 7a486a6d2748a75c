use Rattle.std.proofs.Common.{◌≡◌, map, take}
use Rattle.word_dag.specs.Nodes.{Naming}
use Rattle.twin_tests_laws.specs.Windows.{named_value}
use Rattle.replay.specs.Values.{AreOf}
use Rattle.replay.proofs.window.row_of.Given as goal

abbrev pub invariant-loop-name : goal.invariant-loop-name
invariant-loop-name l = (e : Naming) → AreOf e l.values → l.row ≡ map (named_value e l.side l.cycle) (take l.name-index l.names)
