use Rattle.std.proofs.Common.{◌≡◌}
use Rattle.word_dag.specs.Nodes.{Naming}
use Rattle.twin_tests_laws.specs.Windows.{rows_from}
use Rattle.replay.specs.Values.{AreOf}
use Rattle.replay.proofs.window.rows_of.Given as goal

abbrev pub invariant-loop-cycle : goal.invariant-loop-cycle
invariant-loop-cycle l = (e : Naming) → AreOf e l.values → l.rows ≡ rows_from l.names e l.side 0 l.cycle
