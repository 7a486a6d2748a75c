use Rattle.std.proofs.Common.{◌≡◌, drop}
use Rattle.std.specs.HashMap.{get}
use Rattle.std.specs.Prelude.{unwrap_or}
use Rattle.word_dag.specs.Names.{naming_from}
use Rattle.replay.specs.declared.values.Word.{Word}
use Rattle.replay.specs.Values.{same_word}
use Rattle.replay.proofs.values.values_of.Given as goal

abbrev pub invariant-loop-node : goal.invariant-loop-node
invariant-loop-node l =
    (q : Word) → unwrap_or (get same_word l.words q) (naming_from (drop l.node-index l.nodes) l.left q.name.now q.side q.cycle) ≡ naming_from l.nodes l.fn.values q.name.now q.side q.cycle
