use Rattle.replay.proofs.Cycling.{WordsLoop}
use Rattle.replay.proofs.cycle.words_at.Given as goal

-- the words of the nodes so far
abbrev pub invariant-loop-node : goal.invariant-loop-node
invariant-loop-node g l = WordsLoop l.bound.design l.bound.set l.position.resets l.position.at (g.S.Source.gives l.source) l.node-index l.words.items
