use Rattle.std.proofs.Common.{◌≡◌, map, take}
use Rattle.word_dag.specs.Nodes.{word_at}
use Rattle.replay.proofs.segment.row_of.Given as goal

abbrev pub invariant-loop-place : goal.invariant-loop-place
invariant-loop-place l = l.row ≡ map (λ place. (word_at l.words place).value) (take l.place-index l.places)
