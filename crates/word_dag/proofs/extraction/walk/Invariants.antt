use Rattle.std.proofs.Common.{◌+◌, ◌*◌, length}
use Rattle.word_dag.proofs.Walking.{Walk, Small, opens, top_of}
use Rattle.word_dag.proofs.Tracing.{Ordered}
use Rattle.word_dag.proofs.Sources.{Sourced}
use Rattle.word_dag.proofs.extraction.walk.Given as goal

abbrev pub invariant-loop-top : goal.invariant-loop-top
invariant-loop-top l = Walk l.dag l.nodes.items l.places.items l.stack.items l.root × Ordered l.dag l.nodes.items l.places.items l.stack.items l.root × Small l.nodes.items × Sourced l.dag l.nodes.items l.places.items

-- each turn places a node or goes to one of a smaller number
abbrev pub decreases-loop-top : goal.decreases-loop-top
decreases-loop-top l = opens l.places.items * (length l.dag + 1) + top_of l.stack.items
