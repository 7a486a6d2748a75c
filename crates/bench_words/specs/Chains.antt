-- Chains of words.
use Rattle.std.specs.Prelude.{◌≡◌, ℕ, ◌<◌, List, length, map, slice_index}
use Rattle.word_dag.specs.declared.node.Node.{Node}
use Rattle.word_dag.specs.Nodes.{width_of}

-- the node is one of the dag's, of 64 bits
pub record EndsIn (nodes : List Node) (last : ℕ) : Type 0 where
  pub within : last < length nodes
  pub wide : slice_index (map width_of nodes) last ≡ 64
