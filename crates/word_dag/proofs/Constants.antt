-- Constant nodes.
use Rattle.std.proofs.Common.{◌≡◌, ℕ, zero, suc, ◌<◌, List, [], ◌∷◌, length, get_or, refl, arith}
use Rattle.std.specs.Prelude.{slice_index, map}
use Rattle.word_dag.specs.declared.node.Node.{Node}
use Rattle.word_dag.specs.Nodes.{width_of}
use Rattle.word_dag.specs.Adding.{constant_of, constant_at}

pub constant_at-node : (ns : List Node) (i : ℕ) (d : Node) → i < length ns → constant_at ns i ≡ constant_of (get_or ns i d)
constant_at-node [] i d lt = absurd (omega arith)
constant_at-node (n ∷ ns) zero d lt = refl
constant_at-node (n ∷ ns) (suc i) d lt = constant_at-node ns i d (omega arith)

pub widths_at-node : (ns : List Node) (i : ℕ) (d : Node) → i < length ns → slice_index (map width_of ns) i ≡ width_of (get_or ns i d)
widths_at-node [] i d lt = absurd (omega arith)
widths_at-node (n ∷ ns) zero d lt = refl
widths_at-node (n ∷ ns) (suc i) d lt = widths_at-node ns i d (omega arith)

pub ruleset constants = (constant_at-node, widths_at-node)
