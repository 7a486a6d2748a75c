-- Words that follow from each other as the values of nodes do are these values.
use Rattle.std.proofs.Common.{◌≡◌, ℕ, zero, suc, ◌<◌, List, [], ◌∷◌, get_or, length, refl, sym, ◌∙◌, arith}
use Rattle.word_core.specs.Words.{Bits}
use Rattle.word_dag.specs.declared.node.Node.{Node}
use Rattle.word_dag.specs.declared.node.Node.TheVariants.{Const}
use Rattle.word_dag.specs.Adding.{IsAt}
use Rattle.word_dag.specs.Nodes.{FitFrom, Naming, dag_values, named, node_value, word_at}
use Rattle.word_dag.specs.Walks.{operands, Each}
use Rattle.word_dag.proofs.NodeValues.{Each-map, operands_at}
use Rattle.word_dag.proofs.Valued.{value_there}

get_again : (ns : List Node) (i : ℕ) (d : Node) → i < length ns → get_or ns i d ≡ get_or ns i (get_or ns i d)
get_again [] i d lt = absurd (omega arith)
get_again (n ∷ ns) zero d lt = refl
get_again (n ∷ ns) (suc i) d lt = get_again ns i d (omega arith)

module _ (f : Naming) (ns : List Node) (fit : FitFrom [] ns) (vs : List Bits) (place : ℕ → ℕ) where
  -- the word at a node's place is the node's value
  abbrev pub IsPlacedWell : ℕ → Type 0
  IsPlacedWell j = word_at vs (place j) ≡ word_at (dag_values f [] ns) j

  -- where that is so of a node's operands, the word at its place is its value
  abbrev pub FollowsAt : ℕ → Node → Type 0
  FollowsAt j n = Each IsPlacedWell (operands n) → word_at vs (place j) ≡ node_value (named f n) (dag_values f [] ns) n

  below : ((j : ℕ) (n : Node) → IsAt ns j n → FollowsAt j n) → (bound j : ℕ) → j < bound → j < length ns → IsPlacedWell j
  below follows zero j lt in' = absurd (omega arith)
  below follows (suc bound) j lt in' =
      let n = get_or ns j (Const (record { width = 0; value = 0 })) in
      let there : n ≡ get_or ns j n = get_again ns j _ in' in
      let before = Each-map (λ a. a < j) IsPlacedWell (operands n) (λ a less. below follows bound a (omega (arith, lt, less)) (omega (arith, less, in'))) (operands_at ns j n fit in' there) in
      follows j n (in', there) before ∙ sym (value_there f ns j n fit (in', there))

  pub placed_well : ((j : ℕ) (n : Node) → IsAt ns j n → FollowsAt j n) → (j : ℕ) → j < length ns → IsPlacedWell j
  placed_well follows j in' = below follows (suc j) j (omega arith) in'
