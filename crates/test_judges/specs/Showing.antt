-- Leaves of constants, one for each signal.
use Rattle.std.specs.Prelude.{ℕ, ◌≡◌, List, [], ◌∷◌}
use Rattle.vlog_tree.specs.Valuation.{IsLength}
use Rattle.vlog_tree_runs.specs.declared.flat.Signal.{Signal}
use Rattle.word_dag.specs.declared.node.Node.{Node}
use Rattle.word_dag.specs.Nodes.{Naming}
use Rattle.elab_step_expr.specs.declared.leaves.Leaf.{Leaf}
use Rattle.elab_step_expr.specs.Nodes.{IsNode, number_at}
use Rattle.elab_step_blocks.specs.Standing.{IsLeafOf}

-- a leaf of a signal whose node has a number, whatever the free words are
pub record IsHeld (ns : List Node) (g : Signal) (l : Leaf) (v : ℕ) : Type 0 where
  pub leaf : IsLeafOf g l
  pub long : IsLength l.width
  pub node : IsNode ns l.node l.width
  pub number : (e : Naming) → number_at e ns l.node ≡ v

-- one for each signal, with its value
abbrev pub AreHeld : List Node → List Signal → List Leaf → List ℕ → Type 0
AreHeld ns [] [] [] = Unit {0}
AreHeld ns [] [] (v ∷ vs) = ⊥
AreHeld ns [] (l ∷ ls) vs = ⊥
AreHeld ns (g ∷ gs) [] vs = ⊥
AreHeld ns (g ∷ gs) (l ∷ ls) [] = ⊥
AreHeld ns (g ∷ gs) (l ∷ ls) (v ∷ vs) = IsHeld ns g l v × AreHeld ns gs ls vs
