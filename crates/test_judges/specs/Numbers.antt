-- The numbers of leaves, compared with values.
use Rattle.std.specs.Prelude.{ℕ, ◌^◌, ◌<◌, Bool, true, ◌&&◌, List, [], ◌∷◌, bit_and, nat_eq}
use Rattle.word_dag.specs.Nodes.{Naming}
use Rattle.elab_step_expr.specs.declared.leaves.Leaf.{Leaf}

-- every free word has the value 0; nodes of constants have their numbers under any naming
abbrev pub nought : Naming
nought x side cycle = 0

-- two numbers have the same bits under a mask
abbrev pub same_within : ℕ → ℕ → ℕ → Bool
same_within mask x y = nat_eq (bit_and x mask) (bit_and y mask)

-- the number of each leaf's node is its value, as far as its mask tells
abbrev pub leaves_same : (ℕ → ℕ) → List ℕ → List Leaf → List ℕ → Bool
leaves_same number [] ls vs = true
leaves_same number (m ∷ ms) [] vs = true
leaves_same number (m ∷ ms) (l ∷ ls) [] = true
leaves_same number (m ∷ ms) (l ∷ ls) (v ∷ vs) = same_within m (number l.node) v && leaves_same number ms ls vs

-- one number for each leaf, of its length
abbrev pub AreBelow : List Leaf → List ℕ → Type 0
AreBelow [] [] = Unit {0}
AreBelow [] (v ∷ vs) = ⊥
AreBelow (l ∷ ls) [] = ⊥
AreBelow (l ∷ ls) (v ∷ vs) = (v < 2 ^ l.width) × AreBelow ls vs
