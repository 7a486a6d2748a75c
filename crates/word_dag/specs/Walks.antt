-- Obligations taken out of a dag: which operands a node has, and what it is with other numbers.
use Rattle.std.specs.Prelude.{◌≡◌, ℕ, ◌-◌, ◌==◌, List, [], ◌∷◌, slice_index, Option, find}
use Rattle.word_dag.specs.declared.node.Node.{Node}
use Rattle.word_dag.specs.declared.node.Node.TheVariants.{Free, Const, Two, Not, Slice, Zext, Sext, Mux}
use Rattle.word_dag.specs.Nodes.{Naming, dag_values, word_at}

-- the operands, from left to right
abbrev pub operands : Node → List ℕ
operands (Free name width side cycle) = []
operands (Const w) = []
operands (Two op width a b) = a ∷ b ∷ []
operands (Not width a) = a ∷ []
operands (Slice width a lo) = a ∷ []
operands (Zext width a) = a ∷ []
operands (Sext width a) = a ∷ []
operands (Mux width c a b) = c ∷ a ∷ b ∷ []

-- a fact of each number of a list
abbrev pub Each : (ℕ → Type 0) → List ℕ → Type 0
Each P [] = Unit {0}
Each P (x ∷ xs) = P x × Each P xs

-- the node with its operands under other numbers
abbrev pub renumbered : (ℕ → ℕ) → Node → Node
renumbered f (Free name width side cycle) = Free name width side cycle
renumbered f (Const w) = Const w
renumbered f (Two op width a b) = Two op width (f a) (f b)
renumbered f (Not width a) = Not width (f a)
renumbered f (Slice width a lo) = Slice width (f a) lo
renumbered f (Zext width a) = Zext width (f a)
renumbered f (Sext width a) = Sext width (f a)
renumbered f (Mux width c a b) = Mux width (f c) (f a) (f b)

-- a place is kept as one more than the new number; 0 is none
abbrev pub place_of : List ℕ → ℕ → ℕ
place_of places i = slice_index places i - 1

-- the first operand that has no place
abbrev pub first_open : List ℕ → List ℕ → Option ℕ
first_open places xs = find (λ a. slice_index places a == 0) xs

-- the root means the same in both, whatever the words are called
abbrev pub MeansSame : List Node → ℕ → List Node → ℕ → Type 0
MeansSame dag root nodes root' = (e : Naming) → word_at (dag_values e [] nodes) root' ≡ word_at (dag_values e [] dag) root
