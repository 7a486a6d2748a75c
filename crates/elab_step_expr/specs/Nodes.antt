-- What a node of a dag is, whatever values the free words have.
use Rattle.std.specs.Prelude.{ℕ, true, ◌≡◌, ◌<◌, ◌⊎◌, List, [], length, map, slice_index}
use Rattle.word_core.specs.Words.{Bits}
use Rattle.word_dag.specs.declared.node.Node.{Node}
use Rattle.elab_step_expr.specs.declared.nodes.Wire.{Wire}
use Rattle.word_dag.specs.Given.{is_free}
use Rattle.word_dag.specs.Adding.{IsAt}
use Rattle.word_dag.specs.Nodes.{Naming, width_of, word_at, dag_values}

-- the words of a dag's nodes, the free ones having these values
abbrev pub words : Naming → List Node → List Bits
words e ns = dag_values e [] ns

-- the number of a node's word
abbrev pub number_at : Naming → List Node → ℕ → ℕ
number_at e ns i = (word_at (words e ns) i).value

-- i is a node of n bits
abbrev pub IsNode : List Node → ℕ → ℕ → Type 0
IsNode ns i n = (i < length ns) × (slice_index (map width_of ns) i ≡ n)

-- i is a node of n bits, and its number is f of the values of the free words
pub record Makes (ns : List Node) (i n : ℕ) (f : Naming → ℕ) : Type 0 where
  pub within : i < length ns
  pub wide : slice_index (map width_of ns) i ≡ n
  pub word : (e : Naming) → word_at (words e ns) i ≡ record { width = n; value = f e }

-- a node and its length
abbrev pub IsWire : List Node → Wire → Type 0
IsWire ns a = IsNode ns a.node a.width

-- its word
abbrev pub wire_word : Naming → List Node → Wire → Bits
wire_word e ns a = record { width = a.width; value = number_at e ns a.node }

-- each free word is an old one or one of these
abbrev pub AddsFrees : (Node → Type 0) → List Node → List Node → Type 0
AddsFrees p old new = (n : Node) (i : ℕ) → is_free n ≡ true → IsAt new i n → IsAt old i n ⊎ p n
