-- What names stand for, as nodes of a dag.
use Rattle.std.specs.Prelude.{ℕ, zero, suc, ◌&&◌, List, [], ◌∷◌, Option, Some, None, nat_eq, if◌then◌else◌}
use Rattle.std.specs.Str.{bytes_eq}
use Rattle.vlog_tree.specs.declared.valuation.Entry.{Entry}
use Rattle.vlog_tree.specs.Valuation.{IsLength}
use Rattle.word_core.specs.Words.{Bits}
use Rattle.word_dag.specs.declared.node.Node.{Node}
use Rattle.word_dag.specs.Nodes.{word_at}
use Rattle.elab_step_expr.specs.declared.leaves.Leaf.{Leaf}
use Rattle.elab_step_expr.specs.Nodes.{IsNode}

-- a leaf's name with a value. It is no memory.
abbrev pub entry_of : Leaf → ℕ → Entry
entry_of l x = record { name = l.name; offset = l.offset; width = l.width; low = l.low; signed = l.signed; depth = 0; value = x }

-- the names of leaves as a valuation, with these values
abbrev pub entries : (Leaf → ℕ) → List Leaf → List Entry
entries f [] = []
entries f (l ∷ ls) = entry_of l (f l) ∷ entries f ls

-- each name has the number of its node's word
abbrev pub valued : List Leaf → List Bits → List Entry
valued ls ws = entries (λ l. (word_at ws l.node).value) ls

-- each name has the value 0: this tells lengths, lowest bits and signs
abbrev pub declared : List Leaf → List Entry
declared ls = entries (λ l. 0) ls

-- each leaf has from 1 to 64 bits, and a node of that many
abbrev pub AreReady : List Leaf → List Node → Type 0
AreReady [] ns = Unit {0}
AreReady (l ∷ ls) ns = IsLength l.width × IsNode ns l.node l.width × AreReady ls ns

-- each leaf has from 1 to 64 bits
abbrev pub AreWide : List Leaf → Type 0
AreWide [] = Unit {0}
AreWide (l ∷ ls) = IsLength l.width × AreWide ls

-- the first leaf of a name at an offset
abbrev pub leaf_at : List Leaf → List ℕ → ℕ → Option Leaf
leaf_at [] x j = None
leaf_at (l ∷ ls) x j = if nat_eq l.offset j && bytes_eq l.name x then Some l else leaf_at ls x j

-- the leaves with another node for the one of this number
abbrev pub with_node : List Leaf → ℕ → ℕ → List Leaf
with_node [] i n = []
with_node (l ∷ ls) zero n = record l { node = n } ∷ ls
with_node (l ∷ ls) (suc i) n = l ∷ with_node ls i n
