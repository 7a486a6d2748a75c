-- Clauses can be met exactly where the root can be 1.
use Rattle.std.specs.Prelude.{◌≡◌, ℕ, ◌+◌, ◌*◌, ◌<◌, Bool, true, List, [], ◌∷◌, length}
use Rattle.clause_check.specs.declared.literal.Lit.{Lit}
use Rattle.cnf_build.specs.Circuits.{bit, number}
use Rattle.cnf_build.specs.Gates.{Runs}
use Rattle.word_dag.specs.declared.node.Node.{Node}
use Rattle.word_dag.specs.Nodes.{root_value, FitsOp, op_value}
use Rattle.word_core.specs.Words.{Bits}
use Rattle.word_dag.specs.declared.node.Op.{Op}
use Rattle.cnf_build.specs.Lower.{op_made}

-- the word that literals denote
abbrev pub denoted : (ℕ → Bool) → List Lit → Bits
denoted s ls = record { width = length ls; value = number s ls }

-- the number that an assignment gives to variables, from the lowest bit
abbrev pub read_word : (ℕ → Bool) → List ℕ → ℕ
read_word s [] = 0
read_word s (v ∷ vs) = bit (s v) + 2 * read_word s vs

abbrev pub read_words : (ℕ → Bool) → List (List ℕ) → List ℕ
read_words s [] = []
read_words s (vs ∷ ws) = read_word s vs ∷ read_words s ws

-- the root of the obligation is 1 at these values
abbrev pub RootIs1 : List Node → ℕ → List ℕ → Type 0
RootIs1 nodes root us = (root_value us nodes root).value ≡ 1

-- the circuit of an operation gives the operation's word
abbrev pub OpsDenote : Type 0
OpsDenote = (s : ℕ → Bool) → s 0 ≡ true → (n : ℕ) (op : Op) (w : ℕ) (xs ys : List Lit) → 0 < length xs → FitsOp op w (length xs) (length ys) → Runs s n (op_made n op xs ys).gates → denoted s (op_made n op xs ys).lits ≡ op_value op (denoted s xs) (denoted s ys)
