-- The windows that values of free words name. A set line speaks of one or two windows; each of their entries is a free word, which goes by
-- the declared name, the side and the cycle. Side 0 is the first window and side 1 the second.
use Rattle.std.specs.Prelude.{◌≢◌, ℕ, zero, suc, ◌+◌, ◌^◌, ◌%◌, pos, List, [], ◌∷◌, map}
use Rattle.std.specs.List.{AllPairs}
use Rattle.set_tree.specs.declared.set.Set.{Set}
use Rattle.set_tree.specs.declared.set.Name.{Name}
use Rattle.set_tree.specs.declared.set.Role.{Role}
use Rattle.set_tree.specs.declared.set.Role.TheVariants.{Input, Output, State}
use Rattle.set_tree.specs.Meaning.{Row}
use Rattle.word_dag.specs.Nodes.{Naming}

-- the side of a name's free words: inputs have side 0 in both windows, so that both have the same inputs
abbrev pub side_of : Role → ℕ → ℕ
side_of Input side = 0
side_of Output side = side
side_of State side = side

-- the value of a name at a cycle of one side, cut to the name's width
abbrev pub named_value : Naming → ℕ → ℕ → Name → ℕ
named_value e side t name = e name.name (side_of name.role side) (pos t) % 2 ^ name.width

-- k rows from cycle t on
abbrev pub rows_from : List Name → Naming → ℕ → ℕ → ℕ → List Row
rows_from names e side t zero = []
rows_from names e side t (suc k) = map (named_value e side t) names ∷ rows_from names e side (suc t) k

-- the rows of cycles 0 to end
abbrev pub named_rows : Set → Naming → ℕ → ℕ → List Row
named_rows set e side end = rows_from set.names e side 0 (end + 1)

-- no name is declared twice
abbrev pub HasDistinctNames : Set → Type 0
HasDistinctNames set = AllPairs (λ x y. x ≢ y) (map (λ (n : Name). n.name) set.names)
