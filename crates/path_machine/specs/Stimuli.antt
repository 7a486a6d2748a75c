-- Rows of inputs as values of words.
use Rattle.std.specs.Prelude.{◌≡◌, ℕ, ℤ, pos, negsuc, ◌+ℤ◌, List, [], ◌∷◌, slice_index_or, if◌then◌else◌}
use Rattle.std.specs.Str.{bytes_eq}
use Rattle.set_tree.specs.declared.set.Name.{Name}
use Rattle.set_tree.specs.Meaning.{Row}
use Rattle.vlog_tree_runs.specs.Places.{Name as Text}
use Rattle.word_dag.specs.Nodes.{Naming}

abbrev pub name_of : Name → Text
name_of input = input.name

-- the value that a row of the inputs of these names gives to a name, and 0 for any other
abbrev pub given_by : List Text → Row → Text → ℕ
given_by [] row x = 0
given_by (name ∷ names) [] x = 0
given_by (name ∷ names) (u ∷ row) x = if bytes_eq name x then u else given_by names row x

abbrev pub row_at : List Row → ℕ → Row
row_at rows i = slice_index_or rows i []

-- what stands at a place, and 0 before the first
abbrev pub placed : (ℕ → ℕ) → ℤ → ℕ
placed f (pos i) = f i
placed f (negsuc i) = 0

-- the values that rows give in the cycles, k of which are reset cycles before cycle 0
abbrev pub stimulus : List Text → ℕ → List Row → Naming
stimulus names k rows x side t = placed (λ i. given_by names (row_at rows i) x) (t +ℤ pos k)

-- the naming has these values
abbrev pub IsGivenBy : List Text → ℕ → List Row → Naming → Type 0
IsGivenBy names k rows e = (x : Text) (t : ℤ) → e x 0 t ≡ stimulus names k rows x 0 t
