-- Sets of places, and tables of what paths do.
use Rattle.std.specs.Prelude.{ℕ, ◌≡◌, ◌⊎◌, Bool, true, false, not, nat_eq, List, length, ◌++◌, slice_index, slice_index_or}
use Rattle.std.specs.Int.{bit_at}
use Rattle.vlog_tree_runs.specs.Places.{Among}
use Rattle.elab_flat_graphs.specs.Graphs.{graph_of, successors}
use Rattle.elab_step_flow.specs.declared.flow.BlockFlow.{BlockFlow}

-- what a table of truth values has at a place
abbrev pub at : List Bool → ℕ → Bool
at bs i = slice_index_or bs i false

-- a place is in a set
abbrev pub Has : List Bool → ℕ → Type 0
Has bs i = at bs i ≡ true

-- bit b of the word at place i is 1
abbrev pub HasBit : (ℕ → ℕ) → ℕ → ℕ → Type 0
HasBit words i b = bit_at (words i) b ≡ 1

-- some bit of a word is 1
abbrev pub is_open : ℕ → Bool
is_open word = not (nat_eq word 0)

-- what some path does, by the places of signals: for each a 1 for each bit that it leaves unset, and the places that assignments to it depend on;
-- and the places that are read before all of them is set
pub record Tables : Type 0 where
  pub unset : ℕ → ℕ
  pub through : ℕ → List ℕ
  pub outside : List ℕ

abbrev pub tables : BlockFlow → Tables
tables f = record { unset = λ i. slice_index f.unset.items i; through = λ i. successors (graph_of f.through.items) i; outside = f.outside.items }

-- one of the places that are read counts as z: by itself, where it isn't all set, or by what assignments to it depend on
abbrev pub CountsIn : List ℕ → Tables → ℕ → Type 0
CountsIn read s z = (y : ℕ) × Among read y × (((z ≡ y) × (is_open (s.unset y) ≡ true)) ⊎ Among (s.through y) z)

-- a flow has words and rows for n signals
pub record IsSized (n : ℕ) (f : BlockFlow) : Type 0 where
  pub unset : length f.unset.items ≡ n
  pub through : length f.through.items ≡ n

-- of some flows one is so
abbrev pub AnyOf : List Tables → (Tables → Type 0) → Type 0
AnyOf us P = (u : Tables) × Among us u × P u

-- t is s but at the places that are so, and some more places are read there before all of them is set
pub record ChangesAt (P : ℕ → Type 0) (s t : Tables) : Type 0 where
  pub unset : (i : ℕ) → (P i → ⊥) → t.unset i ≡ s.unset i
  pub through : (i : ℕ) → (P i → ⊥) → t.through i ≡ s.through i
  pub outside : (more : List ℕ) × (t.outside ≡ s.outside ++ more)
