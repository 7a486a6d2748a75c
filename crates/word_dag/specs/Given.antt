-- Values that are given to free nodes.
use Rattle.std.specs.Prelude.{◌≡◌, ℕ, suc, ◌^◌, ◌<◌, Bool, true, false, List, [], ◌∷◌, slice_index}
use Rattle.word_core.specs.Words.{Bits}
use Rattle.word_dag.specs.declared.node.Node.{Node}
use Rattle.word_dag.specs.declared.node.Node.TheVariants.{Free, Const, Two, Not, Slice, Zext, Sext, Mux}
use Rattle.word_dag.specs.Nodes.{left_after, Naming, word_at, dag_values, root_value}

abbrev pub widths_of : List Bits → List ℕ
widths_of [] = []
widths_of (w ∷ ws) = w.width ∷ widths_of ws

-- a free node's value fits its width
abbrev pub FitsFree : Node → ℕ → Type 0
FitsFree (Free name width side cycle) u = u < 2 ^ width
FitsFree (Const w) u = Unit {0}
FitsFree (Two op width a b) u = Unit {0}
FitsFree (Not width a) u = Unit {0}
FitsFree (Slice width a lo) u = Unit {0}
FitsFree (Zext width a) u = Unit {0}
FitsFree (Sext width a) u = Unit {0}
FitsFree (Mux width c a b) u = Unit {0}

abbrev pub is_free : Node → Bool
is_free (Free name width side cycle) = true
is_free (Const w) = false
is_free (Two op width a b) = false
is_free (Not width a) = false
is_free (Slice width a lo) = false
is_free (Zext width a) = false
is_free (Sext width a) = false
is_free (Mux width c a b) = false

-- how many nodes are free
abbrev pub free_count : List Node → ℕ
free_count [] = 0
free_count (Free name width side cycle ∷ ns) = suc (free_count ns)
free_count (Const w ∷ ns) = free_count ns
free_count (Two op width a b ∷ ns) = free_count ns
free_count (Not width a ∷ ns) = free_count ns
free_count (Slice width a lo ∷ ns) = free_count ns
free_count (Zext width a ∷ ns) = free_count ns
free_count (Sext width a ∷ ns) = free_count ns
free_count (Mux width c a b ∷ ns) = free_count ns

-- one value for each free node, each within its width
abbrev pub AllFit : List ℕ → List Node → Type 0
AllFit us [] = Unit {0}
AllFit us (n ∷ ns) = FitsFree n (slice_index us 0) × AllFit (left_after n us) ns

-- the values that a naming has for the free nodes, in number order
abbrev pub free_values : Naming → List Node → List ℕ
free_values e [] = []
free_values e (Free name width side cycle ∷ ns) = e name side cycle ∷ free_values e ns
free_values e (Const w ∷ ns) = free_values e ns
free_values e (Two op width a b ∷ ns) = free_values e ns
free_values e (Not width a ∷ ns) = free_values e ns
free_values e (Slice width a lo ∷ ns) = free_values e ns
free_values e (Zext width a ∷ ns) = free_values e ns
free_values e (Sext width a ∷ ns) = free_values e ns
free_values e (Mux width c a b ∷ ns) = free_values e ns

-- at the values that a naming has, the root of the obligation has the word that the node has in the dag
abbrev pub RootsAgree : List Node → ℕ → List Node → ℕ → Type 0
RootsAgree dag root nodes root' =
    (e : Naming) → root_value (free_values e nodes) nodes root' ≡ word_at (dag_values e [] dag) root
