-- Nodes of a source made again in another dag, where the free words of the source are the nodes of leaves.
use Rattle.std.specs.Prelude.{ℕ, zero, suc, ◌≡◌, ◌<◌, true, false, IsTrue, List, [], ◌∷◌, length, map, slice_index, get_or, Option, Some, None, is_some}
use Rattle.std.proofs.Common.{Vec, Global}
use Rattle.vlog_tree.specs.Valuation.{place_at}
use Rattle.vlog_tree_runs.specs.Places.{Cycle, Among}
use Rattle.word_core.specs.Words.{Bits}
use Rattle.word_dag.specs.declared.node.Node.{Node}
use Rattle.word_dag.specs.declared.node.Node.TheVariants.{Free, Const, Two, Not, Slice, Zext, Sext, Mux}
use Rattle.word_dag.specs.Adding.{IsAt, Keeps}
use Rattle.word_dag.specs.Given.{is_free}
use Rattle.word_dag.specs.Nodes.{FitFrom, Naming, named, node_value, width_of, word_at}
use Rattle.word_dag.specs.Order.{operands_of}
use Rattle.word_dag.specs.Walks.{Each, operands}
use Rattle.elab_step_design.specs.Designs.{free, naming_of}
use Rattle.elab_step_expr.specs.declared.leaves.Leaf.{Leaf}
use Rattle.elab_step_expr.specs.Leaves.{declared}
use Rattle.elab_step_expr.specs.Nodes.{IsNode, number_at, words}
use Rattle.elab_step_blocks.specs.Saving.{node_at}
use Rattle.elab_step_blocks.specs.Standing.{AreShown}
use Rattle.elab_step_blocks.specs.Targets.{name_at, width_at}
use Rattle.elab_step_copies.specs.declared.copier.Copier.{Copier}

-- a node is the free word of the leaf of this number
abbrev pub IsWordOf : List Leaf → Node → ℕ → Type 0
IsWordOf ls z j = (j < length ls) × (z ≡ free (name_at ls j) (width_at ls j))

-- a free word is that of the first leaf of its name
abbrev pub IsOfLeaf : List Leaf → Node → Type 0
IsOfLeaf ls (Free x w side t) = (j : ℕ) × (place_at (declared ls) x 0 ≡ Some j) × IsWordOf ls (Free x w side t) j
IsOfLeaf ls (Const w) = Unit {0}
IsOfLeaf ls (Two op w a b) = Unit {0}
IsOfLeaf ls (Not w a) = Unit {0}
IsOfLeaf ls (Slice w a lo) = Unit {0}
IsOfLeaf ls (Zext w a) = Unit {0}
IsOfLeaf ls (Sext w a) = Unit {0}
IsOfLeaf ls (Mux w c a b) = Unit {0}

-- so is each free word of a source
abbrev pub AreOfLeaves : List Node → List Leaf → Type 0
AreOfLeaves source ls = (n : ℕ) (z : Node) → IsAt source n z → IsOfLeaf ls z

-- node i has the word of node n of the source, whose free words have the values of a cycle that the leaves show
pub record IsCopy (source : List Node) (ls : List Leaf) (ns : List Node) (n i : ℕ) : Type 0 where
  pub node : IsNode ns i (slice_index (map width_of source) n)
  pub word : (e : Naming) (c : Cycle) → AreShown e ns ls c → word_at (words e ns) i ≡ word_at (words (naming_of c) source) n

-- nodes that are copies of these nodes of a source
abbrev pub EachCopy : List Node → List Leaf → List Node → List ℕ → List ℕ → Type 0
EachCopy source ls ns roots is = (length is ≡ length roots) × ((k : ℕ) → k < length roots → IsCopy source ls ns (slice_index roots k) (slice_index is k))

-- ---- what a copier keeps

-- the list of this number
abbrev pub list_at : List (Vec ℕ Global) → ℕ → List ℕ
list_at [] i = []
list_at (v ∷ vs) zero = v.items
list_at (v ∷ vs) (suc i) = list_at vs i

-- the copy of a node, if there is one
abbrev pub made_at : List (Option ℕ) → ℕ → Option ℕ
made_at copies n = get_or copies n None

abbrev pub number_in : Option ℕ → ℕ
number_in None = 0
number_in (Some i) = i

-- the number of a node's copy
abbrev pub copy_at : List (Option ℕ) → ℕ → ℕ
copy_at copies n = number_in (made_at copies n)

-- this node has a copy
abbrev pub HasCopy : List (Option ℕ) → ℕ → Type 0
HasCopy copies n = IsTrue (is_some (made_at copies n))

-- all these nodes have copies
abbrev pub HaveCopies : List (Option ℕ) → List ℕ → Type 0
HaveCopies copies as' = Each (HasCopy copies) as'

-- a free word became a node with the number of its leaf's, and is noted with the leaf
pub record IsRead (noted : List (Vec ℕ Global)) (ls : List Leaf) (ns : List Node) (n : ℕ) (z : Node) (i : ℕ) : Type 0 where
  pub place : ℕ
  pub word : IsWordOf ls z place
  pub there : Among (list_at noted place) n
  pub node : IsNode ns i (width_of z)
  pub number : (e : Naming) → number_at e ns i ≡ number_at e ns (node_at ls place)

-- any other node became one that has its word over the copies of its operands, whatever words these have
pub record IsOver (copies : List (Option ℕ)) (ns : List Node) (z : Node) (i : ℕ) : Type 0 where
  pub node : IsNode ns i (width_of z)
  pub word : (e : Naming) (vs : List Bits) → Each (λ a. word_at (words e ns) (copy_at copies a) ≡ word_at vs a) (operands z) → word_at (words e ns) i ≡ node_value (named e z) vs z

-- what a node became, by what it is
pub record IsMade (copies : List (Option ℕ)) (noted : List (Vec ℕ Global)) (ls : List Leaf) (ns : List Node) (n : ℕ) (z : Node) (i : ℕ) : Type 0 where
  pub read : is_free z ≡ true → IsRead noted ls ns n z i
  pub over : is_free z ≡ false → IsOver copies ns z i

-- what has a copy stands over copies, and is noted with each of them
pub record IsNetwork (source : List Node) (copies : List (Option ℕ)) (readers : List (Vec ℕ Global)) : Type 0 where
  pub long : length copies ≡ length source
  pub readers_long : length readers ≡ length source
  pub within : (a n : ℕ) → Among (list_at readers a) n → n < length source
  pub noted : (n a : ℕ) → HasCopy copies n → Among (operands_of source n) a → HasCopy copies a × Among (list_at readers a) n

-- so it is in a copier for so many leaves
pub record IsSound (k : Copier) (count : ℕ) : Type 0 where
  pub fit : FitFrom [] k.source
  pub network : IsNetwork k.source k.copies.items k.readers.items
  pub words_long : length k.words.items ≡ count
  pub within : (j n : ℕ) → Among (list_at k.words.items j) n → n < length k.source

-- and each copy is made of what the leaves are
pub record AreCopies (k : Copier) (ls : List Leaf) (ns : List Node) : Type 0 where
  pub sound : IsSound k (length ls)
  pub words : AreOfLeaves k.source ls
  pub made : (n : ℕ) (z : Node) (i : ℕ) → IsAt k.source n z → made_at k.copies.items n ≡ Some i → IsMade k.copies.items k.words.items ls ns n z i

-- the dag has grown, and leaves of other places than these have nodes of the same numbers as before
pub record AreMoved (places : List ℕ) (ls : List Leaf) (a : List Node) (ms : List Leaf) (b : List Node) : Type 0 where
  pub keeps : Keeps a b
  pub same : declared ms ≡ declared ls
  pub numbers : (e : Naming) (j : ℕ) → j < length ls → (Among places j → ⊥) → number_at e b (node_at ms j) ≡ number_at e a (node_at ls j)
