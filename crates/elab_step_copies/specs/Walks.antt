-- The walk that makes copies, and the one that forgets them.
use Rattle.std.specs.Prelude.{ℕ, ◌≡◌, ◌<◌, ◌⊎◌, List, [], length, set, Option, Some, None, is_none, find}
use Rattle.std.proofs.Common.{Vec, Global}
use Rattle.vlog_tree_runs.specs.Places.{Among}
use Rattle.word_dag.specs.declared.node.Node.{Node}
use Rattle.word_dag.specs.Order.{operands_of}
use Rattle.elab_step_expr.specs.declared.leaves.Leaf.{Leaf}
use Rattle.elab_step_expr.specs.Leaves.{AreReady}
use Rattle.elab_step_blocks.specs.Saving.{node_at}
use Rattle.elab_step_copies.specs.declared.copier.Copier.{Copier}
use Rattle.elab_step_copies.specs.Copies.{AreCopies, HaveCopies, IsNetwork, IsSound, list_at, made_at}

-- the first of these nodes that has no copy
abbrev pub first_unmade : List (Option ℕ) → List ℕ → Option ℕ
first_unmade copies as' = find (λ a. is_none (made_at copies a)) as'

-- a number is added to the lists of these numbers, and else there is nothing new
pub record IsNoted (old new : List (Vec ℕ Global)) (at : List ℕ) (n : ℕ) : Type 0 where
  pub long : length new ≡ length old
  pub keeps : (a i : ℕ) → Among (list_at old a) i → Among (list_at new a) i
  pub adds : (a : ℕ) → Among at a → Among (list_at new a) n
  pub only : (a i : ℕ) → Among (list_at new a) i → Among (list_at old a) i ⊎ (i ≡ n)

-- the list of a number is empty now, and the others are as before
pub record IsTaken (old new : List (Vec ℕ Global)) (at : ℕ) : Type 0 where
  pub long : length new ≡ length old
  pub gone : list_at new at ≡ []
  pub left : (a : ℕ) → (a ≡ at → ⊥) → list_at new a ≡ list_at old a

-- a node has no copy, but its operands have
pub record CanMake (k : Copier) (ls : List Leaf) (ns : List Node) (n : ℕ) : Type 0 where
  pub ready : AreReady ls ns
  pub copies : AreCopies k ls ns
  pub number : n < length k.source
  pub unmade : made_at k.copies.items n ≡ None
  pub operands : HaveCopies k.copies.items (operands_of k.source n)

-- a later copier has the same source, its copies are right, and none is missing
pub record IsLater (k l : Copier) (ls : List Leaf) (ns : List Node) : Type 0 where
  pub source : l.source ≡ k.source
  pub kept : (n i : ℕ) → made_at k.copies.items n ≡ Some i → made_at l.copies.items n ≡ Some i
  pub copies : AreCopies l ls ns

-- and it has made a copy of this node alone
pub record MakesOne (k l : Copier) (ls : List Leaf) (ns : List Node) (n : ℕ) : Type 0 where
  pub later : IsLater k l ls ns
  pub one : (i : ℕ) × (l.copies.items ≡ set k.copies.items n (Some i))

-- these nodes have no copies any more, what has one still stands over copies, and none is new
pub record IsForgotten (k l : Copier) (numbers : List ℕ) : Type 0 where
  pub source : l.source ≡ k.source
  pub words : l.words.items ≡ k.words.items
  pub network : IsNetwork l.source l.copies.items l.readers.items
  pub left : (n i : ℕ) → made_at l.copies.items n ≡ Some i → made_at k.copies.items n ≡ Some i
  pub gone : (n : ℕ) → Among numbers n → made_at l.copies.items n ≡ None

-- what is left of the copies of a leaf's words is the leaf's node
pub record IsRenewed (k l : Copier) (ls : List Leaf) (place : ℕ) : Type 0 where
  pub source : l.source ≡ k.source
  pub sound : IsSound l (length ls)
  pub left : (n i : ℕ) → made_at l.copies.items n ≡ Some i → made_at k.copies.items n ≡ Some i
  pub words : (j n i : ℕ) → Among (list_at k.words.items j) n → made_at l.copies.items n ≡ Some i → Among (list_at l.words.items j) n
  pub fresh : (n i : ℕ) → Among (list_at k.words.items place) n → made_at l.copies.items n ≡ Some i → i ≡ node_at ls place
