-- Which signals statements leave as they are.
use Rattle.std.specs.Prelude.{ℕ, ◌≡◌, ◌≢◌, ◌<◌, Bool, List, [], ◌∷◌, length}
use Rattle.std.specs.List.{Contains}
use Rattle.vlog_tree.specs.declared.stmt.CaseItem.{CaseItem}
use Rattle.vlog_tree.specs.declared.stmt.Lval.{Lval}
use Rattle.vlog_tree.specs.declared.stmt.Stmt.{Stmt}
use Rattle.vlog_tree_runs.specs.declared.flat.Signal.{Signal}
use Rattle.vlog_tree_runs.specs.Places.{Name, Cycle, Piece, pieces}
use Rattle.vlog_tree_runs.specs.Blocks.{run}
use Rattle.elab_step_expr.specs.declared.leaves.Leaf.{Leaf}
use Rattle.elab_step_blocks.specs.declared.branches.Saved.{Saved}
use Rattle.elab_step_blocks.specs.Saving.{AreWithin, IsAway}
use Rattle.elab_step_blocks.specs.Standing.{flat, AreLeavesOf}
use Rattle.elab_step_blocks.specs.Targets.{name_at}

-- no piece is of this name
abbrev pub Misses : List Piece → Name → Type 0
Misses [] x = Unit {0}
Misses (q ∷ qs) x = (q.name ≢ x) × Misses qs x

-- a left side has no part of this name, whatever its indices are
abbrev pub SparesLeft : List Leaf → Lval → Name → Type 0
SparesLeft ls left x = (gs : List Signal) (c : Cycle) → AreLeavesOf gs ls → Misses (pieces (flat gs) c left) x

abbrev pub EachSparesLeft : List Leaf → List Lval → Name → Type 0
EachSparesLeft ls [] x = Unit {0}
EachSparesLeft ls (a ∷ rest) x = SparesLeft ls a x × EachSparesLeft ls rest x

-- a statement leaves the number of a name as it is
abbrev pub Spares : List Leaf → Stmt → Name → Type 0
Spares ls stmt x = (gs : List Signal) (at_once : Bool) (c d : Cycle) → AreLeavesOf gs ls → run at_once (flat gs) stmt c d x ≡ d x

abbrev pub EachSpares : List Leaf → List Stmt → Name → Type 0
EachSpares ls [] x = Unit {0}
EachSpares ls (a ∷ rest) x = Spares ls a x × EachSpares ls rest x

-- so do the bodies of items
abbrev pub ItemsSpare : List Leaf → List CaseItem → Name → Type 0
ItemsSpare ls [] x = Unit {0}
ItemsSpare ls (i ∷ rest) x = Spares ls i.body x × ItemsSpare ls rest x

-- places of leaves are added, so that each leaf is spared that isn't at one of them
pub record Gathers (ls : List Leaf) (old new : List ℕ) (spared : Name → Type 0) : Type 0 where
  pub kept : (k : ℕ) → Contains old k → Contains new k
  pub within : AreWithin ls old → AreWithin ls new
  pub others : (k : ℕ) → k < length ls → (Contains new k → ⊥) → spared (name_at ls k)

-- a statement leaves each leaf as it is for which no node is saved
abbrev pub Covers : List Leaf → List Saved → Stmt → Type 0
Covers ls ss stmt = (k : ℕ) → k < length ls → IsAway ss k → Spares ls stmt (name_at ls k)

-- so do the bodies of items
abbrev pub EachCovered : List Leaf → List Saved → List CaseItem → Type 0
EachCovered ls ss items = (k : ℕ) → k < length ls → IsAway ss k → ItemsSpare ls items (name_at ls k)
