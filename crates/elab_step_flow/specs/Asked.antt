-- What is asked of a module whose combinational blocks are passed through, and what is found there (IEEE 1364-2005, sections 9.5 and 9.7.5).
use Rattle.std.specs.Prelude.{ℕ, ◌≡◌, ◌<◌, false, List, Some}
use Rattle.vlog_tree.specs.declared.stmt.Lval.{Lval}
use Rattle.vlog_tree.specs.declared.stmt.Stmt.{Stmt}
use Rattle.vlog_tree_runs.specs.declared.flat.Always.{Always}
use Rattle.vlog_tree_runs.specs.declared.flat.Flat.{Flat}
use Rattle.vlog_tree_runs.specs.declared.flat.Signal.{Signal}
use Rattle.vlog_tree_runs.specs.Places.{Name, Among, Place}
use Rattle.vlog_tree_runs.specs.Blocks.{lefts, Drives}
use Rattle.elab_flat_faults.specs.Paths.{Step, IsPath, IsSetBy, width_in}
use Rattle.elab_step_laws.specs.Laws.{place_over, ReadsOutside}
use Rattle.elab_flat_drivers.specs.Driving.{AreNarrow}
use Rattle.elab_step_flow.specs.Ready.{IsReady}
use Rattle.elab_step_flow.specs.Shows.{IsAt, AreDistinct, AreAllDeclared}
use Rattle.elab_step_flow.specs.Words.{AreWide}

-- distinct signals of 1 to 64 bits, none of them a memory
pub record AreVectors (gs : List Signal) : Type 0 where
  pub distinct : AreDistinct gs
  pub narrow : AreNarrow gs
  pub wide : AreWide gs

-- a block's names are declared, and what in it must be constant has values
pub record IsPassable (gs : List Signal) (body : Stmt) : Type 0 where
  pub ready : IsReady gs body
  pub declared : AreAllDeclared gs body

abbrev pub ArePassable : List Signal → List Always → Type 0
ArePassable gs ks = (k : Always) → Among ks k → k.clocked ≡ false → IsPassable gs k.body

-- its combinational blocks can be passed through
pub record CanPass (f : Flat) : Type 0 where
  pub signals : AreVectors f.signals
  pub blocks : ArePassable f.signals f.blocks

-- ---- bits that some path doesn't set

-- a statement drives a bit of x that some path through it doesn't set
abbrev pub Misses : Place → Stmt → Name → Type 0
Misses p body x =
    (b : ℕ) × (b < width_in p x) × ((left : Lval) × Among (lefts body) left × Drives p left x b) × ((steps : List Step) × IsPath p body steps × (IsSetBy p steps x b → ⊥))

-- a combinational block does
abbrev pub BlockMisses : List Signal → Always → Name → Type 0
BlockMisses gs k x = (k.clocked ≡ false) × Misses (place_over gs) k.body x

abbrev pub AnyMisses : List Signal → List Always → Name → Type 0
AnyMisses gs ks x = (k : Always) × Among ks k × BlockMisses gs k x

-- ---- names that a list leaves out

-- a statement reads x where it hasn't set all of it, and x isn't listed
abbrev pub ReadsBesides : Place → Stmt → List Name → Name → Type 0
ReadsBesides p body names x = ReadsOutside p body x × (Among names x → ⊥)

-- a combinational block with a list does
abbrev pub BlockReadsUnlisted : List Signal → Always → Name → Type 0
BlockReadsUnlisted gs k x = (k.clocked ≡ false) × ((names : List Name) × (k.names ≡ Some names) × ReadsBesides (place_over gs) k.body names x)

abbrev pub AnyReadsUnlisted : List Signal → List Always → Name → Type 0
AnyReadsUnlisted gs ks x = (k : Always) × Among ks k × BlockReadsUnlisted gs k x

-- something of the signal at a place
abbrev pub OfSignal : List Signal → ℕ → (Name → Type 0) → Type 0
OfSignal gs i P = (x : Name) × IsAt gs i x × P x
