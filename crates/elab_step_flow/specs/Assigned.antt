-- The places that a statement assigns, and what an assignment does there.
use Rattle.std.specs.Prelude.{ℕ, ◌≡◌, ◌<◌, ◌⊎◌, ◌↔◌, List, [], map}
use Rattle.std.specs.List.{flat_map}
use Rattle.vlog_tree.specs.declared.stmt.Lval.{Lval}
use Rattle.vlog_tree.specs.declared.stmt.Stmt.{Stmt}
use Rattle.vlog_tree_runs.specs.declared.flat.Signal.{Signal}
use Rattle.vlog_tree_runs.specs.Places.{Among}
use Rattle.elab_flat_faults.specs.Drivers.{parts_of}
use Rattle.elab_flat_drivers.specs.Pieces.{Action, Tests, Assigns, Schedules, actions}
use Rattle.elab_flat_drivers.specs.Spots.{signal_name}
use Rattle.elab_step_flow.specs.Edges.{part_places}
use Rattle.elab_step_flow.specs.Sets.{Tables, HasBit}
use Rattle.elab_step_flow.specs.Words.{AnySetAt}

-- the parts of signals that a statement assigns
abbrev pub assigned_by : Action → List Lval
assigned_by (Tests a) = []
assigned_by (Assigns left right) = parts_of left
assigned_by (Schedules left right) = parts_of left

abbrev pub assigned_in : Stmt → List Lval
assigned_in body = flat_map assigned_by (actions body)

-- some part is of the signal at place i
abbrev pub AnyAt : List Signal → List Lval → ℕ → Type 0
AnyAt gs qs i = Among (part_places (map signal_name gs) qs) i

-- a statement assigns the signal at place i
abbrev pub IsAssigned : List Signal → Stmt → ℕ → Type 0
IsAssigned gs body i = AnyAt gs (assigned_in body) i

-- the bits of parts are set, which depend on the places of a set
pub record PartsSet (gs : List Signal) (qs : List Lval) (sources : List ℕ) (s t : Tables) : Type 0 where
  pub unset : (i b : ℕ) → b < 64 → HasBit t.unset i b ↔ (HasBit s.unset i b × (AnySetAt gs qs i b → ⊥))
  pub clear : (i b : ℕ) → HasBit t.unset i b → HasBit s.unset i b
  pub through : (i j : ℕ) → Among (t.through i) j ↔ ((AnyAt gs qs i × Among sources j) ⊎ Among (s.through i) j)
  pub same : (i : ℕ) → (AnyAt gs qs i → ⊥) → (t.unset i ≡ s.unset i) × (t.through i ≡ s.through i)
  pub outside : t.outside ≡ s.outside
