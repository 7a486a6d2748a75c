-- The bits that drivers drive, and bits that two of them drive.
use Rattle.std.specs.Prelude.{ℕ, ◌+◌, ◌^◌, ◌≡◌, ◌≤◌, ◌<◌, ◌⊎◌, Some, slice_get, List, [], ◌∷◌}
use Rattle.std.specs.List.{flat_map}
use Rattle.vlog_tree.specs.declared.stmt.Lval.{Lval}
use Rattle.vlog_tree.specs.declared.stmt.Lval.TheVariants as l
use Rattle.vlog_tree_runs.specs.declared.flat.Flat.{Flat}
use Rattle.vlog_tree_runs.specs.declared.flat.Signal.{Signal}
use Rattle.vlog_tree_runs.specs.Places.{Name, Among}
use Rattle.vlog_tree_runs.specs.Blocks.{lefts}
use Rattle.elab_flat_faults.specs.Drivers.{Driver as Drives, Input, Part, Block, parts_of, drivers_of}
use Rattle.elab_flat_drivers.specs.declared.claims.Claim.{Claim}
use Rattle.elab_flat_drivers.specs.declared.drivers.Driver.{Driver}
use Rattle.elab_flat_drivers.specs.declared.drivers.Driver.TheVariants as v
use Rattle.elab_flat_drivers.specs.Parts.{part_meant}
use Rattle.elab_flat_drivers.specs.Claims.{IsPartReady, IsClaimed, part_claims}
use Rattle.elab_flat_drivers.specs.Masks.{IsSet, marked}

-- ---- what is asked of a module

-- a signal is no memory, it has at most 64 bits, and their numbers are below 2 ^ 64
pub record IsNarrow (g : Signal) : Type 0 where
  pub width : g.width ≤ 64
  pub numbers : g.low + g.width ≤ 2 ^ 64
  pub depth : g.depth ≡ 0

abbrev pub AreNarrow : List Signal → Type 0
AreNarrow gs = (g : Signal) → Among gs g → IsNarrow g

-- the numbers without names in a driver's left sides have values
abbrev pub IsDriverReady : Drives → Type 0
IsDriverReady (Input x) = Unit {0}
IsDriverReady (Part q) = IsPartReady q
IsDriverReady (Block ls) = (left : Lval) → Among ls left → (q : Lval) → Among (parts_of left) q → IsPartReady q

abbrev pub AreDriversReady : List Drives → Type 0
AreDriversReady ds = (d : Drives) → Among ds d → IsDriverReady d

-- the drivers of a module without instances can be told
pub record CanDrive (f : Flat) : Type 0 where
  pub narrow : AreNarrow f.signals
  pub ready : AreDriversReady (drivers_of f)

-- ---- bits

-- a view of a driver
abbrev pub driver_meant : Driver → Drives
driver_meant (v.Input x) = Input x.now
driver_meant (v.Part q) = Part (part_meant q)
driver_meant (v.Block body) = Block (lefts body.now)

abbrev pub left_claims : List Signal → Lval → List Claim
left_claims gs left = flat_map (part_claims gs) (parts_of left)

abbrev pub driver_claims : List Signal → Drives → List Claim
driver_claims gs (Input x) = part_claims gs (l.Name x)
driver_claims gs (Part q) = part_claims gs q
driver_claims gs (Block ls) = flat_map (left_claims gs) ls

-- some driver of a list drives a bit that is set in a table, or that one before it drives
abbrev pub Clashes : List Signal → List ℕ → List Drives → ℕ → ℕ → Type 0
Clashes gs ms [] i b = ⊥
Clashes gs ms (d ∷ ds) i b = (IsClaimed (driver_claims gs d) i b × IsSet ms i b) ⊎ Clashes gs (marked ms (driver_claims gs d)) ds i b

-- the signal at a place has a bit
pub record IsBitAt (gs : List Signal) (i b : ℕ) : Type 0 where
  pub signal : Signal
  pub there : slice_get gs i ≡ Some signal
  pub within : b < signal.width
  pub numbers : signal.low + signal.width ≤ 2 ^ 64

-- its name and its declared number
abbrev pub Numbers : List Signal → ℕ → ℕ → Name → ℕ → Type 0
Numbers gs i b x n = (g : Signal) → slice_get gs i ≡ Some g → (x ≡ g.name) × (n ≡ g.low + b)
