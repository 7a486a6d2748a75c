-- What the expressions of a module read, and the outputs of the top, as parts of signals (IEEE 1364-2005, sections 5.2.1 and 12.3.3).
use Rattle.std.specs.Prelude.{ℕ, ◌+◌, ◌<◌, ◌≡◌, Some, length, replicate, slice_get, List, [], ◌∷◌, ◌++◌, true, map, if◌then◌else◌}
use Rattle.std.specs.List.{flat_map}
use Rattle.vlog_tree.specs.declared.item.Assign.{Assign}
use Rattle.vlog_tree.specs.declared.stmt.Lval.{Lval}
use Rattle.vlog_tree.specs.declared.stmt.Lval.TheVariants as l
use Rattle.vlog_tree_runs.specs.declared.flat.Always.{Always}
use Rattle.vlog_tree_runs.specs.declared.flat.Flat.{Flat}
use Rattle.vlog_tree_runs.specs.declared.flat.TopPort.{TopPort}
use Rattle.vlog_tree_runs.specs.Places.{Among}
use Rattle.elab_flat_faults.specs.declared.elaborating.ElabFault.TheVariants.{Undriven}
use Rattle.elab_flat_faults.specs.Drivers.{Driver, Input, drivers_of, parts_of}
use Rattle.elab_flat_faults.specs.ElabStands.{Stands}
use Rattle.elab_flat_drivers.specs.declared.claims.Claim.{Claim}
use Rattle.elab_flat_drivers.specs.declared.names.Form.TheVariants as m
use Rattle.elab_flat_drivers.specs.Names.{chosen_names}
use Rattle.elab_flat_drivers.specs.Claims.{IsPartReady, part_claims}
use Rattle.elab_flat_drivers.specs.Driving.{CanDrive, driver_claims}
use Rattle.elab_flat_drivers.specs.Masks.{marked}
use Rattle.vlog_tree_runs.specs.declared.flat.Signal.{Signal}
use Rattle.elab_flat_drivers.specs.Parts.{reads_of}
use Rattle.elab_flat_drivers.specs.Pieces.{Action, Tests, Assigns, Schedules, actions}

-- what the numbers of a part read
abbrev pub part_reads : Lval → List Lval
part_reads (l.Name x) = []
part_reads (l.Select x a) = reads_of a
part_reads (l.Part x span a b) = reads_of a ++ reads_of b
part_reads (l.Concat' h row) = []

abbrev pub left_reads : Lval → List Lval
left_reads left = flat_map part_reads (parts_of left)

abbrev pub action_reads : Action → List Lval
action_reads (Tests a) = reads_of a
action_reads (Assigns left right) = left_reads left ++ reads_of right
action_reads (Schedules left right) = left_reads left ++ reads_of right

abbrev pub assign_reads : Assign → List Lval
assign_reads a = left_reads a.left ++ reads_of a.right

abbrev pub block_reads : Always → List Lval
block_reads k = flat_map action_reads (actions k.body)

abbrev pub output_parts : TopPort → List Lval
output_parts p = if p.output then l.Name p.name ∷ [] else []

-- what is read in a module, and its outputs
abbrev pub wanted_parts : Flat → List Lval
wanted_parts f = flat_map output_parts f.ports ++ flat_map assign_reads f.assigns ++ flat_map block_reads f.blocks

-- the drivers of a module, and each register as driven
abbrev pub covers : Flat → List Driver
covers f = drivers_of f ++ map Input (flat_map (chosen_names true m.Any) f.blocks)

-- what is driven and what is wanted can be told
pub record CanTell (f : Flat) : Type 0 where
  pub drives : CanDrive f
  pub wants : (q : Lval) → Among (wanted_parts f) q → IsPartReady q

-- a table with the bits that drivers drive set too
abbrev pub driven_table : List Signal → List ℕ → List Driver → List ℕ
driven_table gs ms [] = ms
driven_table gs ms (d ∷ ds) = driven_table gs (marked ms (driver_claims gs d)) ds

-- the bits that its drivers and registers have
abbrev pub covered_table : Flat → List ℕ
covered_table f = driven_table f.signals (replicate (length f.signals) 0) (covers f)

-- the bits that are wanted in it
abbrev pub wanted_claims : Flat → List Claim
wanted_claims f = flat_map (part_claims f.signals) (wanted_parts f)

-- a bit of the signal at a place is undriven
pub record IsLacking (f : Flat) (i b : ℕ) : Type 0 where
  pub signal : Signal
  pub there : slice_get f.signals i ≡ Some signal
  pub within : b < signal.width
  pub among : Among f.signals signal
  pub stands : Stands f (Undriven signal.name (signal.low + b))
