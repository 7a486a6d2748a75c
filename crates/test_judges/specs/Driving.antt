-- The bits of a signal that left sides drive, as a number with a 1 for each of them.
use Rattle.std.specs.Prelude.{ℕ, Bool, true, false, List, [], ◌∷◌, ◌++◌, bit_or, if◌then◌else◌}
use Rattle.std.specs.List.{flat_map, list_any}
use Rattle.std.specs.Str.{bytes_eq}
use Rattle.vlog_tree.specs.declared.item.Assign.{Assign}
use Rattle.vlog_tree.specs.declared.stmt.Lval.{Lval}
use Rattle.vlog_tree.specs.declared.stmt.Stmt.{Stmt}
use Rattle.vlog_tree_runs.specs.declared.flat.Always.{Always}
use Rattle.vlog_tree_runs.specs.declared.flat.Flat.{Flat}
use Rattle.vlog_tree_runs.specs.declared.flat.Signal.{Signal}
use Rattle.vlog_tree_runs.specs.Places.{Name}
use Rattle.vlog_tree_runs.specs.Blocks.{lefts}
use Rattle.elab_flat_faults.specs.Drivers.{parts_of}
use Rattle.elab_flat_drivers.specs.declared.claims.Spot.{Spot}
use Rattle.elab_flat_drivers.specs.Claims.{IsPartReady, claim_at, part_name, part_run}
use Rattle.elab_flat_drivers.specs.declared.names.Form.TheVariants as m
use Rattle.elab_flat_drivers.specs.Names.{is_same, action_lefts}
use Rattle.elab_flat_drivers.specs.Pieces.{Action}

-- ---- parts of left sides

-- the parts of what stands on the left at one place of a statement
abbrev pub piece_parts : Action → List Lval
piece_parts d = flat_map parts_of (action_lefts m.Any d)

-- the parts of the left sides in a statement
abbrev pub body_parts : Stmt → List Lval
body_parts body = flat_map parts_of (lefts body)

-- those of a block, if it is clocked or if it isn't
abbrev pub chosen_parts : Bool → Always → List Lval
chosen_parts clocked k = if is_same clocked k.clocked then body_parts k.body else []

abbrev pub block_parts : Bool → List Always → List Lval
block_parts clocked ks = flat_map (chosen_parts clocked) ks

abbrev pub assign_parts : List Assign → List Lval
assign_parts as' = flat_map (λ (a : Assign). parts_of a.left) as'

-- the parts of the left sides of continuous assignments and combinational blocks
abbrev pub net_parts : Flat → List Lval
net_parts f = assign_parts f.assigns ++ block_parts false f.blocks

-- those in clocked blocks
abbrev pub clocked_parts : Flat → List Lval
clocked_parts f = block_parts true f.blocks

-- ---- bits of a signal

-- a signal's length and lowest bit
abbrev pub spot_of : Signal → Spot
spot_of g = record { place = 0; width = g.width; low = g.low }

-- the bits of a signal that a part names
abbrev pub part_bits : Signal → Lval → ℕ
part_bits g q = if bytes_eq (part_name q) g.name then (claim_at (spot_of g) (part_run q)).bits else 0

-- those that some part names
abbrev pub bits_in : List Lval → Signal → ℕ
bits_in [] g = 0
bits_in (q ∷ qs) g = bit_or (part_bits g q) (bits_in qs g)

-- the numbers without names in parts have values
abbrev pub ArePartsReady : List Lval → Type 0
ArePartsReady [] = Unit {0}
ArePartsReady (q ∷ qs) = IsPartReady q × ArePartsReady qs

-- a part is of this signal
abbrev pub names : List Lval → Name → Bool
names qs x = list_any (λ q. bytes_eq (part_name q) x) qs
