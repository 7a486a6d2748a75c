-- For each signal the places of the statements that assign it, statement after statement.
use Rattle.std.specs.Prelude.{ℕ, zero, suc, Bool, false, List, [], ◌∷◌, ◌++◌, length, Option, Some, None, replicate, nat_eq, slice_index, if◌then◌else◌}
use Rattle.std.proofs.Common.{Vec, Global}
use Rattle.vlog_tree.specs.declared.item.Assign.{Assign}
use Rattle.vlog_tree_runs.specs.declared.flat.Always.{Always}
use Rattle.vlog_tree_runs.specs.declared.flat.Flat.{Flat}
use Rattle.vlog_tree_runs.specs.Places.{Name}
use Rattle.vlog_tree_runs.specs.Blocks.{left_names}
use Rattle.elab_flat_scopes.specs.Finding.{place_in}
use Rattle.elab_flat_drivers.specs.declared.names.Form.TheVariants as m
use Rattle.elab_flat_drivers.specs.Names.{chosen_names}
use Rattle.elab_step.specs.Sources.{signal_names}

-- the last number of a list
abbrev pub last_of : List ℕ → Option ℕ
last_of [] = None
last_of (k ∷ []) = Some k
last_of (k ∷ j ∷ ks) = last_of (j ∷ ks)

abbrev pub is_number : Option ℕ → ℕ → Bool
is_number None i = false
is_number (Some k) i = nat_eq k i

-- a list with a number at its end
abbrev pub ending_in : ℕ → List ℕ → List ℕ
ending_in i ks = if is_number (last_of ks) i then ks else ks ++ i ∷ []

-- the list at a place ends in a number
abbrev pub placed_at : Option ℕ → ℕ → List (List ℕ) → List (List ℕ)
placed_at None i lists = lists
placed_at (Some s) i [] = []
placed_at (Some zero) i (ks ∷ lists) = ending_in i ks ∷ lists
placed_at (Some (suc s)) i (ks ∷ lists) = ks ∷ placed_at (Some s) i lists

-- so do those of some names
abbrev pub all_placed : List Name → ℕ → List Name → List (List ℕ) → List (List ℕ)
all_placed names i [] lists = lists
all_placed names i (x ∷ xs) lists = all_placed names i xs (placed_at (place_in names x) i lists)

-- those that continuous assignments assign, which stand from place i on
abbrev pub assigns_placed : List Name → ℕ → List Assign → List (List ℕ) → List (List ℕ)
assigns_placed names i [] lists = lists
assigns_placed names i (a ∷ as') lists = assigns_placed names (suc i) as' (all_placed names i (left_names a.left) lists)

-- and combinational blocks
abbrev pub blocks_placed : List Name → ℕ → List Always → List (List ℕ) → List (List ℕ)
blocks_placed names i [] lists = lists
blocks_placed names i (k ∷ ks) lists = blocks_placed names (suc i) ks (all_placed names i (chosen_names false m.Any k) lists)

abbrev pub places_in : Flat → List (List ℕ)
places_in f =
    let names = signal_names f.signals in
    blocks_placed names (length f.assigns) f.blocks (assigns_placed names 0 f.assigns (replicate (length f.signals) []))

-- the first place of a list: 0 where it has none
abbrev pub first_place : Vec ℕ Global → ℕ
first_place v = slice_index v.items 0
