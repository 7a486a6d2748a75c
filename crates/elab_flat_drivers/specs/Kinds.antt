-- The wrong forms of an assignment, apart.
use Rattle.std.specs.Prelude.{◌≡◌, ◌⊎◌, Bool, true, false}
use Rattle.vlog_tree.specs.declared.item.Assign.{Assign}
use Rattle.vlog_tree_runs.specs.declared.flat.Always.{Always}
use Rattle.vlog_tree_runs.specs.declared.flat.Flat.{Flat}
use Rattle.vlog_tree_runs.specs.Places.{Name, Among}
use Rattle.vlog_tree_runs.specs.Blocks.{lefts, left_names}
use Rattle.elab_flat_faults.specs.ElabStands.{Names, IsReg, IsWire, blocking_lefts, nonblocking_lefts}

-- a continuous assignment assigns to a `reg`
abbrev pub IsWired : Flat → Name → Type 0
IsWired m x = (a : Assign) × Among m.assigns a × Among (left_names a.left) x × IsReg m x

-- a clocked block assigns to a signal that isn't a `reg`, or a combinational one
abbrev pub IsMisplaced : Flat → Bool → Name → Type 0
IsMisplaced m clocked x = (k : Always) × Among m.blocks k × (k.clocked ≡ clocked) × Names (lefts k.body) x × IsWire m x

-- either is so
abbrev pub IsMisdeclared : Flat → Name → Type 0
IsMisdeclared m x = IsWired m x ⊎ ((k : Always) × Among m.blocks k × Names (lefts k.body) x × IsWire m x)

-- a clocked block assigns by `=`, or a combinational one by `<=`
abbrev pub IsMisformed : Flat → Name → Type 0
IsMisformed m x =
    ((k : Always) × Among m.blocks k × (k.clocked ≡ true) × Names (blocking_lefts k.body) x)
    ⊎ ((k : Always) × Among m.blocks k × (k.clocked ≡ false) × Names (nonblocking_lefts k.body) x)

-- a clocked and a combinational block both assign
abbrev pub IsMixed : Flat → Name → Type 0
IsMixed m x =
    (k j : Always) × Among m.blocks k × Among m.blocks j × (k.clocked ≡ true) × (j.clocked ≡ false) × Names (lefts k.body) x × Names (lefts j.body) x
