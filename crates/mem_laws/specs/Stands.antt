-- Which faults of memories stand for a module without instances.
use Rattle.std.specs.Prelude.{◌≡◌, ◌⊎◌, ◌<◌, true, false, length}
use Rattle.std.specs.List.{flat_map}
use Rattle.vlog_tree.specs.declared.item.Assign.{Assign}
use Rattle.vlog_tree_runs.specs.declared.flat.Always.{Always}
use Rattle.vlog_tree_runs.specs.declared.flat.Flat.{Flat}
use Rattle.vlog_tree_runs.specs.declared.flat.Signal.{Signal}
use Rattle.vlog_tree_runs.specs.Places.{Name, Among}
use Rattle.vlog_tree_runs.specs.Blocks.{left_names}
use Rattle.elab_flat_laws.specs.Uses.{known}
use Rattle.elab_flat_faults.specs.Declaring.{Repeats, words_of}
use Rattle.elab_flat_faults.specs.Texts.{names_in}
use Rattle.elab_flat_faults.specs.ElabStands.{Names, blocking_lefts, nonblocking_lefts}
use Rattle.mem_laws.specs.declared.fault.MemFault.{MemFault}
use Rattle.mem_laws.specs.declared.fault.MemFault.TheVariants as m
use Rattle.mem_laws.specs.Uses.{is_memory, lefts_of, wholes, memory_uses, Indexed}

-- a memory's word has the name of a signal, or of another word
abbrev pub IsDeclaredTwice : Flat → Name → Type 0
IsDeclaredTwice f x = Among (flat_map words_of f.signals) x × Repeats (known f.signals) x

-- the index of a use of the memory x names a memory
abbrev pub HasNestedIndex : Flat → Name → Type 0
HasNestedIndex f x =
    (u : Indexed) × Among (memory_uses f) u × (u.name ≡ x) × (y : Name) × Among (names_in u.index) y × (is_memory f y ≡ true)

-- a signed signal
abbrev pub IsSigned : Flat → Name → Type 0
IsSigned f x = (g : Signal) × Among f.signals g × (g.name ≡ x) × (g.signed ≡ true)

-- x is assigned otherwise than by `<=` in a clocked block
abbrev pub IsAssignedOtherwise : Flat → Name → Type 0
IsAssignedOtherwise f x =
    ((a : Assign) × Among f.assigns a × Among (left_names a.left) x)
    ⊎ ((k : Always) × Among f.blocks k × (Names (blocking_lefts k.body) x ⊎ ((k.clocked ≡ false) × Names (nonblocking_lefts k.body) x)))

abbrev pub IsWronglyKept : Flat → Name → Type 0
IsWronglyKept f x = IsSigned f x ⊎ ((Names (lefts_of f) x → ⊥) ⊎ IsAssignedOtherwise f x)

-- a fault stands
abbrev pub Stands : Flat → MemFault → Type 0
Stands f (m.Twice x) = IsDeclaredTwice f x
Stands f (m.Whole x) = (is_memory f x ≡ true) × Among (wholes f) x
Stands f (m.Nested x) = HasNestedIndex f x
Stands f (m.Kind x) = (is_memory f x ≡ true) × IsWronglyKept f x
Stands f m.Uses = 1024 < length (memory_uses f)
Stands f m.Memory = ⊥

-- no fault stands
abbrev pub IsFaultless : Flat → Type 0
IsFaultless f = (fault : MemFault) → Stands f fault → ⊥
