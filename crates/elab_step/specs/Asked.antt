-- What is asked of a module without instances, and which faults it may be refused by.
use Rattle.std.specs.Prelude.{◌≡◌, ◌⊎◌}
use Rattle.vlog_tree_runs.specs.declared.flat.Flat.{Flat}
use Rattle.vlog_tree_runs.specs.Places.{Name}
use Rattle.vlog_tree_runs.specs.Cycles.{IsInput, IsRegister}
use Rattle.elab_flat_faults.specs.declared.elaborating.ElabFault.{ElabFault}
use Rattle.elab_flat_faults.specs.declared.elaborating.ElabFault.TheVariants as f
use Rattle.elab_flat_faults.specs.ElabStands.{Stands}

-- an input of the top that a clocked block assigns has the wrong form of assignment for its declaration: an input is a net (IEEE 1364-2005,
-- section 12.3.3). So it is also where each such assignment is out of range, and no bit has two drivers
abbrev pub AssignsInput : Flat → ElabFault → Type 0
AssignsInput m (f.Kind x) = IsInput m x × IsRegister m x
AssignsInput m e = ⊥

-- a fault of a module
abbrev pub IsFaultOf : Flat → ElabFault → Type 0
IsFaultOf m e = Stands m e ⊎ AssignsInput m e

-- no fault stands but a loop
abbrev pub IsCleanButLoops : Flat → Type 0
IsCleanButLoops m = (e : ElabFault) → Stands m e → (x : Name) × (e ≡ f.Loop x)

-- none is
abbrev pub HasNoFault : Flat → Type 0
HasNoFault m = (e : ElabFault) → IsFaultOf m e → ⊥
