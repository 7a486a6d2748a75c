-- What the texts of modules and of sets are to a check, and why they are refused.
use Rattle.std.specs.Prelude.{ℕ, ◌≢◌, ◌<◌, ◌≤◌, List, length}
use Rattle.vlog_tree.specs.declared.module.Module.{Module}
use Rattle.vlog_tree.specs.Modules.{file_height}
use Rattle.vlog_read_lex.specs.declared.error.ReadFault.TheVariants as r
use Rattle.vlog_read.specs.Texts.{RefusesText, SpellsModules}
use Rattle.set_tree.specs.declared.set.Set.{Set}
use Rattle.set_tree.specs.Formulas.{meaning_of}
use Rattle.set_tree.specs.Structure.{IsSound}
use Rattle.set_read.specs.declared.fault.SetFault.TheVariants as s
use Rattle.set_read.specs.Read.{Spells, Refuses as RefusesSetText}
use Rattle.set_tree_structure.specs.Faults.{IsFirst}
use Rattle.desk_core_faults.specs.declared.fault.ModuleFault.TheVariants as m
use Rattle.desk_core_faults.specs.declared.fault.SetStop.TheVariants as t
use Rattle.desk_core_faults.specs.declared.fault.CheckFault.{CheckFault}
use Rattle.desk_core_faults.specs.declared.fault.CheckFault.TheVariants as f

-- a text of at most 1,048,576 bytes that spells modules of a height of at most 500
pub record IsModuleText (text : List ℕ) (ms : List Module) : Type 0 where
  pub short : length text ≤ 1048576
  pub spelt : SpellsModules text ms
  pub low : file_height ms ≤ 500

-- one that spells a set with a sound structure
pub record IsSetText (text : List ℕ) (set : Set) : Type 0 where
  pub short : length text ≤ 1048576
  pub spelt : Spells text set
  pub sound : IsSound (meaning_of set) set

abbrev pub SpellsSomeModules : List ℕ → Type 0
SpellsSomeModules text = (ms : List Module) × IsModuleText text ms

abbrev pub SpellsSomeSet : List ℕ → Type 0
SpellsSomeSet text = (set : Set) × IsSetText text set

-- the module text is too long, or isn't read
abbrev pub RefusesModules : List ℕ → CheckFault → Type 0
RefusesModules text (f.Module m.TooLong) = 1048576 < length text
RefusesModules text (f.Module (m.Read fault)) = (length text ≤ 1048576) × RefusesText text fault × (fault ≢ r.Memory)
RefusesModules text (f.Module (m.Flat fault)) = ⊥
RefusesModules text (f.Module (m.Mem fault)) = ⊥
RefusesModules text (f.Module (m.Elab fault)) = ⊥
RefusesModules text (f.Set stop) = ⊥
RefusesModules text (f.Bind fault) = ⊥
RefusesModules text f.NoLine = ⊥
RefusesModules text f.Keeper = ⊥
RefusesModules text f.Memory = Unit {0}

-- the set's text is too long, isn't read, or spells a set whose structure has this first fault
abbrev pub RefusesSet : List ℕ → CheckFault → Type 0
RefusesSet text (f.Set t.TooLong) = 1048576 < length text
RefusesSet text (f.Set (t.Read fault)) = (length text ≤ 1048576) × RefusesSetText text fault × (fault ≢ s.Memory)
RefusesSet text (f.Set (t.Graph u)) = (length text ≤ 1048576) × Spells text u.set × IsFirst u.set u.fault
RefusesSet text (f.Module fault) = ⊥
RefusesSet text (f.Bind fault) = ⊥
RefusesSet text f.NoLine = ⊥
RefusesSet text f.Keeper = ⊥
RefusesSet text f.Memory = Unit {0}
