-- What two texts are to a check, and why a stage refuses them.
use Rattle.std.specs.Prelude.{ℕ, ◌≡◌, List}
use Rattle.vlog_tree.specs.declared.module.Module.{Module}
use Rattle.vlog_tree_runs.specs.declared.flat.Flat.{Flat}
use Rattle.vlog_tree_runs.specs.Places.{Name}
use Rattle.elab_flat_laws.specs.Flattened.{KeepsRuns}
use Rattle.elab_flat_faults.specs.declared.flattening.FlatFault.{FlatFault}
use Rattle.elab_flat_faults.specs.FlatStands.{Stands as StandsFlat}
use Rattle.elab_flat_faults.specs.Handed.{HasClocks, HasNoMemories, HasTopPorts, IsFlattened}
use Rattle.mem_laws.specs.Spread.{spread_flat}
use Rattle.mem_laws.specs.Stands.{IsFaultless as HasNoMemoryFault}
use Rattle.mem_faults.specs.Faults.{IsFirstFault}
use Rattle.elab_flat_faults.specs.declared.elaborating.ElabFault.{ElabFault}
use Rattle.elab_step.specs.Asked.{IsFaultOf}
use Rattle.elab_step.specs.Parts.{HasSignals}
use Rattle.elab_step_design.specs.Designs.{HasRunsOf, Parts}
use Rattle.set_tree.specs.declared.set.Set.{Set}
use Rattle.unroll_binding.specs.declared.fault.BindFault.{BindFault}
use Rattle.unroll_binding.specs.declared.fault.BindFault.TheVariants as b
use Rattle.unroll_binding.specs.Binding.{Fits, Pair, Stands as StandsBetween}
use Rattle.desk_core_faults.specs.declared.fault.ModuleFault.TheVariants as m
use Rattle.desk_core_faults.specs.declared.fault.CheckFault.{CheckFault}
use Rattle.desk_core_faults.specs.declared.fault.CheckFault.TheVariants as f
use Rattle.desk_core_stages.specs.Texts.{IsModuleText, IsSetText, RefusesModules, RefusesSet}

-- ---- what the stages give

-- modules without a fault of flattening are from their top this module without instances, in which names may be memories
pub record IsFaultlessFlatOf (ms : List Module) (top : Name) (flat : Flat) : Type 0 where
  pub flattened : IsFlattened ms top flat
  pub faultless : (fault : FlatFault) → StandsFlat ms top fault → ⊥

-- and where it has no fault of memories, this one without memories, which has the runs of the modules and the top's ports and clocks
pub record IsPlainFlatOf (ms : List Module) (top : Name) (flat : Flat) : Type 0 where
  pub whole : Flat
  pub whole_of : IsFaultlessFlatOf ms top whole
  pub unfaulted : HasNoMemoryFault whole
  pub spread : flat ≡ spread_flat whole
  pub keeps : KeepsRuns ms top flat
  pub ports : HasTopPorts ms top flat
  pub clocks : HasClocks ms top flat
  pub plain : HasNoMemories flat

-- it has no fault of elaboration, and the design has its runs, its signals and its header
pub record IsDesignOf (ms : List Module) (top : Name) (d : Parts) : Type 0 where
  pub flat : Flat
  pub flat_of : IsPlainFlatOf ms top flat
  pub clean : (fault : ElabFault) → IsFaultOf flat fault → ⊥
  pub runs : HasRunsOf flat d
  pub signals : HasSignals flat d

-- the set of one text fits the design of the other's modules from the set's block
pub record IsBoundOf (text set_text : List ℕ) (b : Pair) : Type 0 where
  pub modules : List Module
  pub module_is : IsModuleText text modules
  pub set_is : IsSetText set_text b.set
  pub design_is : IsDesignOf modules b.set.block b.design
  pub fits : Fits b.design b.set

-- ---- refusals

-- a fault of flattening stands for the modules; or none does, and a fault of memories is the first that stands; or none does, and a fault of elaboration
-- stands
abbrev pub RefusesDesign : List Module → Name → CheckFault → Type 0
RefusesDesign ms top (f.Module (m.Flat fault)) = StandsFlat ms top fault
RefusesDesign ms top (f.Module (m.Mem fault)) = (whole : Flat) × IsFaultlessFlatOf ms top whole × IsFirstFault whole fault
RefusesDesign ms top (f.Module (m.Elab fault)) = (flat : Flat) × IsPlainFlatOf ms top flat × IsFaultOf flat fault
RefusesDesign ms top (f.Module m.TooLong) = ⊥
RefusesDesign ms top (f.Module (m.Read fault)) = ⊥
RefusesDesign ms top (f.Set stop) = ⊥
RefusesDesign ms top (f.Bind fault) = ⊥
RefusesDesign ms top f.NoLine = ⊥
RefusesDesign ms top f.Keeper = ⊥
RefusesDesign ms top f.Memory = Unit {0}

-- the stages that refuse after texts were read
abbrev pub RefusesAfter : (List Module → Set → Type 0) → List ℕ → List ℕ → Type 0
RefusesAfter P text set_text = (ms : List Module) × (set : Set) × IsModuleText text ms × IsSetText set_text set × P ms set

-- the first stage that refuses, and why
abbrev pub Refuses : List ℕ → List ℕ → CheckFault → Type 0
Refuses text set_text (f.Module m.TooLong) = RefusesModules text (f.Module m.TooLong)
Refuses text set_text (f.Module (m.Read fault)) = RefusesModules text (f.Module (m.Read fault))
Refuses text set_text (f.Set stop) = ((ms : List Module) × IsModuleText text ms) × RefusesSet set_text (f.Set stop)
Refuses text set_text (f.Module (m.Flat fault)) = RefusesAfter (λ ms set. RefusesDesign ms set.block (f.Module (m.Flat fault))) text set_text
Refuses text set_text (f.Module (m.Mem fault)) = RefusesAfter (λ ms set. RefusesDesign ms set.block (f.Module (m.Mem fault))) text set_text
Refuses text set_text (f.Module (m.Elab fault)) = RefusesAfter (λ ms set. RefusesDesign ms set.block (f.Module (m.Elab fault))) text set_text
Refuses text set_text (f.Bind fault) = RefusesAfter (λ ms set. (d : Parts) × IsDesignOf ms set.block d × StandsBetween d set fault) text set_text
Refuses text set_text f.NoLine = ⊥
Refuses text set_text f.Keeper = ⊥
Refuses text set_text f.Memory = Unit {0}

-- a set that doesn't fit its design
abbrev pub unbound : BindFault → CheckFault
unbound (b.Missing n) = f.Bind (b.Missing n)
unbound (b.WidthOf n) = f.Bind (b.WidthOf n)
unbound (b.ExtraInput n) = f.Bind (b.ExtraInput n)
unbound (b.Role n) = f.Bind (b.Role n)
unbound b.Memory = f.Memory
