-- What a stage refuses after both texts were read.
use Rattle.std.proofs.Common.{◌≡◌, ℕ, List}
use Rattle.vlog_tree.specs.declared.module.Module.{Module}
use Rattle.set_tree.specs.declared.set.Set.{Set}
use Rattle.elab_step_design.specs.Designs.{Parts}
use Rattle.unroll_binding.specs.declared.fault.BindFault.{BindFault}
use Rattle.unroll_binding.specs.declared.fault.BindFault.TheVariants as b
use Rattle.unroll_binding.specs.Binding.{Refuses as BindRefuses}
use Rattle.desk_core_faults.specs.declared.fault.ModuleFault.TheVariants as m
use Rattle.desk_core_faults.specs.declared.fault.CheckFault.{CheckFault}
use Rattle.desk_core_faults.specs.declared.fault.CheckFault.TheVariants as f
use Rattle.desk_core_stages.specs.Stages.{IsDesignOf, Refuses, RefusesDesign, unbound}
use Rattle.desk_core_stages.specs.Texts.{IsModuleText, IsSetText}

module _ (text set_text : List ℕ) (ms : List Module) (set : Set) (modules : IsModuleText text ms) (set_is : IsSetText set_text set) where
  pub design_refused : (fault : CheckFault) → RefusesDesign ms set.block fault → Refuses text set_text fault
  design_refused (f.Module m.TooLong) h = absurd h
  design_refused (f.Module (m.Read fault)) h = absurd h
  design_refused (f.Module (m.Flat fault)) h = (ms, set, modules, set_is, h)
  design_refused (f.Module (m.Mem fault)) h = (ms, set, modules, set_is, h)
  design_refused (f.Module (m.Elab fault)) h = (ms, set, modules, set_is, h)
  design_refused (f.Set stop) h = absurd h
  design_refused (f.Bind fault) h = absurd h
  design_refused f.NoLine h = absurd h
  design_refused f.Keeper h = absurd h
  design_refused f.Memory h = tt

  pub bind_refused : (d : Parts) → IsDesignOf ms set.block d → (fault : BindFault) → BindRefuses d set fault → Refuses text set_text (unbound fault)
  bind_refused d design (b.Missing n) h = (ms, set, modules, set_is, (d, design, h))
  bind_refused d design (b.WidthOf n) h = (ms, set, modules, set_is, (d, design, h))
  bind_refused d design (b.ExtraInput n) h = (ms, set, modules, set_is, (d, design, h))
  bind_refused d design (b.Role n) h = (ms, set, modules, set_is, (d, design, h))
  bind_refused d design b.Memory h = tt
