use Rattle.std.proofs.Common.{◌≡◌, ◌∙◌, List, ℕ, ap, subst, sym}
use Rattle.vlog_tree.specs.declared.module.Module.{Module}
use Rattle.set_tree.specs.declared.set.Set.{Set}
use Rattle.desk_core_stages.specs.Stages.{IsDesignOf, Refuses, RefusesDesign}
use Rattle.desk_core_stages.proofs.Binding.{bind_refused, design_refused}
use Rattle.desk_core_faults.specs.declared.fault.CheckFault.{CheckFault}
use Rattle.desk_core_stages.proofs.bound.bound_of.Goals as goal

pub returns-in-Err-clause-err : goal.returns-in-Err-clause-err
returns-in-Err-clause-err c =
    let set = c.in_ok-sound.sound in
    let ms = c.in_ok-modules.modules.items in
    let top : c.bytes.result.now ≡ set.block = c.bytes.ensures ∙ ap (λ (z : Set). z.block) c.set.ensures.value in
    let here = subst (λ (zs : List Module). RefusesDesign zs c.bytes.result.now c.in-Err.fault) c.deref.ensures.value c.in-Err.ensures.err in
    design_refused c.args.module.now c.args.set.now ms set c.in_ok-modules.ensures.ok c.in_ok-sound.ensures.ok c.in-Err.fault (subst (λ (x : List ℕ). RefusesDesign ms x c.in-Err.fault) top here)

pub returns-clause-err : goal.returns-clause-err
returns-clause-err c =
    let set = c.in_ok-sound.sound in
    let ms = c.in_ok-modules.modules.items in
    let d = c.in-Ok.design in
    let top : c.bytes.result.now ≡ set.block = c.bytes.ensures ∙ ap (λ (z : Set). z.block) c.set.ensures.value in
    let here = subst (λ (zs : List Module). IsDesignOf zs c.bytes.result.now d) c.deref.ensures.value c.in-Ok.ensures.ok in
    let design = subst (λ (x : List ℕ). IsDesignOf ms x d) top here in
    let refused = bind_refused c.args.module.now c.args.set.now ms set c.in_ok-modules.ensures.ok c.in_ok-sound.ensures.ok d design c.in-Err-bind.fault c.in-Err-bind.ensures.err in
    subst (λ (x : CheckFault). Refuses c.args.module.now c.args.set.now x) (sym c.unbound.ensures) refused
