use Rattle.std.proofs.Common.{subst}
use Rattle.std.proofs.lemmas.Result.{IfOk-weaker}
use Rattle.elab_step_design.specs.Designs.{IsDesign}
use Rattle.desk_core_goals.proofs.Obliged.{ob_of_design}
use Rattle.desk_core_goals.proofs.obs.ob_of_design.Goals as goal

pub returns : goal.returns
returns c =
    let b = c.args.bound.now in
    let design = subst IsDesign c.design.ensures.value c.dag-design.ensures.design in
    IfOk-weaker c.design_ob.result _ _ (λ ob named. ob_of_design b design c.args.number c.requires ob named) c.design_ob.ensures
