use Rattle.std.proofs.Common.{subst}
use Rattle.std.proofs.lemmas.Result.{IfOk-weaker}
use Rattle.elab_step_design.specs.Designs.{IsDesign}
use Rattle.set_tree.specs.Report.{design_lines}
use Rattle.unroll.proofs.Obtaining.{lines_speak}
use Rattle.desk_core_goals.proofs.Obliged.{are_design_lines, obs_of_design}
use Rattle.desk_core_goals.proofs.obs.obs_of_design.Goals as goal

pub returns : goal.returns
returns c =
    let b = c.args.bound.now in
    let design = subst IsDesign c.design.ensures.value c.dag-design.ensures.design in
    IfOk-weaker c.design_obs.result _ _ (λ obs named. obs_of_design b design (design_lines b.set) obs.items (are_design_lines b.set) (lines_speak b.set) named) c.design_obs.ensures
