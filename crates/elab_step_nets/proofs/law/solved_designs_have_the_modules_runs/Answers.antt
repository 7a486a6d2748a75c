use Rattle.vlog_tree_runs.specs.Cycles.{flat_place}
use Rattle.elab_flat_faults.specs.Paths.{width_in}
use Rattle.elab_flat_faults.specs.Drivers.{DependsOn}
use Rattle.elab_step_nets.proofs.Elaborating.{solvable, are_clocked_blocks}
use Rattle.elab_step_nets.proofs.Runs.{has_runs}
use Rattle.elab_step_nets.proofs.Texts.{text_is}
use Rattle.elab_step_nets.proofs.law.solved_designs_have_the_modules_runs.Goals as goal

pub returns : goal.returns
returns c f xss d can none order groups is =
    let text = text_is f can in
    has_runs f (DependsOn f) (width_in (flat_place f)) (solvable f text none c.bits_stay.ensures.block c.bits_are_apart.ensures.block c.bits_follow.ensures.assignment c.bits_follow.ensures.paths)
    (are_clocked_blocks f text none c.bits_stay.ensures.block c.bits_are_apart.ensures.block c.bits_follow.ensures.assignment c.bits_follow.ensures.paths) xss order groups d is
