use Rattle.std.proofs.Common.{◌<◌, length, arith, ◌∙◌}
use Rattle.elab_step_flow.proofs.Spotting.{put_one}
use Rattle.elab_step_flow.proofs.flow.BlockFlow.put.Goals as goal

pub returns-clause-put : goal.returns-clause-put
returns-clause-put c =
    let lines : c.args.spot.now.place < length c.args.self.now.through.items = omega (arith, c.requires.sized.through, c.requires.within) in
    put_one c.args.spot.now c.args.self.now.unset.items c.args.self.now.through.items c.in_ok-row.row c.args.self.now.outside.items c.requires.within lines (c.in_ok-row.ensures.items_if_clones_equal (λ x y e. e) ∙ c.as_slice.ensures.value)
