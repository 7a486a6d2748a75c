use Rattle.std.proofs.Common.{◌<◌, length, arith, ◌∙◌}
use Rattle.elab_step_flow.proofs.Spotting.{word_copied, row_copied}
use Rattle.elab_step_flow.proofs.branches.spot_at.Goals as goal

pub returns-clause-spot : goal.returns-clause-spot
returns-clause-spot c =
    let place = c.args.place in
    let words = c.args.flow.now.unset.items in
    let rows = c.args.flow.now.through.items in
    let lines : place < length rows = omega (arith, c.requires.sized.through, c.requires.within) in
    record {
      word = word_copied words place c.index-2.result.now _ c.requires.within c.index-2.ensures;
      row = c.in_ok-row.ensures.items_if_clones_equal (λ x y e. e) ∙ (c.as_slice.ensures.value ∙ row_copied rows place c.index.result.now _ lines c.index.ensures);
    }
