use Rattle.std.proofs.Common.{◌≡◌, ◌<◌, length, get_or, take, refl, sym, ap, ◌∙◌, arith}
use Rattle.elab_step_expr.specs.Leaves.{with_node}
use Rattle.elab_step_blocks.specs.declared.branches.Saved.{Saved}
use Rattle.elab_step_blocks.specs.Saving.{put_back}
use Rattle.elab_step_blocks.proofs.Joins.{take_next, long_same}
use Rattle.elab_step_blocks.proofs.Saving.{within_get, back_next, back_declared}
use Rattle.elab_step_blocks.proofs.branches.put_back.Goals as goal

pub set_node-requires : goal.set_node-requires
set_node-requires c =
    let ls = c.args.leaves.now in
    let i = c.loop-one.one-index in
    let lt : i < length c.args.nodes.now = omega (arith, c.loop-one-test.true, c.loop-one.auto.one-index-end) in
    let one : Saved = get_or c.args.nodes.now i (record { place = 0; node = 0 }) in
    let within : one.place < length ls = within_get ls c.args.nodes.now i one _ c.requires lt refl in
    let long : length c.loop-one.leaves ≡ length ls = ap length c.loop-one.invariant ∙ long_same ls (put_back ls (take i c.args.nodes.now)) (back_declared ls (take i c.args.nodes.now)) in
    omega (arith, within, long)

pub loop-one-preserved : goal.loop-one-preserved
loop-one-preserved c =
    let ls = c.args.leaves.now in
    let ss = c.args.nodes.now in
    let i = c.loop-one.one-index in
    let lt : i < length ss = omega (arith, c.loop-one-test.true, c.loop-one.auto.one-index-end) in
    let one : Saved = get_or ss i (record { place = 0; node = 0 }) in
    c.set_node.ensures ∙ (ap (λ q. with_node q one.place one.node) c.loop-one.invariant ∙ (sym (back_next ls (take i ss) one) ∙ ap (put_back ls) (sym (take_next ss i one _ lt refl))))
