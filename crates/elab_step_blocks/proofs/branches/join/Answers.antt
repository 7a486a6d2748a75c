use Rattle.std.proofs.Common.{◌≡◌, ◌<◌, ◌≤◌, length, get_or, take, ◌+◌, refl, sym, subst, ap, ◌∙◌, arith}
use Rattle.std.specs.Prelude.{nat_eq, if◌then◌else◌}
use Rattle.elab_step_expr.specs.Nodes.{IsNode, number_at}
use Rattle.elab_step_expr.proofs.Kept.{node_kept}
use Rattle.elab_step_blocks.specs.declared.branches.Saved.{Saved}
use Rattle.elab_step_blocks.specs.Saving.{node_at}
use Rattle.elab_step_blocks.specs.Targets.{width_at}
use Rattle.elab_step_blocks.proofs.Giving.{leaf_width, width_same}
use Rattle.elab_step_blocks.proofs.Joins.{ready_at, long_same}
use Rattle.elab_step_blocks.proofs.Saving.{Joining, node_get, saved_get, joining_at, joining_all}
use Rattle.elab_step_blocks.proofs.branches.join.Goals as goal

pub leaf-leaf-requires : goal.leaf-leaf-requires
leaf-leaf-requires c =
    let lt : c.loop-other.other-index < length c.args.others.now = omega (arith, c.loop-other-test.true, c.loop-other.auto.other-index-end) in
    let at = saved_get c.args.state.now c.args.others.now c.args.dag.now c.loop-other.other-index (get_or c.args.others.now c.loop-other.other-index (record { place = 0; node = 0 })) _ c.requires.others lt refl in
    omega (arith, at.0, long_same c.args.state.now c.loop-other.state c.loop-other.invariant.same)

pub joined_node-requires-clause-one : goal.joined_node-requires-clause-one
joined_node-requires-clause-one c =
    let lt : c.loop-other.other-index < length c.args.others.now = omega (arith, c.loop-other-test.true, c.loop-other.auto.other-index-end) in
    let at = saved_get c.args.state.now c.args.others.now c.args.dag.now c.loop-other.other-index (get_or c.args.others.now c.loop-other.other-index (record { place = 0; node = 0 })) _ c.requires.others lt refl in
    ready_at c.loop-other.state c.loop-other.dag _ c.leaf-leaf.result.now c.loop-other.invariant.ready (omega (arith, at.0, long_same c.args.state.now c.loop-other.state c.loop-other.invariant.same)) c.leaf-leaf.ensures

pub joined_node-requires-clause-other : goal.joined_node-requires-clause-other
joined_node-requires-clause-other c =
    let ls = c.args.state.now in
    let ms = c.loop-other.state in
    let lt : c.loop-other.other-index < length c.args.others.now = omega (arith, c.loop-other-test.true, c.loop-other.auto.other-index-end) in
    let o : Saved = get_or c.args.others.now c.loop-other.other-index (record { place = 0; node = 0 }) in
    let at = saved_get ls c.args.others.now c.args.dag.now c.loop-other.other-index o _ c.requires.others lt refl in
    let in' : o.place < length ms = omega (arith, at.0, long_same ls ms c.loop-other.invariant.same) in
    let wide : width_at ls o.place ≡ c.leaf-leaf.result.now.width = sym (width_same ls ms o.place c.loop-other.invariant.same) ∙ leaf_width ms o.place c.leaf-leaf.result.now in' c.leaf-leaf.ensures in
    subst (λ w. IsNode c.loop-other.dag o.node w) wide (node_kept c.args.dag.now c.loop-other.dag o.node (width_at ls o.place) c.loop-other.invariant.keeps at.1)

pub set_node-requires : goal.set_node-requires
set_node-requires c =
    let lt : c.loop-other.other-index < length c.args.others.now = omega (arith, c.loop-other-test.true, c.loop-other.auto.other-index-end) in
    let at = saved_get c.args.state.now c.args.others.now c.args.dag.now c.loop-other.other-index (get_or c.args.others.now c.loop-other.other-index (record { place = 0; node = 0 })) _ c.requires.others lt refl in
    omega (arith, at.0, long_same c.args.state.now c.loop-other.state c.loop-other.invariant.same)

pub loop-other-preserved : goal.loop-other-preserved
loop-other-preserved c =
    let ls = c.args.state.now in
    let ms = c.loop-other.state in
    let a = c.loop-other.dag in
    let b = c.joined_node.new.dag in
    let z = c.args.condition in
    let i = c.loop-other.other-index in
    let h = c.loop-other.invariant in
    let n = c.in_ok-node.ensures in
    let leaf = c.leaf-leaf.result.now in
    let lt : i < length c.args.others.now = omega (arith, c.loop-other-test.true, c.loop-other.auto.other-index-end) in
    let o : Saved = get_or c.args.others.now i (record { place = 0; node = 0 }) in
    let at = saved_get ls c.args.others.now c.args.dag.now i o _ c.requires.others lt refl in
    let in' : o.place < length ms = omega (arith, at.0, long_same ls ms h.same) in
    let wide : width_at ms o.place ≡ leaf.width = leaf_width ms o.place leaf in' c.leaf-leaf.ensures in
    let node : leaf.node ≡ node_at ms o.place = node_get ms o.place leaf in' c.leaf-leaf.ensures in
    subst (λ q. Joining z (take (i + 1) c.args.others.now) ls c.args.dag.now q b) (sym c.set_node.ensures)
    (joining_at z c.in_ok-node.node c.args.others.now i o _ ls ms c.args.dag.now a b c.requires.condition c.requires.others lt refl h n.keeps
    (subst (λ w. IsNode b c.in_ok-node.node w) (sym wide) n.node)
    (λ e. n.number e ∙ ap (λ k. if nat_eq (number_at e a z) 1 then number_at e a k else number_at e a o.node) node))

pub returns-clause-joins : goal.returns-clause-joins
returns-clause-joins c =
    let le : length c.args.others.now ≤ c.loop-other.other-index = omega (arith, c.loop-other-test.false, c.loop-other.auto.other-index-end) in
    joining_all c.args.condition c.args.others.now c.loop-other.other-index c.args.state.now c.loop-other.state c.args.dag.now c.loop-other.dag le c.loop-other.invariant
