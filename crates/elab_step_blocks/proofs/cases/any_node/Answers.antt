use Rattle.std.proofs.Common.{◌<◌, ◌≤◌, length, sym, subst, ap, ◌∙◌, arith}
use Rattle.std.specs.List.{list_any}
use Rattle.vlog_tree.specs.Value.{bit}
use Rattle.elab_step_expr.specs.Leaves.{declared, valued}
use Rattle.elab_step_expr.specs.Nodes.{number_at, words}
use Rattle.elab_step_expr.proofs.Kept.{made_same, made_node, made_number, number_kept, valued_kept, keeps_then}
use Rattle.elab_step_blocks.specs.Cases.{is_match}
use Rattle.elab_step_blocks.specs.Ready.{IsPlaced}
use Rattle.elab_step_blocks.proofs.Joins.{take_all}
use Rattle.elab_step_blocks.proofs.Matching.{any_next, placed_at}
use Rattle.elab_step_blocks.proofs.cases.any_node.Goals as goal

pub label_node-requires-clause-label : goal.label_node-requires-clause-label
label_node-requires-clause-label c =
    let v = declared c.args.leaves.now in
    let lt : c.loop-label.label-index < length c.args.labels.now = omega (arith, c.loop-label-test.true, c.loop-label.auto.label-index-end) in
    subst (λ z. IsPlaced v z c.args.subject.wire.width c.args.subject.signed) (sym c.label-item.is) (placed_at v c.args.labels.now c.args.subject.wire.width c.args.subject.signed c.loop-label.label-index _ c.requires.labels lt)

pub loop-label-preserved : goal.loop-label-preserved
loop-label-preserved c =
    let d = c.args.dag.now in
    let now = c.loop-label.dag in
    let one = c.label_node.new.dag in
    let new = c.either.new.dag in
    let h = c.loop-label.invariant in
    let o = c.in_ok-one.ensures in
    let m = c.in_ok-any-2.ensures in
    let x = c.args.subject.wire in
    let lt : c.loop-label.label-index < length c.args.labels.now = omega (arith, c.loop-label-test.true, c.loop-label.auto.label-index-end) in
    record {
      keeps = keeps_then d now new h.keeps (keeps_then now one new o.keeps m.keeps);
      any = made_same new c.in_ok-any-2.any 1 _ _ m.makes
          (λ e. any_next (is_match c.args.subject.kind (valued c.args.leaves.now (words e d)) x.width c.args.subject.signed (number_at e d x.node)) c.args.labels.now c.loop-label.label-index _ _ _ lt
          (number_kept e now one c.loop-label.any 1 o.keeps (made_node now c.loop-label.any 1 _ h.any) ∙ made_number e now c.loop-label.any 1 _ h.any)
          (made_number e one c.in_ok-one.one 1 _ o.makes
          ∙ (λ z. bit (is_match c.args.subject.kind (valued_kept e c.args.leaves.now d now h.keeps c.requires.ready z) x.width c.args.subject.signed (number_kept e d now x.node x.width h.keeps c.requires.subject z) (c.label-item.is z)))));
    }

pub returns-clause-makes : goal.returns-clause-makes
returns-clause-makes c =
    let d = c.args.dag.now in
    let le : length c.args.labels.now ≤ c.loop-label.label-index = omega (arith, c.loop-label-test.false, c.loop-label.auto.label-index-end) in
    made_same c.loop-label.dag c.loop-label.any 1 _ _ c.loop-label.invariant.any
    (λ e. ap (λ z. bit (list_any (is_match c.args.subject.kind (valued c.args.leaves.now (words e d)) c.args.subject.wire.width c.args.subject.signed (number_at e d c.args.subject.wire.node)) z)) (take_all c.args.labels.now c.loop-label.label-index le))

pub returns-in_err-one-clause-keeps : goal.returns-in_err-one-clause-keeps
returns-in_err-one-clause-keeps c = keeps_then c.args.dag.now c.loop-label.dag c.label_node.new.dag c.loop-label.invariant.keeps c.label_node.ensures.keeps

pub returns-in_err-any-2-clause-keeps : goal.returns-in_err-any-2-clause-keeps
returns-in_err-any-2-clause-keeps c = keeps_then c.args.dag.now c.loop-label.dag c.either.new.dag c.loop-label.invariant.keeps (keeps_then c.loop-label.dag c.label_node.new.dag c.either.new.dag c.in_ok-one.ensures.keeps c.either.ensures.keeps)
