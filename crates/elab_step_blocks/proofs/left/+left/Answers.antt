use Rattle.std.proofs.Common.{◌≡◌, ◌+◌, ◌++◌, ◌<◌, ◌∷◌, [], take, length, sym, subst, ap, ◌∙◌, arith}
use Rattle.elab_step_expr.specs.Leaves.{declared}
use Rattle.elab_step_expr.proofs.Kept.{keeps_same, keeps_then}
use Rattle.elab_step_blocks.specs.Lefts.{AreParts}
use Rattle.elab_step_blocks.proofs.Sides.{each_ready, one_part, more_parts, parts_kept, concat_parts}
use Rattle.elab_step_blocks.proofs.Joins.{take_next}
use Rattle.elab_step_blocks.proofs.left.+left.Goals as goal

pub row_targets-one-requires : goal.row_targets-one-requires
row_targets-one-requires t c =
    let lt : c.loop-left.left-index < length c.args.lefts.now = omega (arith, c.loop-left-test.true, c.loop-left.auto.left-index-end) in
    each_ready (declared c.args.leaves.now) c.args.lefts.now c.loop-left.left-index c.left-item.result _ c.requires.lefts lt c.left-item.is

pub row_targets-loop-left-preserved : goal.row_targets-loop-left-preserved
row_targets-loop-left-preserved t c =
    let es = c.args.leaves.now in
    let now = c.loop-left.dag in
    let new = c.targets_of.new.dag in
    let i = c.loop-left.left-index in
    let lt : i < length c.args.lefts.now = omega (arith, c.loop-left-test.true, c.loop-left.auto.left-index-end) in
    let m = c.in_ok-more.ensures in
    let step = more_parts es new c.loop-left.all.items c.in_ok-more.more.items c.append.new.self.items (take i c.args.lefts.now) (c.one.result.now ∷ [])
    (parts_kept es now new c.loop-left.all.items (take i c.args.lefts.now) c.loop-left.invariant.ready m.keeps c.loop-left.invariant.parts) m.parts c.in_ok-append.ensures.items in
    let row : take i c.args.lefts.now ++ c.one.result.now ∷ [] ≡ take (i + 1) c.args.lefts.now =
    ap (λ z. take i c.args.lefts.now ++ z ∷ []) c.one.ensures.same ∙ sym (take_next c.args.lefts.now i c.left-item.result _ lt c.left-item.is) in
    record {
      keeps = keeps_then c.args.dag.now now new c.loop-left.invariant.keeps m.keeps;
      ready = m.ready;
      parts = subst (λ z. AreParts es new c.append.new.self.items z) row step;
    }

pub targets_of-returns-in_ok-targets-in-Name-clause-parts : goal.targets_of-returns-in_ok-targets-in-Name-clause-parts
targets_of-returns-in_ok-targets-in-Name-clause-parts t c =
    subst (λ z. AreParts c.args.leaves.now c.args.dag.now c.in_ok-targets-in-Name.targets.items (z ∷ [])) (sym c.in-Name.is)
    (one_part c.args.leaves.now c.args.dag.now c.whole.result _ c.in_ok-targets-in-Name.targets.items (c.whole.ensures c.args.dag.now) c.in_ok-targets-in-Name.ensures)

pub targets_of-returns-in_ok-targets-in-Concat-clause-parts : goal.targets_of-returns-in_ok-targets-in-Concat-clause-parts
targets_of-returns-in_ok-targets-in-Concat-clause-parts t c =
    concat_parts c.args.leaves.now c.row_targets.new.dag c.args.left.now c.in-Concat.lefts c.row.result.now c.in_ok-targets-in-Concat.targets.items c.in-Concat.is c.row.ensures.same c.in_ok-targets-in-Concat.ensures.parts

pub row_targets-returns-in_err-more-clause-keeps : goal.row_targets-returns-in_err-more-clause-keeps
row_targets-returns-in_err-more-clause-keeps t c = keeps_then c.args.dag.now c.loop-left.dag c.targets_of.new.dag c.loop-left.invariant.keeps c.targets_of.ensures.keeps

pub row_targets-returns-in_err-append-clause-keeps : goal.row_targets-returns-in_err-append-clause-keeps
row_targets-returns-in_err-append-clause-keeps t c = keeps_then c.args.dag.now c.loop-left.dag c.targets_of.new.dag c.loop-left.invariant.keeps c.in_ok-more.ensures.keeps

pub targets_of-returns-in_err-targets-in-Name-clause-keeps : goal.targets_of-returns-in_err-targets-in-Name-clause-keeps
targets_of-returns-in_err-targets-in-Name-clause-keeps t c = keeps_same c.args.dag.now

pub targets_of-returns-in_ok-targets-in-Name-clause-keeps : goal.targets_of-returns-in_ok-targets-in-Name-clause-keeps
targets_of-returns-in_ok-targets-in-Name-clause-keeps t c = keeps_same c.args.dag.now
