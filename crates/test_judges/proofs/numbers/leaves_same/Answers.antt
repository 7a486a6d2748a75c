use Rattle.std.proofs.Common.{◌≡◌, ◌+◌, ◌<◌, ◌&&◌, true, false, length, drop, slice_index_or, sym, ap, ◌∙◌, arith}
use Rattle.elab_step_expr.specs.Nodes.{number_at}
use Rattle.elab_step_expr.proofs.Kept.{keeps_then, node_kept, number_kept}
use Rattle.test_judges.specs.Numbers.{nought, same_within, leaves_same}
use Rattle.test_judges.proofs.Comparing.{leaf_ready, below_at, same_at, all_same}
use Rattle.test_judges.proofs.numbers.leaves_same.Goals as goal

pub same_within-requires-clause-node : goal.same_within-requires-clause-node
same_within-requires-clause-node c =
    let l = c.leaf-leaf.result.now in
    let lt : c.loop-i.i < length c.args.leaves.now = omega arith in
    node_kept c.args.dag.now c.loop-i.dag l.node l.width c.loop-i.invariant.0 (leaf_ready c.args.leaves.now c.args.dag.now c.loop-i.i l c.requires.ready lt c.leaf-leaf.ensures).1

pub same_within-requires-clause-some : goal.same_within-requires-clause-some
same_within-requires-clause-some c =
    let lt : c.loop-i.i < length c.args.leaves.now = omega arith in
    (leaf_ready c.args.leaves.now c.args.dag.now c.loop-i.i c.leaf-leaf.result.now c.requires.ready lt c.leaf-leaf.ensures).0.0

pub same_within-requires-clause-most : goal.same_within-requires-clause-most
same_within-requires-clause-most c =
    let lt : c.loop-i.i < length c.args.leaves.now = omega arith in
    (leaf_ready c.args.leaves.now c.args.dag.now c.loop-i.i c.leaf-leaf.result.now c.requires.ready lt c.leaf-leaf.ensures).0.1

pub same_within-requires-clause-mask : goal.same_within-requires-clause-mask
same_within-requires-clause-mask c = below_at c.args.leaves.now c.args.masks.now c.loop-i.i c.leaf-leaf.result.now c.requires.masks (omega arith) c.leaf-leaf.ensures

pub same_within-requires-clause-value : goal.same_within-requires-clause-value
same_within-requires-clause-value c = below_at c.args.leaves.now c.args.values.now c.loop-i.i c.leaf-leaf.result.now c.requires.values (omega arith) c.leaf-leaf.ensures

pub returns-then-not-same : goal.returns-then-not-same
returns-then-not-same c =
    let l = c.leaf-leaf.result.now in
    let i = c.loop-i.i in
    let a = c.args.dag.now in
    let ms = c.args.masks.now in
    let vs = c.args.values.now in
    let lt : i < length c.args.leaves.now = omega arith in
    let lm : i < length ms = let e = c.requires.each_mask in omega (arith, e, lt) in
    let lv : i < length vs = let e = c.requires.each_value in omega (arith, e, lt) in
    let t : false ≡ same_within (slice_index_or ms i 0) (number_at nought a l.node) (slice_index_or vs i 0) =
    sym c.if-not-same.true ∙ c.in_ok-same.ensures.same
    ∙ ap (λ n. same_within (slice_index_or ms i 0) n (slice_index_or vs i 0)) (number_kept nought a c.loop-i.dag l.node l.width c.loop-i.invariant.0 (leaf_ready c.args.leaves.now a i l c.requires.ready lt c.leaf-leaf.ensures).1) in
    ap (λ b. b && leaves_same (number_at nought a) (drop (i + 1) ms) (drop (i + 1) c.args.leaves.now) (drop (i + 1) vs)) t
    ∙ sym (same_at (number_at nought a) ms c.args.leaves.now vs i l lm lt lv c.leaf-leaf.ensures) ∙ c.loop-i.invariant.1

pub loop-i-preserved : goal.loop-i-preserved
loop-i-preserved c =
    let l = c.leaf-leaf.result.now in
    let i = c.loop-i.i in
    let a = c.args.dag.now in
    let ms = c.args.masks.now in
    let vs = c.args.values.now in
    let lt : i < length c.args.leaves.now = omega arith in
    let lm : i < length ms = let e = c.requires.each_mask in omega (arith, e, lt) in
    let lv : i < length vs = let e = c.requires.each_value in omega (arith, e, lt) in
    let t : true ≡ same_within (slice_index_or ms i 0) (number_at nought a l.node) (slice_index_or vs i 0) =
    sym c.if-not-same.false ∙ c.in_ok-same.ensures.same
    ∙ ap (λ n. same_within (slice_index_or ms i 0) n (slice_index_or vs i 0)) (number_kept nought a c.loop-i.dag l.node l.width c.loop-i.invariant.0 (leaf_ready c.args.leaves.now a i l c.requires.ready lt c.leaf-leaf.ensures).1) in (
      keeps_then a c.loop-i.dag c.same_within.new.dag c.loop-i.invariant.0 c.in_ok-same.ensures.keeps,
      ap (λ b. b && leaves_same (number_at nought a) (drop (i + 1) ms) (drop (i + 1) c.args.leaves.now) (drop (i + 1) vs)) t
          ∙ sym (same_at (number_at nought a) ms c.args.leaves.now vs i l lm lt lv c.leaf-leaf.ensures) ∙ c.loop-i.invariant.1,
    )

pub returns : goal.returns
returns c =
    let e = c.requires.each_mask in
    sym (all_same (number_at nought c.args.dag.now) c.args.masks.now c.args.leaves.now c.args.values.now c.loop-i.i (omega (arith, e))) ∙ c.loop-i.invariant.1
