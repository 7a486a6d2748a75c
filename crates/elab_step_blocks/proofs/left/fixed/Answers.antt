use Rattle.std.proofs.Common.{◌≡◌, ◌∙◌, ap, pos, ◌-ℤ◌, to_z, of_z, arith}
use mir.Syntax.{w128}
use Rattle.std.proofs.lemmas.Int.{ints}
use Rattle.vlog_tree.specs.Value.{part_width}
use Rattle.vlog_tree.specs.declared.expr.Span.TheVariants as w
use Rattle.elab_step_blocks.specs.declared.targets.Spot.TheVariants as s
use Rattle.elab_step_blocks.proofs.Sides.{leaf_read, fixed_part, fixed_length}
use Rattle.elab_step_blocks.proofs.left.fixed.Goals as goal

pub returns : goal.returns
returns c ns =
    let es = c.args.leaves.now in
    let i = c.leaf_number-leaf.result in
    let l = c.leaf.result.now in
    let low = c.in_ok-low.ensures in
    let high = c.in_ok-high.ensures in
    let f = c.less.ensures in
    let ho = high.low in
    let hh = high.high in
    let lo = low.low in
    let hi = low.high in
    let yl : to_z w128 (of_z w128 c.in_ok-low.low) ≡ c.in_ok-low.low = omega (arith, ints, lo, hi) in
    let yh : to_z w128 (of_z w128 c.in_ok-high.high) ≡ c.in_ok-high.high = omega (arith, ints, ho, hh) in
    let value = f.value ∙ ap (λ k. k -ℤ pos l.low) yl in
    let small = f.small in
    let z : to_z w128 (of_z w128 c.less.result) ≡ c.less.result = omega (arith, ints, value, small, lo, hi) in
    fixed_part es c.args.name.now i (leaf_read es c.args.name.now i l c.leaf.ensures c.leaf_number-leaf.ensures) ns _ c.args.bounds.a.now c.args.bounds.b.now c.in_ok-high.high c.in_ok-low.low c.less.result
    c.requires.constant.0 c.requires.constant.1 high.value low.value (fixed_length es c.args.bounds.a.now c.args.bounds.b.now c.in_ok-high.high c.in_ok-low.low high.value low.value c.requires.count) lo hi small value
    (λ r. record { leaf = i; spot = s.Fixed (z r); count = (c.between.ensures ∙ (λ q. part_width w.Fixed (yh q) (yl q))) r })
