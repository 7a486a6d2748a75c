use Rattle.std.proofs.Common.{◌≡◌, ◌∙◌, pos, ◌+ℤ◌, ◌-◌, ap, subst, sym, to_z, of_z, arith}
use mir.Syntax.{w128}
use Rattle.std.proofs.lemmas.Int.{ints}
use Rattle.vlog_tree.specs.Valuation.{IsLength}
use Rattle.vlog_tree.specs.Value.{natural}
use Rattle.elab_step_blocks.specs.declared.targets.Spot.TheVariants as s
use Rattle.elab_step_blocks.proofs.Sides.{leaf_read, down_part}
use Rattle.elab_step_blocks.proofs.left.downward.Goals as goal

pub returns-clause-part : goal.returns-clause-part
returns-clause-part c =
    let es = c.args.leaves.now in
    let i = c.leaf_number-leaf.result in
    let l = c.leaf.result.now in
    let f = c.plus-from.ensures in
    let n = c.in_ok-number.number in
    let lo = c.in_ok-number.ensures.low in
    let hi = c.in_ok-number.ensures.high in
    let y : to_z w128 (of_z w128 n) ≡ n = omega (arith, ints, lo, hi) in
    let count = c.counted-count.ensures ∙ ap natural y in
    let z : to_z w128 (of_z w128 c.plus-from.result) ≡ c.plus-from.result = omega (arith, ints, f.value, f.small, f.few) in
    down_part es c.args.name.now i (leaf_read es c.args.name.now i l c.leaf.ensures c.leaf_number-leaf.ensures) c.index_of.new.dag _ c.args.bounds.a.now c.args.bounds.b.now c.in_ok-index.index n c.plus-from.result
    c.requires.constant c.in_ok-number.ensures.value (subst (λ k. IsLength (natural k)) (sym c.in_ok-number.ensures.value) c.requires.count) c.in_ok-index.ensures.index f.small (f.value ∙ ap (λ k. pos l.low +ℤ pos (k - 1)) count)
    (λ r. record { leaf = i; spot = s.Indexed c.in_ok-index.index (z r); count = count r })
