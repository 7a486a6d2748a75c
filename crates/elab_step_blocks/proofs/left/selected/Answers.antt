use Rattle.std.proofs.Common.{◌≡◌, to_z, of_z, arith}
use mir.Syntax.{w128}
use Rattle.std.proofs.lemmas.Int.{ints}
use Rattle.elab_step_blocks.specs.declared.targets.Spot.TheVariants as s
use Rattle.elab_step_blocks.proofs.Sides.{leaf_read, bit_part}
use Rattle.elab_step_blocks.proofs.left.selected.Goals as goal

pub returns-clause-part : goal.returns-clause-part
returns-clause-part c =
    let es = c.args.leaves.now in
    let i = c.leaf_number-leaf.result in
    let l = c.leaf.result.now in
    let f = c.plus-from.ensures in
    let z : to_z w128 (of_z w128 c.plus-from.result) ≡ c.plus-from.result = omega (arith, ints, f.value, f.small, f.few) in
    bit_part es c.args.name.now i (leaf_read es c.args.name.now i l c.leaf.ensures c.leaf_number-leaf.ensures) c.index_of.new.dag _ c.args.index.now c.in_ok-index.index c.plus-from.result
    c.in_ok-index.ensures.index f.small f.value (λ r. record { leaf = i; spot = s.Indexed c.in_ok-index.index (z r); count = 1 })
