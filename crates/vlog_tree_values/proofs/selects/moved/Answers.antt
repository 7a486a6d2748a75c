use Rattle.std.proofs.Common.{ap, ◌∙◌, arith, to_z, of_z, ℤ, pos, ◌-ℤ◌, ◌<ℤ◌, ◌≤ℤ◌, ◌≡◌}
use Rattle.std.proofs.lemmas.Int.{ints}
use mir.Syntax.{w128}
use Rattle.word_core.specs.Words.{Bits}
use Rattle.vlog_tree_values.proofs.Moves.{lowered_by, raised_by}
use Rattle.vlog_tree_values.proofs.selects.moved.Goals as goal

pub returns-then-distance-lt0 : goal.returns-then-distance-lt0
returns-then-distance-lt0 c =
    let z : ℤ = to_z w128 (of_z w128 (pos 0 -ℤ to_z w128 (of_z w128 c.args.distance))) in
    let is : z ≡ pos 0 -ℤ c.args.distance = omega (arith, ints) in
    let below : c.args.distance <ℤ pos 0 = omega (arith, ints) in
    c.low_bits.ensures ∙ raised_by c.args.distance z c.args.number c.args.width c.value.result c.new-word.result c.steps.result c.requires.most below
    c.new-word.ensures c.steps.ensures is (c.value.ensures.value ∙ ap (λ (w : Bits). w.value) c.shl.ensures)

pub returns : goal.returns
returns c =
    let z : ℤ = to_z w128 (of_z w128 c.args.distance) in
    let is : z ≡ c.args.distance = omega (arith, ints) in
    let above : pos 0 ≤ℤ c.args.distance = omega (arith, ints) in
    c.low_bits-2.ensures ∙ lowered_by c.args.distance z c.args.number c.args.width c.value-2.result c.new-word.result c.steps-2.result c.ranges.number.fits above
    c.new-word.ensures c.steps-2.ensures is (c.value-2.ensures.value ∙ ap (λ (w : Bits). w.value) c.shr.ensures)
