use Rattle.std.proofs.Common.{ℤ, pos, ◌≤ℤ◌, ◌-ℤ◌, ◌+ℤ◌, to_z, of_z, arith}
use Rattle.std.proofs.lemmas.Int.{ints}
use mir.Syntax.{w128}
use Rattle.elab_flat_params.proofs.Spans.{spans}
use Rattle.elab_flat_params.proofs.range.spanned.Goals as goal

pub returns-clause-ok : goal.returns-clause-ok
returns-clause-ok c =
    let above : pos 0 ≤ℤ c.args.low = omega (arith, ints) in
    let order : c.args.low ≤ℤ c.args.high = omega (arith, ints) in
    let high : ℤ = to_z w128 (of_z w128 c.args.high) in
    let low : ℤ = to_z w128 (of_z w128 c.args.low) in
    let count : ℤ = to_z w128 (of_z w128 (to_z w128 (of_z w128 (high -ℤ low)) +ℤ pos 1)) in
    spans c.args.high c.args.low count low above order (omega (arith, ints)) (omega (arith, ints)) (omega (arith, ints))
