use Rattle.std.proofs.Common.{ℕ, ◌∷◌, refl}
use Rattle.std.specs.Fmt.{decimal}
use Rattle.replay.proofs.Putting.{done_in_loop, spaced_each, stopped_in_loop}
use Rattle.replay.proofs.printing.put_values.Goals as goal

pub returns-in_err-put_number : goal.returns-in_err-put_number
returns-in_err-put_number g c =
    stopped_in_loop c.from_residual.result (λ (n : ℕ). 32 ∷ decimal n) c.args.values.now c.loop-value.value-index 0 _ (spaced_each decimal c.args.values.now) c.loop-value-test.true refl c.from_residual.ensures.1 c.loop-value.invariant c.in_err-put_number.ensures

pub returns : goal.returns
returns g c = done_in_loop (λ (n : ℕ). 32 ∷ decimal n) c.args.values.now c.loop-value.value-index (spaced_each decimal c.args.values.now) c.loop-value-test.false c.loop-value.invariant
