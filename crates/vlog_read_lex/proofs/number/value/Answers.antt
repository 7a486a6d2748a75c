use Rattle.std.proofs.Common.{◌≡◌, ℕ, ◌+◌, ◌^◌, ◌≤◌, get_or, drop, ap, sym, ◌∙◌, arith}
use Rattle.std.specs.Prelude.{fold, None}
use Rattle.vlog_read_lex.specs.Numbers.{put_digit, value, fit}
use Rattle.vlog_read_lex.proofs.NumberLemmas.{fold-next, fold-end, fold-grows, fit_low, fit_high, fit_some, fit_none, fit_small}
use Rattle.vlog_read_lex.proofs.number.value.Goals as goal

pub returns-in_err-made : goal.returns-in_err-made
returns-in_err-made c =
    let made : ℕ = put_digit c.args.base c.loop-digit.made (get_or c.args.digits.now c.loop-digit.digit-index 0) in
    let none : fit made ≡ None = sym c.put_digit.ensures ∙ c.in_err-made.was in
    let high : 2 ^ 64 ≤ made = fit_none made none in
    let step = fold-next (put_digit c.args.base) c.loop-digit.made c.args.digits.now c.loop-digit.digit-index c.loop-digit-test.true in
    let grows = fold-grows c.args.base made (drop (c.loop-digit.digit-index + 1) c.args.digits.now) in
    let is : fold (put_digit c.args.base) made (drop (c.loop-digit.digit-index + 1) c.args.digits.now) ≡ value c.args.base c.args.digits.now =
    sym step ∙ c.loop-digit.invariant.0 in
    let large : 2 ^ 64 ≤ value c.args.base c.args.digits.now = rw (← is) (omega (arith, high, grows)) in
    c.from_residual.ensures ∙ sym (fit_high (value c.args.base c.args.digits.now) large)

pub loop-digit-preserved : goal.loop-digit-preserved
loop-digit-preserved c =
    let made : ℕ = put_digit c.args.base c.loop-digit.made (get_or c.args.digits.now c.loop-digit.digit-index 0) in
    let is : made ≡ c.in_ok-made.made = fit_some made c.in_ok-made.made (sym c.in_ok-made.ensures) in
    let step = fold-next (put_digit c.args.base) c.loop-digit.made c.args.digits.now c.loop-digit.digit-index c.loop-digit-test.true in (
      ap (λ (m : ℕ). fold (put_digit c.args.base) m (drop (c.loop-digit.digit-index + 1) c.args.digits.now)) (sym is) ∙ sym step ∙ c.loop-digit.invariant.0,
      fit_small made c.in_ok-made.made (sym c.in_ok-made.ensures),
    )

pub returns : goal.returns
returns c =
    let end = fold-end (put_digit c.args.base) c.loop-digit.made c.args.digits.now c.loop-digit.digit-index c.loop-digit-test.false in
    let is : c.loop-digit.made ≡ value c.args.base c.args.digits.now = sym end ∙ c.loop-digit.invariant.0 in
    sym (fit_low c.loop-digit.made c.loop-digit.invariant.1) ∙ ap fit is
