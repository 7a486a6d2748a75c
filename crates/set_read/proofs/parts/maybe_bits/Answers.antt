use Rattle.std.proofs.Common.{arith}
use Rattle.vlog_read_expr.proofs.SignTests.{yes_by, no_by}
use Rattle.std.proofs.lemmas.Result.{err_from_is_err_and}
use Rattle.set_read.proofs.PartSteps.{no_bits, some_bits}
use Rattle.set_read.proofs.parts.maybe_bits.Goals as goal

pub returns-in_ok-bits-clause-only : goal.returns-in_ok-bits-clause-only
returns-in_ok-bits-clause-only c = λ x j q g. let s = some_bits c.args.tokens.now c.args.at (yes_by _ c.is_sign.ensures c.if-is_sign.true) x j q g in omega (arith, s.1.5, c.in_ok-bits.ensures.spelt.5)

pub returns-in_err-bits-clause-only : goal.returns-in_err-bits-clause-only
returns-in_err-bits-clause-only c =
    let p = err_from_is_err_and c.from_residual.result c.from_residual.ensures.1 in
    rw (p.1, p.2) (λ x j q g. let s = some_bits c.args.tokens.now c.args.at (yes_by _ c.is_sign.ensures c.if-is_sign.true) x j q g in absurd (c.in_err-bits.ensures.none s.0 j s.1))

pub returns-else-is_sign-clause-only : goal.returns-else-is_sign-clause-only
returns-else-is_sign-clause-only c = λ x j q g. no_bits c.args.tokens.now c.args.at (no_by _ c.is_sign.ensures c.if-is_sign.false) x j q
