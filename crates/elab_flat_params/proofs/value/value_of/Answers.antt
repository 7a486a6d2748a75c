use Rattle.std.proofs.Common.{sym, ap, subst, ◌∙◌}
use Rattle.std.specs.Option.{option_copied}
use Rattle.elab_flat_scopes.specs.Borrowed.{param_meant}
use Rattle.elab_flat_params.specs.Values.{HasBits}
use Rattle.elab_flat_params.proofs.Values.{unfit_value}
use Rattle.elab_flat_params.proofs.value.value_of.Goals as goal

pub returns-in-Err-clause-err : goal.returns-in-Err-clause-err
returns-in-Err-clause-err c =
    let bad = rw c.in-Err.is at c.in_ok-bits.ensures.err in
    (bad.0, sym c.range_of.ensures ∙ bad.1, bad.2)

pub returns-in-Err-overridden-clause-err : goal.returns-in-Err-overridden-clause-err
returns-in-Err-overridden-clause-err c =
    let p = param_meant c.args.param.now in
    let bits = subst (λ o. HasBits c.args.done.now o c.in-Ok.vector) c.range_of.ensures (rw c.in-Ok.is at c.in_ok-bits.ensures.ok) in (
      c.in-Some.expr.now,
      ap option_copied c.in-Some.is,
      unfit_value p c.args.done.now c.in-Ok.vector bits c.args.outer.now c.in-Some.expr.now c.in-Err-overridden.cause (rw c.in-Err-overridden.is at c.in_ok-overridden-in-Some.ensures.err),
    )
