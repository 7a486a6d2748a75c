use Rattle.std.proofs.Common.{inl, inr, refl}
use Rattle.unroll_binding.specs.Binding.{is_other_reset, is_other_role}
use Rattle.unroll_binding.proofs.Found.{name_fails, reset_fails}
use Rattle.unroll_binding.proofs.check.check_roles.Goals as goal

pub returns-in-Some-clause-err : goal.returns-in-Some-clause-err
returns-in-Some-clause-err c =
    inl (name_fails (is_other_role c.args.design.now c.args.set.now) c.args.set.now c.args.set.now.names c.other_role.result c.in-Some.name c.in_ok-copy.field-0
    c.bytes.result.now c.other_role.ensures refl c.in-Some.is c.in_ok-copy.ensures c.bytes.ensures)

pub returns-in-Some-other_reset-clause-err : goal.returns-in-Some-other_reset-clause-err
returns-in-Some-other_reset-clause-err c =
    inr (inr (inr (reset_fails (is_other_reset c.args.set.now) c.args.design.now c.asyncs.result.now c.other_reset.result c.in-Some-other_reset.reset
    c.in_ok-copy-4.field-0 c.bytes-in-Some-other_reset.result.now c.other_reset.ensures c.asyncs.ensures c.in-Some-other_reset.is c.in_ok-copy-4.ensures
    c.bytes-in-Some-other_reset.ensures)))
