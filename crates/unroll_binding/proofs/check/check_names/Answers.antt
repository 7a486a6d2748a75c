use Rattle.unroll_binding.specs.Binding.{is_extra, is_missing, is_other_width}
use Rattle.unroll_binding.proofs.Found.{input_fails, name_fails}
use Rattle.unroll_binding.proofs.check.check_names.Goals as goal

pub returns-in-Some-clause-err : goal.returns-in-Some-clause-err
returns-in-Some-clause-err c =
    name_fails (is_missing c.args.design.now) c.args.set.now c.as_slice.result.now c.missing.result c.in-Some.name c.in_ok-copy.field-0 c.bytes.result.now
    c.missing.ensures c.as_slice.ensures c.in-Some.is c.in_ok-copy.ensures c.bytes.ensures

pub returns-in-Some-other_width-clause-err : goal.returns-in-Some-other_width-clause-err
returns-in-Some-other_width-clause-err c =
    name_fails (is_other_width c.args.design.now) c.args.set.now c.as_slice-2.result.now c.other_width.result c.in-Some-other_width.name c.in_ok-copy-2.field-0
    c.bytes-in-Some-other_width.result.now c.other_width.ensures c.as_slice-2.ensures c.in-Some-other_width.is c.in_ok-copy-2.ensures c.bytes-in-Some-other_width.ensures

pub returns-in-Some-extra_input-clause-err : goal.returns-in-Some-extra_input-clause-err
returns-in-Some-extra_input-clause-err c =
    input_fails (is_extra c.args.set.now) c.args.design.now c.inputs.result.now c.extra_input.result c.in-Some-extra_input.net c.in_ok-copy-3.field-0
    c.bytes-in-Some-extra_input.result.now c.extra_input.ensures c.inputs.ensures c.in-Some-extra_input.is c.in_ok-copy-3.ensures c.bytes-in-Some-extra_input.ensures
