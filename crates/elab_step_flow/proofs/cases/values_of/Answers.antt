use Rattle.std.specs.Prelude.{nat_eq}
use Rattle.std.specs.HashSet.{contains}
use Rattle.elab_step_flow.proofs.Casing.{meant_among, put_value, values_next}
use Rattle.elab_step_flow.proofs.cases.values_of.Goals as goal

pub value_of-requires-clause-formed : goal.value_of-requires-clause-formed
value_of-requires-clause-formed c =
    c.requires.formed c.label-item.result.now (meant_among c.args.labels.now c.loop-label.label-index c.label-item.result c.loop-label-test.true c.label-item.is)

pub value_of-requires-clause-long : goal.value_of-requires-clause-long
value_of-requires-clause-long c =
    c.requires.long c.label-item.result.now (meant_among c.args.labels.now c.loop-label.label-index c.label-item.result c.loop-label-test.true c.label-item.is)

pub value_of-requires-clause-defined : goal.value_of-requires-clause-defined
value_of-requires-clause-defined c =
    c.requires.defined c.label-item.result.now (meant_among c.args.labels.now c.loop-label.label-index c.label-item.result c.loop-label-test.true c.label-item.is)

pub loop-label-preserved : goal.loop-label-preserved
loop-label-preserved c =
    values_next c.args.valuation.now c.args.length c.args.signed c.args.labels.now c.loop-label.label-index c.label-item.result (λ x. contains nat_eq c.loop-label.values x) (λ x. contains nat_eq c.insert.new.self x) c.loop-label-test.true c.label-item.is
    (λ x. put_value c.in_ok-number.number x _ _ _ c.in_ok-number.ensures (c.in_ok-insert.ensures.updates.0 x)) c.loop-label.invariant
