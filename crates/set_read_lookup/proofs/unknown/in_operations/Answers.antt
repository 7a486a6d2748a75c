use Rattle.set_read_lookup.specs.Faults.{names_of, is_wanted}
use Rattle.set_read_lookup.proofs.Searches.{passes_at, stops_at}
use Rattle.set_read_lookup.proofs.unknown.in_operations.Goals as goal

pub returns-in-Some : goal.returns-in-Some
returns-in-Some c =
    stops_at names_of (is_wanted c.args.wanted.now) c.args.operations.now c.loop-operation.operation-index c.operation-item.result c.loop-operation-test.true c.operation-item.is _ c.in-Some.name.now
    c.loop-operation.invariant c.in-Some.ensures

pub loop-operation-preserved : goal.loop-operation-preserved
loop-operation-preserved c =
    passes_at names_of (is_wanted c.args.wanted.now) c.args.operations.now c.loop-operation.operation-index c.operation-item.result c.loop-operation-test.true c.operation-item.is _ c.in_property.result
    c.loop-operation.invariant c.in_property.ensures c.in_default.not-Some
