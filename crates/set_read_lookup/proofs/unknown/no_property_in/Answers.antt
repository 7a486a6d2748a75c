use Rattle.std.proofs.Common.{ap, ◌∙◌}
use Rattle.std.specs.List.{find}
use Rattle.set_read_lookup.specs.Faults.{is_no_property}
use Rattle.set_read_lookup.proofs.Searches.{passes_at, stops_at}
use Rattle.set_read_lookup.proofs.unknown.no_property_in.Goals as goal

pub returns-in-Some : goal.returns-in-Some
returns-in-Some c =
    stops_at (λ p. p.next) (is_no_property c.args.operations.now) c.args.operations.now c.loop-operation.operation-index c.operation-item.result c.loop-operation-test.true c.operation-item.is _ c.in-Some.name.now
    c.loop-operation.invariant (c.in-Some.ensures ∙ ap (find (is_no_property c.args.operations.now)) c.as_slice.ensures)

pub loop-operation-preserved : goal.loop-operation-preserved
loop-operation-preserved c =
    passes_at (λ p. p.next) (is_no_property c.args.operations.now) c.args.operations.now c.loop-operation.operation-index c.operation-item.result c.loop-operation-test.true c.operation-item.is _ c.no_property.result
    c.loop-operation.invariant (c.no_property.ensures ∙ ap (find (is_no_property c.args.operations.now)) c.as_slice.ensures) c.in_default.not-Some
