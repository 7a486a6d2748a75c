use Rattle.std.proofs.Common.{ap, ◌∙◌, map}
use Rattle.std.specs.List.{find}
use Rattle.set_read_lookup.specs.Faults.{outputs_of, is_no_output}
use Rattle.set_read_lookup.proofs.Searches.{passes_at, stops_at}
use Rattle.set_read_lookup.proofs.unknown.no_output_in.Goals as goal

pub returns-in-Some : goal.returns-in-Some
returns-in-Some c =
    stops_at outputs_of (is_no_output c.args.declarations.now) c.args.operations.now c.loop-operation.operation-index c.operation-item.result c.loop-operation-test.true c.operation-item.is _ c.in-Some.name.now
    c.loop-operation.invariant (c.in-Some.ensures ∙ ap (λ z. find (is_no_output c.args.declarations.now) (map (λ k. k.output) z)) c.as_slice.ensures)

pub loop-operation-preserved : goal.loop-operation-preserved
loop-operation-preserved c =
    passes_at outputs_of (is_no_output c.args.declarations.now) c.args.operations.now c.loop-operation.operation-index c.operation-item.result c.loop-operation-test.true c.operation-item.is _ c.no_output.result
    c.loop-operation.invariant (c.no_output.ensures ∙ ap (λ z. find (is_no_output c.args.declarations.now) (map (λ k. k.output) z)) c.as_slice.ensures) c.in_default.not-Some
