use Rattle.std.proofs.Common.{sym, ◌∙◌}
use Rattle.elab_step_flow.proofs.Marking.{cut}
use Rattle.elab_step_nets.proofs.Boards.{item_among}
use Rattle.elab_step.proofs.Judging.{input_passed, input_found}
use Rattle.elab_step.proofs.inputs.input_among.Goals as goal

pub returns-then-is_input_among-clause-some : goal.returns-then-is_input_among-clause-some
returns-then-is_input_among-clause-some c =
    input_found c.args.ports.now c.port-item.result c.args.names.now (item_among c.args.ports.now c.loop-port.port-index c.port-item.result c.port-item.result c.loop-port-test.true c.port-item.is)
    (sym c.is_input_among.ensures ∙ c.if-is_input_among.true)

pub loop-port-preserved : goal.loop-port-preserved
loop-port-preserved c x h k =
    input_passed c.args.ports.now c.loop-port.port-index c.port-item.result c.args.names.now
    (cut c.args.ports.now c.loop-port.port-index c.port-item.result c.loop-port-test.true c.port-item.is)
    (sym c.is_input_among.ensures ∙ c.if-is_input_among.false) x k (c.loop-port.invariant x h k)
