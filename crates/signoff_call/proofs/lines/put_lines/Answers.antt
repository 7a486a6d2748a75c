use Rattle.std.proofs.Common.{◌∙◌, refl, arith, ◌+◌, ◌-◌}
use Rattle.signoff_call.proofs.Putting.{appends_none, part_out, part_failed}
use Rattle.signoff_call.proofs.lines.put_lines.Goals as goal

-- src/lines.rt:29:5
pub loop-from-init : goal.loop-from-init
loop-from-init g c = record { within = omega arith; out = appends_none (g.S.Sink.written c.args.out.now); calm = refl }

-- src/lines.rt:31:9
pub returns-in_err-put-clause-err : goal.returns-in_err-put-clause-err
returns-in_err-put-clause-err g c = part_failed c.from_residual.result _ (g.S.Sink.written c.loop-from.out) _ c.loop-from.from (c.loop-from.from + c.line_length.result - c.loop-from.from) c.args.bytes.now c.loop-from.invariant.out c.in_err-put.ensures.err

-- src/lines.rt:29:5
pub loop-from-preserved : goal.loop-from-preserved
loop-from-preserved g c = record {
  within = omega (arith, c.line_length.ensures.most, c.loop-from.invariant.within);
  out = part_out _ (g.S.Sink.written c.loop-from.out) _ c.loop-from.from (c.loop-from.from + c.line_length.result) c.args.bytes.now (omega arith) c.loop-from.invariant.out c.in_ok-put.ensures.ok;
  calm = c.in_ok-put.ensures.cause.calm refl ∙ c.loop-from.invariant.calm;
}
