use Rattle.std.proofs.Common.{◌∙◌, ap, arith, unwrap_or}
use Rattle.least_trace.proofs.Steps.{padded_step, padded_end}
use Rattle.least_trace.proofs.finding.padded.Goals as goal

pub loop-place-preserved : goal.loop-place-preserved
loop-place-preserved c =
    padded_step c.loop-place.all.items c.push.new.self.items c.args.values.now c.unwrap_or.result c.args.count c.loop-place.place c.loop-place-test.true (c.unwrap_or.ensures ∙ ap (λ o. unwrap_or o 0) c.copied.ensures ∙ c.get.ensures.lookup.4 (omega arith) 0) c.in_ok-push.ensures.items c.loop-place.invariant

pub returns : goal.returns
returns c = padded_end c.loop-place.all.items c.args.values.now c.args.count c.loop-place.place (omega arith) c.loop-place.invariant
