use Rattle.std.proofs.Common.{◌++◌, ◌<◌, List, length, ap, ◌∙◌, arith}
use Rattle.outside.specs.declared.rows.TraceText.{TraceText}
use Rattle.desk_core.specs.Blocks.{trace_of}
use Rattle.desk_core.proofs.Traces.{traces_turn}
use Rattle.desk_core.proofs.keeping.traces_of.Goals as goal

pub loop-line-preserved : goal.loop-line-preserved
loop-line-preserved c =
    let line = c.line-item.result in
    let n = c.loop-line.number in
    let there : c.loop-line.line-index < length c.args.lines.now = omega arith in
    record {
      number = omega arith;
      traces = c.in_ok-add_trace.ensures ∙ (ap (λ (ts : List TraceText). ts ++ trace_of n line.name line.trace) c.loop-line.invariant.traces
          ∙ traces_turn c.args.lines.now c.loop-line.line-index line n there c.line-item.is c.loop-line.invariant.number);
    }
