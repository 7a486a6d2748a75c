use Rattle.std.proofs.Common.{◌<◌, length, arith}
use Rattle.unroll.specs.declared.design_line.DesignLine.TheVariants.{Base}
use Rattle.elab_step_expr.proofs.Kept.{keeps_same, keeps_then}
use Rattle.unroll.proofs.Rowing.{segments_later}
use Rattle.unroll.proofs.obs.add_lines.Goals as goal

pub loop-line-init : goal.loop-line-init
loop-line-init c = keeps_same c.args.dag.now

pub line_node-requires-clause-line : goal.line_node-requires-clause-line
line_node-requires-clause-line c =
    let lt : c.loop-line.line-index < length c.args.lines.now = omega arith in
    c.requires.lines c.loop-line.line-index (Base 0) lt

pub line_node-requires-clause-segments : goal.line_node-requires-clause-segments
line_node-requires-clause-segments c =
    let d = c.requires.segments.0 in
    (d, segments_later d c.args.set.now c.args.dag.now c.loop-line.dag c.args.segments.now c.loop-line.invariant c.requires.segments.1)

pub loop-line-preserved : goal.loop-line-preserved
loop-line-preserved c = keeps_then c.args.dag.now c.loop-line.dag c.line_node.new.dag c.loop-line.invariant c.in_ok-line_node.ensures.keeps
