use Rattle.std.proofs.Common.{◌<◌, length, arith}
use Rattle.twin_tests.specs.declared.set_line.SetLine.TheVariants.{End}
use Rattle.elab_step_expr.proofs.Kept.{keeps_same, keeps_then}
use Rattle.twin_tests.proofs.Framed.{frames_later}
use Rattle.twin_tests.proofs.twins.Twins.add_lines.Goals as goal

pub loop-line-init : goal.loop-line-init
loop-line-init c = record { keeps = keeps_same c.args.nodes.now.dag; atoms = c.requires.made }

pub line_node-requires-clause-line : goal.line_node-requires-clause-line
line_node-requires-clause-line c =
    let lt : c.loop-line.line-index < length c.args.lines.now = omega arith in
    c.requires.lines c.loop-line.line-index (End 0) lt

pub line_node-requires-clause-frames : goal.line_node-requires-clause-frames
line_node-requires-clause-frames c = frames_later c.args.nodes.now.dag c.loop-line.nodes.dag c.args.self.now.set.now c.args.self.now.frames c.loop-line.invariant.keeps c.requires.frames

pub line_node-requires-clause-made : goal.line_node-requires-clause-made
line_node-requires-clause-made c = c.loop-line.invariant.atoms

pub loop-line-preserved : goal.loop-line-preserved
loop-line-preserved c = record {
  keeps = keeps_then c.args.nodes.now.dag c.loop-line.nodes.dag c.line_node.new.nodes.dag c.loop-line.invariant.keeps c.in_ok-line_node.ensures.keeps;
  atoms = c.in_ok-line_node.ensures.made;
}

pub returns-clause-keeps : goal.returns-clause-keeps
returns-clause-keeps c = c.loop-line.invariant.keeps

pub returns-clause-made : goal.returns-clause-made
returns-clause-made c = c.loop-line.invariant.atoms
