use Rattle.std.proofs.Common.{map}
use Rattle.twin_tests.proofs.Listed.{line_more}
use Rattle.unroll.specs.Named.{line_of, numbered_line}
use Rattle.unroll.proofs.Obtaining.{number_step}
use Rattle.unroll.proofs.lines.push_lines.Goals as goal

pub loop-at-preserved : goal.loop-at-preserved
loop-at-preserved c =
    number_step (numbered_line c.args.kind) (map line_of c.args.lines.now.items) (map line_of c.loop-at.lines.items) (map line_of c.push.new.self.items) c.args.from c.loop-at.at c.loop-at.invariant (line_more line_of c.loop-at.lines.items c.push.new.self.items c.numbered_line.result _ c.in_ok-push.ensures.items c.numbered_line.ensures)
