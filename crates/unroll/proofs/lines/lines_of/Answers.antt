use Rattle.std.proofs.Common.{List, map, refl, ap}
use Rattle.set_tree.specs.declared.line.Line.TheVariants as l
use Rattle.twin_tests.proofs.Listed.{line_more}
use Rattle.unroll.specs.declared.design_line.DesignLine.{DesignLine}
use Rattle.unroll.specs.declared.design_line.DesignLine.TheVariants.{Reset}
use Rattle.unroll.specs.Named.{line_of}
use Rattle.unroll.proofs.Obtaining.{whole_lines}
use Rattle.unroll.proofs.lines.lines_of.Goals as goal

pub returns : goal.returns
returns c =
    whole_lines c.args.set.now c.as_slice.result.now c.as_slice-2.result.now (map line_of c.new-lines.result.items) (map line_of c.push_lines.new.lines.items) (map line_of c.push_lines-2.new.lines.items) (map line_of c.push.new.self.items) (map line_of c.push_lines-3.new.lines.items) c.as_slice.ensures c.as_slice-2.ensures (ap (λ (ls : List DesignLine). map line_of ls) c.new-lines.ensures.items)
    c.in_ok-push_lines.ensures c.in_ok-push_lines-2.ensures (line_more line_of c.push_lines-2.new.lines.items c.push.new.self.items Reset l.Reset c.in_ok-push.ensures.items refl) c.in_ok-push_lines-3.ensures
