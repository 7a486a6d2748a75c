use Rattle.std.proofs.Common.{◌≡◌, ◌++◌, map}
use Rattle.set_tree.specs.Report.{numbers_from}
use Rattle.unroll.specs.Named.{line_of, numbered_line}
use Rattle.unroll.proofs.lines.push_lines.Given as goal

-- the lines so far
abbrev pub invariant-loop-at : goal.invariant-loop-at
invariant-loop-at l = map line_of l.lines.items ≡ map line_of l.fn.lines.items ++ map (numbered_line l.kind) (numbers_from l.from l.at)
