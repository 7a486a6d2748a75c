-- The two kinds of line in a report.
use Rattle.set_tree.specs.declared.line.Line.{Line}
use Rattle.twin_tests.specs.Ordering.{line_of as set_line_of}
use Rattle.unroll.specs.Named.{line_of as design_line_of}
use Rattle.desk_core_goals.specs.declared.telling.Kind.{Kind}
use Rattle.desk_core_goals.specs.declared.telling.Kind.TheVariants as k

-- the line of a report
abbrev pub line_of_kind : Kind → Line
line_of_kind (k.Design line) = design_line_of line
line_of_kind (k.Set line) = set_line_of line
