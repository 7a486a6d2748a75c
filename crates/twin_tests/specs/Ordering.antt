-- The lines of a set, and which of them a kind and its properties make.
use Rattle.std.specs.Prelude.{ℕ}
use Rattle.set_tree.specs.declared.line.Line.{Line}
use Rattle.set_tree.specs.declared.line.Line.TheVariants as l
use Rattle.twin_tests.specs.declared.lines.OfEdge.{OfEdge}
use Rattle.twin_tests.specs.declared.lines.OfEdge.TheVariants as edge
use Rattle.twin_tests.specs.declared.lines.OfProperty.{OfProperty}
use Rattle.twin_tests.specs.declared.lines.OfProperty.TheVariants as one
use Rattle.twin_tests.specs.declared.set_line.SetLine.{SetLine}
use Rattle.twin_tests.specs.declared.set_line.SetLine.TheVariants as s

-- the line of a report that it is
abbrev pub line_of : SetLine → Line
line_of (s.End p) = l.End p
line_of (s.Split p) = l.Split p
line_of (s.SameEnd p) = l.SameEnd p
line_of (s.Choose p q) = l.Choose p q
line_of (s.Hand p q) = l.Hand p q
line_of (s.Determine p) = l.Determine p

abbrev pub property_line : OfProperty → ℕ → Line
property_line one.End p = l.End p
property_line one.Split p = l.Split p
property_line one.SameEnd p = l.SameEnd p
property_line one.Determine p = l.Determine p

abbrev pub edge_line : OfEdge → ℕ → ℕ → Line
edge_line edge.Choose p q = l.Choose p q
edge_line edge.Hand p q = l.Hand p q
