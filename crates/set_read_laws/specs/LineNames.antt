-- A line of a report is known by its name.
use Rattle.std.specs.Prelude.{◌≡◌, ℕ, ◌++◌, List}
use Rattle.std.specs.List.{Contains}
use Rattle.set_tree.specs.declared.line.Line.{Line}
use Rattle.set_tree.specs.declared.set.Set.{Set}
use Rattle.set_tree.specs.Report.{design_lines, set_lines}
use Rattle.set_read.specs.Read.{Spells}
use Rattle.twin_tests_laws.specs.Names.{line_name}

-- lines of the report of a set that a text spells are the same where their names are
abbrev pub LinesHaveNames : Type 0
LinesHaveNames =
    (text : List ℕ) (set : Set) → Spells text set → (x y : Line) → Contains (design_lines set ++ set_lines set) x → Contains (design_lines set ++ set_lines set) y → line_name set x ≡ line_name set y → x ≡ y
