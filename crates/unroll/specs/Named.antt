-- The obligations of a design's lines.
use Rattle.std.specs.Prelude.{◌≡◌, ℕ, get_or}
use Rattle.set_tree.specs.declared.line.Line.{Line}
use Rattle.set_tree.specs.declared.line.Line.TheVariants as l
use Rattle.set_tree.specs.declared.set.Set.{Set}
use Rattle.set_tree.specs.Formulas.{meaning_of}
use Rattle.set_tree.specs.Report.{design_lines}
use Rattle.word_dag.specs.declared.ob.Named.{Named}
use Rattle.elab_step_design.specs.Designs.{Parts}
use Rattle.twin_tests_laws.specs.Names.{line_name}
use Rattle.unroll_laws.specs.Lines.{IsOf}
use Rattle.word_dag.specs.Names.{HasOneWordEach}
use Rattle.unroll.specs.declared.design_line.DesignLine.{DesignLine}
use Rattle.unroll.specs.declared.design_line.DesignLine.TheVariants as d
use Rattle.unroll.specs.declared.lines.OfNumber.{OfNumber}
use Rattle.unroll.specs.declared.lines.OfNumber.TheVariants as one

-- the line of a report that it is
abbrev pub line_of : DesignLine → Line
line_of (d.Base i) = l.Base i
line_of (d.Step i) = l.Step i
line_of d.Reset = l.Reset
line_of (d.Operation p) = l.Operation p

-- which line a kind and a number make
abbrev pub numbered_line : OfNumber → ℕ → Line
numbered_line one.Base i = l.Base i
numbered_line one.Step i = l.Step i
numbered_line one.Operation p = l.Operation p

-- the line of this number among those on the design, in the order of a report
abbrev pub design_line : Set → ℕ → Line
design_line set number = get_or (design_lines set) number l.Reset

-- an obligation of the line under the line's name, no two free words of which have one name, side and cycle
pub record IsNamedOf (d : Parts) (set : Set) (line : Line) (named : Named) : Type 0 where
  pub name : named.name ≡ line_name set line
  pub of_line : IsOf d (meaning_of set) set line named.ob.nodes named.ob.root
  pub words : HasOneWordEach named.ob.nodes
