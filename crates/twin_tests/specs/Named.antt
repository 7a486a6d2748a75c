-- The obligations of a set's lines.
use Rattle.std.specs.Prelude.{◌≡◌, ℕ, get_or}
use Rattle.set_tree.specs.declared.line.Line.{Line}
use Rattle.set_tree.specs.declared.line.Line.TheVariants.{Reset}
use Rattle.set_tree.specs.declared.set.Set.{Set}
use Rattle.set_tree.specs.Formulas.{meaning_of}
use Rattle.set_tree.specs.Report.{set_lines}
use Rattle.word_dag.specs.declared.ob.Named.{Named}
use Rattle.twin_tests_laws.specs.Lines.{IsOf}
use Rattle.twin_tests_laws.specs.Names.{line_name}
use Rattle.word_dag.specs.Names.{HasOneWordEach}

-- the line of this number among those on the set, in the order of a report
abbrev pub set_line : Set → ℕ → Line
set_line set number = get_or (set_lines set) number Reset

-- an obligation of the line under the line's name, no two free words of which have one name, side and cycle
pub record IsNamedOf (set : Set) (line : Line) (named : Named) : Type 0 where
  pub name : named.name ≡ line_name set line
  pub of_line : IsOf (meaning_of set) set line named.ob.nodes named.ob.root
  pub words : HasOneWordEach named.ob.nodes
