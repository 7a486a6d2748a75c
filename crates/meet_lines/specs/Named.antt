-- The obligations of what can be met.
use Rattle.std.specs.Prelude.{◌≡◌, ℕ, List, codes}
use Rattle.set_tree.specs.declared.set.Set.{Set}
use Rattle.set_tree.specs.Formulas.{meaning_of}
use Rattle.set_tree.specs.Parts.{property_at}
use Rattle.word_dag.specs.declared.ob.Named.{Named}
use Rattle.elab_step_design.specs.Designs.{Parts}
use Rattle.word_dag.specs.Names.{HasOneWordEach}
use Rattle.meet_lines.specs.declared.line.MeetLine.{MeetLine}
use Rattle.meet_lines.specs.declared.line.MeetLine.TheVariants.{Reset, Operation}
use Rattle.meet_lines.specs.Lines.{IsOf}

-- a line goes by its property's name
abbrev pub meet_name : Set → MeetLine → List ℕ
meet_name set Reset = codes "reset"
meet_name set (Operation p) = (property_at set p).name

-- an obligation of the line under the line's name, no two free words of which have one name, side and cycle
pub record IsNamedOf (d : Parts) (set : Set) (line : MeetLine) (named : Named) : Type 0 where
  pub name : named.name ≡ meet_name set line
  pub of_line : IsOf d (meaning_of set) set line named.ob.nodes named.ob.root
  pub words : HasOneWordEach named.ob.nodes
