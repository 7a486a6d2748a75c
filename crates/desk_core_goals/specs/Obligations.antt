-- The obligations of a report's lines, on a set and the design that it fits.
use Rattle.std.specs.Prelude.{◌≡◌, ℕ, List, ◌++◌, get_or}
use Rattle.set_tree.specs.declared.line.Line.{Line}
use Rattle.set_tree.specs.declared.line.Line.TheVariants.{Base, Step, Reset, Operation, End, Split, SameEnd, Choose, Hand, Determine}
use Rattle.set_tree.specs.declared.set.Set.{Set}
use Rattle.set_tree.specs.Formulas.{meaning_of}
use Rattle.set_tree.specs.Report.{IsViolated, design_lines, set_lines}
use Rattle.word_dag.specs.declared.ob.Named.{Named}
use Rattle.word_dag.specs.Nodes.{Naming}
use Rattle.elab_step_design.specs.Laws.{word_design}
use Rattle.twin_tests_laws.specs.Lines.{RootIs1}
use Rattle.twin_tests_laws.specs.Names.{line_name}
use Rattle.unroll_binding.specs.Binding.{Pair}
use Rattle.word_dag.specs.Names.{HasOneWordEach}
use Rattle.twin_tests.specs.Framing.{SpeaksOf}
use Rattle.twin_tests.specs.Named.{IsNamedOf as IsOfSet}
use Rattle.unroll.specs.Named.{IsNamedOf as IsOfDesign}

-- all lines, in the order of a report
abbrev pub all_lines : Set → List Line
all_lines set = design_lines set ++ set_lines set

-- the line of this number, in the order of a report
abbrev pub line_at : Set → ℕ → Line
line_at set number = get_or (all_lines set) number Reset

-- something violates the line
abbrev pub IsBroken : Pair → Line → Type 0
IsBroken b line = IsViolated (word_design b.design b.set) (meaning_of b.set) b.set line

-- an obligation whose root is 1 exactly at values whose segment, or whose windows, violate the line
abbrev pub IsExact : Pair → Line → Named → Type 0
IsExact b (Base i) named = IsOfDesign b.design b.set (Base i) named
IsExact b (Step i) named = IsOfDesign b.design b.set (Step i) named
IsExact b Reset named = IsOfDesign b.design b.set Reset named
IsExact b (Operation p) named = IsOfDesign b.design b.set (Operation p) named
IsExact b (End p) named = IsOfSet b.set (End p) named
IsExact b (Split p) named = IsOfSet b.set (Split p) named
IsExact b (SameEnd p) named = IsOfSet b.set (SameEnd p) named
IsExact b (Choose p q) named = IsOfSet b.set (Choose p q) named
IsExact b (Hand p q) named = IsOfSet b.set (Hand p q) named
IsExact b (Determine p) named = IsOfSet b.set (Determine p) named

-- an obligation under the name of a line: values of its free words make the root 1 only where something violates the line, and then some do
pub record IsObOf (b : Pair) (line : Line) (named : Named) : Type 0 where
  pub name : named.name ≡ line_name b.set line
  pub words : HasOneWordEach named.ob.nodes
  pub shown : (e : Naming) → RootIs1 named.ob.nodes named.ob.root e → IsBroken b line
  pub found : IsBroken b line → (e : Naming) × RootIs1 named.ob.nodes named.ob.root e
  pub exact : IsExact b line named
  -- the properties that the line names are there
  pub speaks : SpeaksOf b.set line
