-- The laws on the windows that values name.
use Rattle.std.specs.Prelude.{◌≡◌, ℕ, ◌+◌, ◌↔◌, ◌≤◌, List, [], true, false, length}
use Rattle.set_tree.specs.declared.set.Set.{Set}
use Rattle.set_tree.specs.declared.line.Line.{Line}
use Rattle.set_tree.specs.declared.line.Line.TheVariants.{Base, Step, Reset, Operation, End, Split, SameEnd, Choose, Hand, Determine}
use Rattle.set_tree.specs.Meaning.{Row, Meaning}
use Rattle.set_tree.specs.Parts.{property_at}
use Rattle.set_tree.specs.Report.{IsViolated}
use Rattle.set_tree.specs.Runs.{Design}
use Rattle.set_tree.specs.Traces.{IsTrace, SameInputs}
use Rattle.word_dag.specs.declared.node.Node.{Node}
use Rattle.word_dag.specs.Nodes.{Naming}
use Rattle.twin_tests_laws.specs.Windows.{named_rows}
use Rattle.twin_tests_laws.specs.Lines.{Violates, IsOf, IsTestOf}
use Rattle.twin_tests_laws.specs.Tests.{line_test}

-- the rows of a naming are two traces with the same inputs
pub record AreNamedRows (set : Set) (e : Naming) (end : ℕ) : Type 0 where
  pub size : length (named_rows set e 0 end) ≡ end + 1
  pub other_size : length (named_rows set e 1 end) ≡ end + 1
  pub first : IsTrace set (named_rows set e 0 end)
  pub second : IsTrace set (named_rows set e 1 end)
  pub inputs : SameInputs set (named_rows set e 0 end) (named_rows set e 1 end)

-- each two traces of end + 1 rows with the same inputs are the rows of some naming
abbrev pub WindowsHaveValues : Set → Type 0
WindowsHaveValues set =
    (end : ℕ) (xs ys : List Row) → length xs ≡ end + 1 → IsTrace set xs → IsTrace set ys → SameInputs set xs ys →
    (e : Naming) × (named_rows set e 0 end ≡ xs) × (named_rows set e 1 end ≡ ys)

-- the property that a line speaks of
abbrev pub property_of : Line → ℕ
property_of (Base i) = 0
property_of (Step i) = 0
property_of Reset = 0
property_of (Operation p) = p
property_of (End p) = p
property_of (Split p) = p
property_of (SameEnd p) = p
property_of (Choose p q) = p
property_of (Hand p q) = p
property_of (Determine p) = p

-- the least length of that property is at most its greatest
abbrev pub HasLength : Set → Line → Type 0
HasLength set line = let span = (property_at set (property_of line)).length in span.low ≤ span.high

-- the test holds exactly at values whose windows violate the line
abbrev pub TestIsExact : Meaning → Set → Line → Type 0
TestIsExact m set line = HasLength set line → (e : Naming) → (line_test m set line e ≡ true) ↔ Violates m set line e

-- a root that is the line's test at all values is of the line
abbrev pub TestsAreOfLines : Meaning → Set → Line → Type 0
TestsAreOfLines m set line = HasLength set line → (nodes : List Node) (root : ℕ) → IsTestOf (line_test m set line) nodes root → IsOf m set line nodes root

-- lines that speak of windows, and of no design
abbrev pub IsSetLine : Line → Type 0
IsSetLine (Base i) = ⊥
IsSetLine (Step i) = ⊥
IsSetLine Reset = ⊥
IsSetLine (Operation p) = ⊥
IsSetLine (End p) = Unit {0}
IsSetLine (Split p) = Unit {0}
IsSetLine (SameEnd p) = Unit {0}
IsSetLine (Choose p q) = Unit {0}
IsSetLine (Hand p q) = Unit {0}
IsSetLine (Determine p) = Unit {0}

-- a design without cycles
abbrev pub no_design : Design ⊥
no_design = record { follows = λ c d. ⊥; is_reset = λ c. false; row = λ c. [] }

-- where windows violate a set line, on whatever design, some values name windows that do
abbrev pub ViolationsHaveValues : Meaning → Set → Type 0
ViolationsHaveValues m set = (line : Line) → IsSetLine line → IsViolated no_design m set line → (e : Naming) × Violates m set line e

-- and windows that values name are among those
abbrev pub ValuesAreViolations : Meaning → Set → Type 0
ValuesAreViolations m set = (line : Line) → IsSetLine line → (e : Naming) → Violates m set line e → IsViolated no_design m set line
