-- The windows that are shown of a refuted line of a set.
use Rattle.std.specs.Prelude.{◌≡◌, ℕ, ◌<◌, ◌≤◌, Bool, true, false, List, [], map, Option, Some, None}
use Rattle.set_tree.specs.declared.line.Line.{Line}
use Rattle.set_tree.specs.declared.line.Line.TheVariants.{Base, Step, Reset, Operation, End, Split, SameEnd, Choose, Hand, Determine}
use Rattle.set_tree.specs.declared.set.Name.{Name}
use Rattle.set_tree.specs.declared.set.Set.{Set}
use Rattle.set_tree.specs.Formulas.{meaning_of}
use Rattle.set_tree.specs.Meaning.{Row}
use Rattle.set_tree.specs.Parts.{property_at, window_of}
use Rattle.word_dag.specs.Nodes.{Naming}
use Rattle.twin_tests_laws.specs.Laws.{property_of}
use Rattle.twin_tests_laws.specs.Lines.{edge_end, split_end}
use Rattle.twin_tests_laws.specs.Windows.{named_rows}
use Rattle.replay_eval.specs.Judging.{AreViolating}
use Rattle.replay.specs.declared.shown.Shown.{Shown}
use Rattle.replay.specs.declared.shown.Trace.{Trace}

-- the last row of the windows of a line where its property ends at n
abbrev pub line_end : Set → Line → ℕ → ℕ
line_end set (Base i) n = 0
line_end set (Step i) n = 0
line_end set Reset n = 0
line_end set (Operation p) n = 0
line_end set (End p) n = window_of set p
line_end set (Split p) n = split_end set p n
line_end set (SameEnd p) n = window_of set p
line_end set (Choose p q) n = edge_end set p q n
line_end set (Hand p q) n = edge_end set p q n
line_end set (Determine p) n = window_of set p

-- the windows that the values name violate the line where its property ends at n
abbrev pub ViolatesAt : Set → Line → Naming → ℕ → Type 0
ViolatesAt set line e n = AreViolating (meaning_of set) set line n (named_rows set e 0 (line_end set line n)) (named_rows set e 1 (line_end set line n))

-- the line speaks of two windows with the same inputs
abbrev pub compares : Line → Bool
compares (Base i) = false
compares (Step i) = false
compares Reset = false
compares (Operation p) = false
compares (End p) = false
compares (Split p) = false
compares (SameEnd p) = true
compares (Choose p q) = true
compares (Hand p q) = true
compares (Determine p) = true

abbrev pub declared_names : Set → List (List ℕ)
declared_names set = map (λ (name : Name). name.name) set.names

-- the second trace is there exactly where the line compares two, and has the declared names
abbrev pub HasSecond : Set → Bool → Option Trace → Type 0
HasSecond set false None = Unit {0}
HasSecond set true None = ⊥
HasSecond set false (Some trace) = ⊥
HasSecond set true (Some trace) = trace.names ≡ declared_names set

abbrev pub second_rows : Option Trace → List Row
second_rows None = []
second_rows (Some trace) = trace.rows

-- What is shown of a line of the set: windows of the declared names that violate it, one or, where the line compares two, two.
pub record ShowsWindows (set : Set) (line : Line) (shown : Shown) : Type 0 where
  pub start : shown.start ≡ []
  pub before : shown.before ≡ 0
  pub names : shown.first.names ≡ declared_names set
  pub second : HasSecond set (compares line) shown.second
  pub violating : (n : ℕ) × AreViolating (meaning_of set) set line n shown.first.rows (second_rows shown.second)

-- What is shown are the windows that the values name where the property of the line ends at n, the second one where the line compares two; they
-- violate the line there.
pub record AreNamedWindows (set : Set) (line : Line) (e : Naming) (n : ℕ) (shown : Shown) : Type 0 where
  pub first : shown.first.rows ≡ named_rows set e 0 (line_end set line n)
  pub second : compares line ≡ true → second_rows shown.second ≡ named_rows set e 1 (line_end set line n)
  pub violating : ViolatesAt set line e n

-- What is shown of a line that values refute: the windows that they name where its property ends at the first offset at which those violate it.
pub record ShowsNamedWindows (set : Set) (line : Line) (e : Naming) (shown : Shown) : Type 0 where
  pub n : ℕ
  pub least : (property_at set (property_of line)).length.low ≤ n
  pub most : n ≤ (property_at set (property_of line)).length.high
  pub windows : AreNamedWindows set line e n shown
  pub none_before : (k : ℕ) → (property_at set (property_of line)).length.low ≤ k → k < n → ¬ ViolatesAt set line e k
