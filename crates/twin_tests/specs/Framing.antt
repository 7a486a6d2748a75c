-- Two windows as nodes, and the lines over them.
use Rattle.std.specs.Prelude.{◌≡◌, ℕ, pos, ◌+◌, ◌<◌, ◌⊎◌, Bool, not, List, [], ◌∷◌, length, get_or}
use Rattle.set_tree.specs.declared.line.Line.{Line}
use Rattle.set_tree.specs.declared.line.Line.TheVariants.{Base, Step, Reset, Operation, End, Split, SameEnd, Choose, Hand, Determine}
use Rattle.set_tree.specs.declared.set.Name.{Name}
use Rattle.set_tree.specs.declared.set.Set.{Set}
use Rattle.set_tree.specs.Formulas.{meaning_of}
use Rattle.set_tree.specs.Parts.{IsPosition, window_of}
use Rattle.word_dag.specs.declared.node.Node.{Node}
use Rattle.word_dag.specs.declared.node.Node.TheVariants.{Free}
use Rattle.word_dag.specs.Nodes.{Naming}
use Rattle.twin_tests_laws.specs.Lines.{edge_end, split_end}
use Rattle.twin_tests_laws.specs.Tests.{ends_at, meets_constraints, same, violates_choose, violates_determine, violates_hand, violates_split}
use Rattle.twin_tests_laws.specs.Windows.{named_rows, rows_from, side_of}
use Rattle.twin_tests.specs.declared.frame.Frame.{Frame}
use Rattle.twin_tests.specs.declared.frame.Frames.{Frames}
use Rattle.twin_tests.specs.declared.set_line.SetLine.{SetLine}
use Rattle.twin_tests.specs.declared.set_line.SetLine.TheVariants as s
use Rattle.twin_tests.specs.Building.{Shows, Tests}

-- the free word of a name at a cycle of one side; inputs have side 0 in both windows
abbrev pub free_of : Name → ℕ → ℕ → Node
free_of x side cycle = Free x.name x.width (side_of x.role side) (pos cycle)

-- a node is the free word of one of the names
abbrev pub IsWordOf : List Name → ℕ → ℕ → Node → Type 0
IsWordOf [] side cycle n = ⊥
IsWordOf (x ∷ xs) side cycle n = (n ≡ free_of x side cycle) ⊎ IsWordOf xs side cycle n

-- in some cycle
abbrev pub IsWindowWord : List Name → ℕ → Node → Type 0
IsWindowWord xs side n = (cycle : ℕ) × IsWordOf xs side cycle n

-- The first cycles of one side as nodes, and for each cycle a node that tells whether the constraints hold in the window that ends there.
pub record IsFrame (set : Set) (nodes : List Node) (frame : Frame) : Type 0 where
  pub rows : Shows set.names nodes frame.rows.items (λ e. rows_from set.names e frame.side 0 (length frame.rows.items))
  pub count : length frame.met.items ≡ length frame.rows.items
  pub met : (end d : ℕ) → end < length frame.met.items → Tests nodes (get_or frame.met.items end d) (λ e. meets_constraints (meaning_of set) set (named_rows set e frame.side end))

-- both sides, which reach as far as any line of the set does
pub record AreFrames (set : Set) (nodes : List Node) (frames : Frames) : Type 0 where
  pub first : IsFrame set nodes frames.first
  pub second : IsFrame set nodes frames.second
  pub first_side : frames.first.side ≡ 0
  pub second_side : frames.second.side ≡ 1
  pub first_reach : (p q : ℕ) → IsPosition set p → IsPosition set q → window_of set p + window_of set q < length frames.first.rows.items
  pub second_reach : (p q : ℕ) → IsPosition set p → IsPosition set q → window_of set p + window_of set q < length frames.second.rows.items

-- the properties that a line names are there
abbrev pub SpeaksOf : Set → Line → Type 0
SpeaksOf set (Base i) = Unit {0}
SpeaksOf set (Step i) = Unit {0}
SpeaksOf set Reset = Unit {0}
SpeaksOf set (Operation p) = IsPosition set p
SpeaksOf set (End p) = IsPosition set p
SpeaksOf set (Split p) = IsPosition set p
SpeaksOf set (SameEnd p) = IsPosition set p
SpeaksOf set (Choose p q) = IsPosition set p × IsPosition set q
SpeaksOf set (Hand p q) = IsPosition set p × IsPosition set q
SpeaksOf set (Determine p) = IsPosition set p

-- what a line says of its property's end at n: that it ends there, that it does so in one window alone, or that the windows violate the line
abbrev pub end_test : Set → SetLine → ℕ → Naming → Bool
end_test set (s.End p) n e = ends_at (meaning_of set) set p n (named_rows set e 0 (window_of set p))
end_test set (s.Split p) n e = violates_split (meaning_of set) set p n (named_rows set e 0 (split_end set p n))
end_test set (s.SameEnd p) n e = not (same (ends_at (meaning_of set) set p n (named_rows set e 0 (window_of set p))) (ends_at (meaning_of set) set p n (named_rows set e 1 (window_of set p))))
end_test set (s.Choose p q) n e = let end = edge_end set p q n in violates_choose (meaning_of set) set p q n (named_rows set e 0 end) (named_rows set e 1 end)
end_test set (s.Hand p q) n e = let end = edge_end set p q n in violates_hand (meaning_of set) set p q n (named_rows set e 0 end) (named_rows set e 1 end)
end_test set (s.Determine p) n e = violates_determine (meaning_of set) set p n (named_rows set e 0 (window_of set p)) (named_rows set e 1 (window_of set p))
