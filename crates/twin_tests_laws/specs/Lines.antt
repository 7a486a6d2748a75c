-- What an obligation of a set line is.
use Rattle.std.specs.Prelude.{◌≡◌, ℕ, ◌+◌, max, ◌↔◌, List, [], Bool}
use Rattle.set_tree.specs.declared.set.Set.{Set}
use Rattle.set_tree.specs.declared.set.Cover.{Cover}
use Rattle.set_tree.specs.declared.line.Line.{Line}
use Rattle.set_tree.specs.declared.line.Line.TheVariants.{Base, Step, Reset, Operation, End, Split, SameEnd, Choose, Hand, Determine}
use Rattle.set_tree.specs.Meaning.{Meaning}
use Rattle.set_tree.specs.Parts.{property_at, window_of}
use Rattle.set_tree.specs.Lines.{last_row, ViolatesEnd, ViolatesSplit, ViolatesSameEnd, ViolatesChoose, ViolatesHand, ViolatesDetermine}
use Rattle.word_core.specs.Words.{flag}
use Rattle.word_dag.specs.declared.node.Node.{Node}
use Rattle.word_dag.specs.Nodes.{Naming, dag_values, word_at}
use Rattle.twin_tests_laws.specs.Windows.{named_rows}

-- the last row of the window of `split P` where P ends at n: as far as P, and each successor from n on, may read
abbrev pub split_end : Set → ℕ → ℕ → ℕ
split_end set p n = last_row set (window_of set p) n (property_at set p).next

-- the last row of the windows of `choose P Q` and `hand P Q` where P ends at n
abbrev pub edge_end : Set → ℕ → ℕ → ℕ → ℕ
edge_end set p q n = max (window_of set p) (n + window_of set q)

-- The windows that the values name violate the line. Where the end of P may lie at several offsets n, each n has windows of its own, which
-- reach as far as that n asks; the constraints are those that fit into these windows. The lines on the design speak of segments, not of windows.
abbrev pub Violates : Meaning → Set → Line → Naming → Type 0
Violates m set (Base i) e = ⊥
Violates m set (Step i) e = ⊥
Violates m set Reset e = ⊥
Violates m set (Operation p) e = ⊥
Violates m set (End p) e = ViolatesEnd m set p (named_rows set e 0 (window_of set p))
Violates m set (Split p) e = (n : ℕ) × ViolatesSplit m set p n (named_rows set e 0 (split_end set p n))
Violates m set (SameEnd p) e = ViolatesSameEnd m set p (named_rows set e 0 (window_of set p)) (named_rows set e 1 (window_of set p))
Violates m set (Choose p q) e = (n : ℕ) × (let end = edge_end set p q n in ViolatesChoose m set p q n (named_rows set e 0 end) (named_rows set e 1 end))
Violates m set (Hand p q) e = (n : ℕ) × (let end = edge_end set p q n in ViolatesHand m set p q n (named_rows set e 0 end) (named_rows set e 1 end))
Violates m set (Determine p) e =
    (n : ℕ) × (cover : Cover) × (at : ℕ) × ViolatesDetermine m set p n cover at (named_rows set e 0 (window_of set p)) (named_rows set e 1 (window_of set p))

-- the root is 1 at these values
abbrev pub RootIs1 : List Node → ℕ → Naming → Type 0
RootIs1 nodes root e = (word_at (dag_values e [] nodes) root).value ≡ 1

-- nodes with a root are an obligation of the line: the root is 1 exactly at values whose windows violate the line, whatever the other words are
abbrev pub IsOf : Meaning → Set → Line → List Node → ℕ → Type 0
IsOf m set line nodes root = (e : Naming) → RootIs1 nodes root e ↔ Violates m set line e

-- at all values the node is the bit that the test gives
abbrev pub IsTestOf : (Naming → Bool) → List Node → ℕ → Type 0
IsTestOf f nodes i = (e : Naming) → word_at (dag_values e [] nodes) i ≡ flag (f e)
