-- What nodes of a dag stand for, at every naming of its free words.
use Rattle.std.specs.Prelude.{◌≡◌, ℕ, ◌<◌, ◌≤◌, Bool, List, [], map, length, slice_index}
use Rattle.std.specs.List.{All, AllZip}
use Rattle.vlog_tree.specs.declared.expr.Expr.{Expr}
use Rattle.set_tree.specs.declared.set.Name.{Name}
use Rattle.set_tree.specs.declared.set.Set.{Set}
use Rattle.set_tree.specs.Formulas.{largest_offset}
use Rattle.set_tree_structure.specs.Condition.{IsFormula}
use Rattle.set_tree.specs.Meaning.{Row}
use Rattle.word_core.specs.Words.{Bits}
use Rattle.word_dag.specs.declared.node.Node.{Node}
use Rattle.word_dag.specs.Nodes.{Naming, dag_values, word_at, width_of}
use Rattle.twin_tests_laws.specs.Lines.{IsTestOf}

-- a node of this width
pub record HasWidth (nodes : List Node) (i w : ℕ) : Type 0 where
  pub below : i < length nodes
  pub width : slice_index (map width_of nodes) i ≡ w

-- a node of 1 to 64 bits
pub record IsWide (nodes : List Node) (i : ℕ) : Type 0 where
  pub below : i < length nodes
  pub some : 0 < slice_index (map width_of nodes) i
  pub most : slice_index (map width_of nodes) i ≤ 64

-- its word at a naming
abbrev pub word_in : List Node → Naming → ℕ → Bits
word_in nodes e i = word_at (dag_values e [] nodes) i

-- a node of one bit, 1 exactly where the test holds
pub record Tests (nodes : List Node) (i : ℕ) (f : Naming → Bool) : Type 0 where
  pub node : HasWidth nodes i 1
  pub means : IsTestOf f nodes i

-- a node with this number
pub record Counts (nodes : List Node) (i : ℕ) (f : Naming → ℕ) : Type 0 where
  pub node : IsWide nodes i
  pub means : (e : Naming) → (word_in nodes e i).value ≡ f e

-- a node for each name in one cycle, of the name's width
abbrev pub IsLeafRow : List Name → List Node → List ℕ → Type 0
IsLeafRow names nodes row = AllZip (λ (name : Name) i. HasWidth nodes i name.width) names row

-- such nodes in each cycle
pub record AreLeaves (names : List Name) (nodes : List Node) (rows : List (List ℕ)) : Type 0 where
  pub each : All (IsLeafRow names nodes) rows

abbrev pub row_in : List Node → Naming → List ℕ → Row
row_in nodes e row = map (λ i. (word_in nodes e i).value) row

-- nodes that have the values of these rows
pub record Shows (names : List Name) (nodes : List Node) (rows : List (List ℕ)) (f : Naming → List Row) : Type 0 where
  pub leaves : AreLeaves names nodes rows
  pub means : (e : Naming) → map (row_in nodes e) rows ≡ f e

-- nodes that have the values of this row
pub record ShowsRow (names : List Name) (nodes : List Node) (row : List ℕ) (f : Naming → Row) : Type 0 where
  pub leaves : IsLeafRow names nodes row
  pub means : (e : Naming) → row_in nodes e row ≡ f e

-- a formula of the set that reads none but the first k rows
pub record IsReadable (set : Set) (k : ℕ) (formula : Expr) : Type 0 where
  pub formed : IsFormula set formula
  pub fits : largest_offset formula < k
