-- A design's nodes in one cycle of a segment, as nodes of another dag.
use Rattle.std.specs.Prelude.{◌≡◌, ℕ, zero, suc, ◌<◌, List, [], length, slice_index, Option, Some, None}
use Rattle.unroll_binding.specs.Binding.{net_at}
use Rattle.set_tree.specs.declared.set.Name.{Name}
use Rattle.set_tree.specs.declared.set.Set.{Set}
use Rattle.vlog_tree_runs.specs.Places.{Cycle, Among}
use Rattle.word_core.specs.Words.{word}
use Rattle.word_dag.specs.declared.node.Node.{Node}
use Rattle.word_dag.specs.Nodes.{Naming, dag_values, width_at, word_at}
use Rattle.elab_step_expr.specs.Nodes.{IsNode}
use Rattle.elab_step_design.specs.declared.design.Net.{Net}
use Rattle.elab_step_design.specs.Designs.{Parts, sources, word_in}
use Rattle.unroll_laws.specs.Tests.{held}

-- for each of these registers and inputs a node of its length, which stands at the place of its node in the design
abbrev pub HaveNodes : Parts → List Node → List ℕ → List Net → Type 0
HaveNodes d nodes leaves ss = (s : Net) → Among ss s → IsNode nodes (slice_index leaves s.node) s.width

-- such nodes for all registers and inputs
pub record FitLeaves (d : Parts) (nodes : List Node) (leaves : List ℕ) : Type 0 where
  pub count : length leaves ≡ length d.nodes
  pub each : HaveNodes d nodes leaves (sources d)

-- these nodes have the values that f gives to the registers and inputs
abbrev pub AreLeaves : Parts → List Node → List ℕ → (Naming → Cycle) → Type 0
AreLeaves d nodes leaves f = (e : Naming) (s : Net) → Among (sources d) s → word_at (dag_values e [] nodes) (slice_index leaves s.node) ≡ word s.width (f e s.name)

-- for each node of the design a node of its length
pub record FitCopies (d : Parts) (nodes : List Node) (copies : List ℕ) : Type 0 where
  pub count : length copies ≡ length d.nodes
  pub each : (j : ℕ) → j < length d.nodes → IsNode nodes (slice_index copies j) (width_at d.nodes j)

-- these nodes have the words of the design's nodes for the values that f gives to the registers and inputs
abbrev pub AreCopies : Parts → List Node → List ℕ → (Naming → Cycle) → Type 0
AreCopies d nodes copies f = (e : Naming) (j : ℕ) → j < length d.nodes → word_at (dag_values e [] nodes) (slice_index copies j) ≡ word_in d (f e) j

-- the node has this number, cut to its length, whatever the free words are
abbrev pub IsWordAt : List Node → ℕ → ℕ → (Naming → ℕ) → Type 0
IsWordAt nodes i w f = (e : Naming) → word_at (dag_values e [] nodes) i ≡ word w (f e)

-- the copies of the cycle before, where there is one
abbrev pub CopiedBefore : Parts → Set → ℕ → ℕ → List Node → List ℕ → Type 0
CopiedBefore d set k zero nodes copies = Unit {0}
CopiedBefore d set k (suc i) nodes copies = FitCopies d nodes copies × AreCopies d nodes copies (λ e. held d set k e i)

-- nodes for these registers and inputs, with their values at a position
pub record ShowLeaves (d : Parts) (set : Set) (k i : ℕ) (nodes : List Node) (leaves : List ℕ) (ss : List Net) : Type 0 where
  pub count : length leaves ≡ length d.nodes
  pub each : HaveNodes d nodes leaves ss
  pub words : (s : Net) → Among ss s → IsWordAt nodes (slice_index leaves s.node) s.width (λ e. held d set k e i s.name)

-- the place of a declared name's signal among the nodes of the design
abbrev pub place_at : Option Net → Option ℕ
place_at None = None
place_at (Some n) = Some n.node

abbrev pub IsPlaceOf : Parts → Name → ℕ → Type 0
IsPlaceOf d x place = place_at (net_at d.nets x.name) ≡ Some place
