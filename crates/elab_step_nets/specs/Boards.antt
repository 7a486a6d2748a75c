-- Leaves of a module that show its cycles.
use Rattle.std.specs.Prelude.{ℕ, zero, suc, ◌≡◌, ◌<◌, ◌+◌, ◌⊎◌, ◌%◌, ◌^◌, pos, Bool, true, false, if◌then◌else◌, List, [], ◌∷◌, ◌++◌, map, length, get_or, Some}
use Rattle.std.proofs.Common.{Vec, Global}
use Rattle.vlog_tree.specs.declared.item.Assign.{Assign}
use Rattle.vlog_tree.specs.declared.stmt.Stmt.{Stmt}
use Rattle.vlog_tree.specs.declared.stmt.Stmt.TheVariants as s
use Rattle.vlog_tree_runs.specs.declared.flat.Always.{Always}
use Rattle.vlog_tree_runs.specs.declared.flat.Flat.{Flat}
use Rattle.vlog_tree_runs.specs.declared.flat.Signal.{Signal}
use Rattle.vlog_tree_runs.specs.Places.{Name, Cycle, Among}
use Rattle.vlog_tree_runs.specs.Blocks.{run}
use Rattle.vlog_tree_runs.specs.Contents.{is_among}
use Rattle.vlog_tree_runs.specs.Cycles.{flat_place, IsRegister}
use Rattle.word_dag.specs.declared.node.Node.{Node}
use Rattle.word_dag.specs.Given.{is_free}
use Rattle.word_dag.specs.Nodes.{FitFrom, Naming}
use Rattle.elab_step_expr.specs.declared.leaves.Leaf.{Leaf}
use Rattle.word_dag.specs.Adding.{IsAt}
use Rattle.elab_step_design.specs.declared.design.Net.{Net}
use Rattle.elab_step_design.specs.declared.design.Register.{Register}
use Rattle.elab_step_design.specs.Designs.{Parts, free, naming_of}
use Rattle.elab_step_expr.specs.Leaves.{AreReady}
use Rattle.elab_step_expr.specs.Nodes.{IsNode, number_at}
use Rattle.elab_step_blocks.specs.Standing.{IsLeafOf, AreLeavesOf, AreApart, AreShown}
use Rattle.elab_step_blocks.specs.Runs.{AreSet}
use Rattle.elab_step_copies.specs.Copies.{list_at}
use Rattle.elab_step_laws.specs.Laws.{AreFit}
use Rattle.elab_step_nets.specs.Solving.{clocked, processes, drivers_of, after_edge, taking, solved, joined}

-- a leaf for each signal, in their order, each with a node of its length
pub record IsBoard (gs : List Signal) (ls : List Leaf) (ns : List Node) : Type 0 where
  pub leaves : AreLeavesOf gs ls
  pub ready : AreReady ls ns
  pub apart : AreApart ls

-- the later leaves show what f makes of each cycle that the earlier ones show
abbrev pub Shows : (Cycle → Cycle) → List Leaf → List Node → List Leaf → List Node → Type 0
Shows f ls a ms b = (e : Naming) (c : Cycle) → AreShown e a ls c → AreShown e b ms (f c)

-- the continuous assignments, each as a statement, and the bodies of all blocks
abbrev pub statements : Flat → List Stmt
statements f = map (λ (a : Assign). s.Blocking a.left a.right) f.assigns ++ map (λ (k : Always). k.body) f.blocks

abbrev pub statement_at : List Stmt → ℕ → Stmt
statement_at [] i = s.Empty
statement_at (k ∷ ks) zero = k
statement_at (k ∷ ks) (suc i) = statement_at ks i

abbrev pub picked : List Stmt → List ℕ → List Stmt
picked ks is = map (statement_at ks) is

-- the name of a signal
abbrev pub name_of : List Signal → ℕ → Name
name_of [] i = []
name_of (g ∷ gs) zero = g.name
name_of (g ∷ gs) (suc i) = name_of gs i

-- the block of a statement's place, if it is that of a block, isn't clocked
abbrev pub IsUnclocked : Flat → ℕ → Type 0
IsUnclocked f i = (j : ℕ) (k : Always) → i ≡ length f.assigns + j → j < length f.blocks → k ≡ get_or f.blocks j k → k.clocked ≡ false

-- the place of a continuous assignment or of a combinational block
abbrev pub IsProcess : Flat → ℕ → Type 0
IsProcess f i = (i < length (statements f)) × IsUnclocked f i

-- for each signal the places of those that assign it
abbrev pub ArePlacesOf : Flat → List Signal → List (Vec ℕ Global) → Type 0
ArePlacesOf f [] [] = Unit {0}
ArePlacesOf f [] (v ∷ vs) = ⊥
ArePlacesOf f (g ∷ gs) [] = ⊥
ArePlacesOf f (g ∷ gs) (v ∷ vs) =
    ((i : ℕ) → Among v.items i → IsProcess f i) × (picked (statements f) v.items ≡ drivers_of (processes f) g.name) × ArePlacesOf f gs vs

-- a leaf is begun: the leaf of a net has the value 0, any other one is a free word
abbrev pub IsBegun : List Node → Signal → Bool → Leaf → Type 0
IsBegun ns g true l = (e : Naming) → number_at e ns l.node ≡ 0
IsBegun ns g false l = IsAt ns l.node (free g.name g.width) × ((e : Naming) → number_at e ns l.node ≡ e g.name 0 (pos 0) % 2 ^ g.width)

-- leaves are begun, the flags telling the nets
abbrev pub AreBegun : List Node → List Signal → List Bool → List Leaf → Type 0
AreBegun ns [] [] [] = Unit {0}
AreBegun ns (g ∷ gs) (t ∷ ts) (l ∷ ls) = IsLeafOf g l × IsBegun ns g t l × AreBegun ns gs ts ls
AreBegun ns gs ts ls = ⊥

-- a node is the free word of one of the signals that are no nets
abbrev pub IsFreeOf : List Signal → List Bool → Node → Type 0
IsFreeOf [] ts n = ⊥
IsFreeOf (g ∷ gs) [] n = ⊥
IsFreeOf (g ∷ gs) (true ∷ ts) n = IsFreeOf gs ts n
IsFreeOf (g ∷ gs) (false ∷ ts) n = (n ≡ free g.name g.width) ⊎ IsFreeOf gs ts n

-- a cycle in which these names have the value 0
abbrev pub unset : List Name → Cycle → Cycle
unset xs c z = if is_among xs z then 0 else c z

-- the nets of a design have the values that groups of them are solved to, and the registers next what the clocked blocks leave
pub record IsSolved (f : Flat) (xss : List (List Name)) (d : Parts) : Type 0 where
  pub fit : FitFrom [] d.nodes
  pub net : (n : Net) → Among d.nets n → (g : Signal) × Among f.signals g × (n.name ≡ g.name) × (n.width ≡ g.width) × IsNode d.nodes n.node n.width
      × ((c : Cycle) → AreFit f.signals c → number_at (naming_of c) d.nodes n.node ≡ solved (flat_place f) (processes f) xss (unset (joined xss) c) g.name)
  pub each_net : (g : Signal) → Among f.signals g → (n : Net) × Among d.nets n × (n.name ≡ g.name) × (n.width ≡ g.width)
  pub register : (r : Register) → Among d.registers r → IsRegister f r.name × IsNode d.nodes r.next r.width
      × ((c : Cycle) → AreFit f.signals c → let now = solved (flat_place f) (processes f) xss (unset (joined xss) c) in number_at (naming_of c) d.nodes r.next ≡ after_edge (flat_place f) (clocked f.blocks) now now r.name)
  pub each_register : (x : Name) → IsRegister f x → (r : Register) × Among d.registers r × (r.name ≡ x)

abbrev pub names_of : List Signal → List ℕ → List Name
names_of gs is = map (name_of gs) is

-- a cycle in which nets have what a statement makes of it
abbrev pub driven_by : Flat → List ℕ → Stmt → Cycle → Cycle
driven_by f nets k c = taking (names_of f.signals nets) (run true (flat_place f) k c c) c

-- groups of places below a number
abbrev pub AreBelow : ℕ → List (Vec ℕ Global) → Type 0
AreBelow n vs = (v : Vec ℕ Global) (i : ℕ) → Among vs v → Among v.items i → i < n

-- the names of groups of places
abbrev pub groups_of : List Signal → List (Vec ℕ Global) → List (List Name)
groups_of gs vs = map (λ (v : Vec ℕ Global). names_of gs v.items) vs

-- the list of the first one of a group of places
abbrev pub list_in : List (Vec ℕ Global) → List ℕ → List ℕ
list_in vs [] = []
list_in vs (i ∷ is) = list_at vs i

-- the later leaves show what the clocked blocks make of the cycle that the earlier ones show
abbrev pub ShowsEdge : Flat → List Leaf → List Node → List Leaf → List Node → Type 0
ShowsEdge f ls a ms b = (e : Naming) (c : Cycle) → AreShown e a ls c → AreShown e b ms (after_edge (flat_place f) (clocked f.blocks) c c)

-- leaves as they are begun, in the cycle that they are solved to, and after the edge that ends it
pub record IsSolution (f : Flat) (xss : List (List Name)) (nets : List Bool) (ns : List Node) (first now next : List Leaf) : Type 0 where
  pub first_board : IsBoard f.signals first ns
  pub begun : AreBegun ns f.signals nets first
  pub frees : (n : Node) (i : ℕ) → is_free n ≡ true → IsAt ns i n → IsFreeOf f.signals nets n
  pub board : IsBoard f.signals now ns
  pub set : AreSet (Some now) next ns
  pub shows : (e : Naming) (c : Cycle) → AreShown e ns first c → AreShown e ns now (solved (flat_place f) (processes f) xss c)
  pub edge : (e : Naming) (c : Cycle) → AreShown e ns now c → AreShown e ns next (after_edge (flat_place f) (clocked f.blocks) c c)
