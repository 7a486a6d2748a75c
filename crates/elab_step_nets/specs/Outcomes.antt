-- Blocks that are run once, over a source in which each signal is a free word.
use Rattle.std.specs.Prelude.{ℕ, ◌≡◌, ◌<◌, true, false, List, [], ◌∷◌, length, replicate, slice_index}
use Rattle.std.specs.List.Sorted.{IsStrictlyIncreasing}
use Rattle.vlog_tree.specs.declared.stmt.Stmt.{Stmt}
use Rattle.vlog_tree_runs.specs.declared.flat.Always.{Always}
use Rattle.vlog_tree_runs.specs.declared.flat.Signal.{Signal}
use Rattle.vlog_tree_runs.specs.Places.{Cycle, Among}
use Rattle.vlog_tree_runs.specs.Blocks.{run}
use Rattle.word_dag.specs.declared.node.Node.{Node}
use Rattle.word_dag.specs.Adding.{IsAt}
use Rattle.word_dag.specs.Given.{is_free}
use Rattle.word_dag.specs.Nodes.{Naming}
use Rattle.elab_step_expr.specs.declared.leaves.Leaf.{Leaf}
use Rattle.elab_step_expr.specs.Nodes.{IsNode, number_at}
use Rattle.elab_step_blocks.specs.Saving.{AreWithin}
use Rattle.elab_step_blocks.specs.Sparing.{Spares}
use Rattle.elab_step_blocks.specs.Standing.{flat, AreLeavesOf, AreShown}
use Rattle.elab_step_blocks.specs.Targets.{name_at, width_at}
use Rattle.elab_step_copies.specs.Copies.{AreCopies}
use Rattle.elab_step_nets.specs.declared.nets.Processes.{Processes}
use Rattle.elab_step_nets.specs.declared.outcomes.Outcome.{Outcome}
use Rattle.elab_step_nets.specs.Asked.{CanElaborate}
use Rattle.elab_step_nets.specs.Boards.{IsBoard, AreBegun, IsFreeOf, Shows}

-- a source: each signal's leaf is a free word, and there is no other free word
pub record IsSource (gs : List Signal) (ls : List Leaf) (ns : List Node) : Type 0 where
  pub board : IsBoard gs ls ns
  pub begun : AreBegun ns gs (replicate (length gs) false) ls
  pub frees : (n : Node) (i : ℕ) → is_free n ≡ true → IsAt ns i n → IsFreeOf gs (replicate (length gs) false) n

-- a node has the number that a statement leaves at a place, in each cycle that the leaves show
pub record IsRoot (ls : List Leaf) (ns : List Node) (body : Stmt) (place i : ℕ) : Type 0 where
  pub node : IsNode ns i (width_at ls place)
  pub number : (gs : List Signal) (e : Naming) (c : Cycle) → AreLeavesOf gs ls → AreShown e ns ls c → run true (flat gs) body c c (name_at ls place) ≡ number_at e ns i

-- the places rise, each with a node
pub record IsFound (o : Outcome) : Type 0 where
  pub rises : IsStrictlyIncreasing o.places.items
  pub long : length o.nodes.items ≡ length o.places.items

-- what a statement leaves: such a node for each place of some, and it spares all others
pub record IsOutcome (ls : List Leaf) (ns : List Node) (body : Stmt) (o : Outcome) : Type 0 where
  pub found : IsFound o
  pub within : (k : ℕ) → k < length o.places.items → slice_index o.places.items k < length ls
  pub roots : (k : ℕ) → k < length o.places.items → IsRoot ls ns body (slice_index o.places.items k) (slice_index o.nodes.items k)
  pub others : (i : ℕ) → i < length ls → (Among o.places.items i → ⊥) → Spares ls body (name_at ls i)

-- what combinational blocks leave
abbrev pub AreOutcomes : List Leaf → List Node → List Always → List Outcome → Type 0
AreOutcomes ls ns [] [] = Unit {0}
AreOutcomes ls ns [] (o ∷ os) = ⊥
AreOutcomes ls ns (k ∷ ks) [] = ⊥
AreOutcomes ls ns (k ∷ ks) (o ∷ os) = (k.clocked ≡ false → IsOutcome ls ns k.body o) × AreOutcomes ls ns ks os

-- nodes of these places, each with the number that a statement leaves there
abbrev pub AreRoots : List Leaf → List Node → Stmt → List ℕ → List ℕ → Type 0
AreRoots ls ns body [] [] = Unit {0}
AreRoots ls ns body [] (i ∷ is) = ⊥
AreRoots ls ns body (k ∷ ks) [] = ⊥
AreRoots ls ns body (k ∷ ks) (i ∷ is) = IsRoot ls ns body k i × AreRoots ls ns body ks is

-- processes, and copies of what their blocks leave for these leaves
pub record AreProcesses (p : Processes) (ls : List Leaf) (ns : List Node) : Type 0 where
  pub source : IsSource p.flat.now.signals p.first p.copier.source
  pub outcomes : AreOutcomes p.first p.copier.source p.flat.now.blocks p.outcomes.items
  pub copies : AreCopies p.copier ls ns

-- the same processes
pub record AreSameProcesses (p q : Processes) : Type 0 where
  pub flat : q.flat.now ≡ p.flat.now
  pub first : q.first ≡ p.first
  pub outcomes : q.outcomes.items ≡ p.outcomes.items
  pub source : q.copier.source ≡ p.copier.source

-- processes, and leaves among which nets can be driven
pub record CanDrive (p : Processes) (ls : List Leaf) (ns : List Node) (nets : List ℕ) : Type 0 where
  pub can : CanElaborate p.flat.now
  pub board : IsBoard p.flat.now.signals ls ns
  pub processes : AreProcesses p ls ns
  pub within : AreWithin ls nets

-- the same processes, with leaves that show what a step makes of each cycle
pub record AreDriven (step : Cycle → Cycle) (p q : Processes) (ls : List Leaf) (a : List Node) (ms : List Leaf) (b : List Node) : Type 0 where
  pub same : AreSameProcesses p q
  pub board : IsBoard p.flat.now.signals ms b
  pub processes : AreProcesses q ms b
  pub shows : Shows step ls a ms b
