-- What the signals of a module hold in a cycle, as nodes of a dag.
use Rattle.std.specs.Prelude.{ℕ, ◌≡◌, ◌≢◌, List, [], ◌∷◌, nat_eq, if◌then◌else◌}
use Rattle.vlog_tree_runs.specs.declared.flat.Signal.{Signal}
use Rattle.vlog_tree_runs.specs.Places.{Name, Cycle, Place}
use Rattle.word_dag.specs.declared.node.Node.{Node}
use Rattle.word_dag.specs.Nodes.{Naming}
use Rattle.elab_step_expr.specs.declared.leaves.Leaf.{Leaf}
use Rattle.elab_step_expr.specs.Nodes.{number_at}

-- the place of a module without instances
abbrev pub flat : List Signal → Place
flat gs = record { prefix = []; signals = gs; params = [] }

-- a leaf is that of a signal, which is no memory
pub record IsLeafOf (g : Signal) (l : Leaf) : Type 0 where
  pub name : l.name ≡ g.name
  pub offset : l.offset ≡ 0
  pub width : l.width ≡ g.width
  pub low : l.low ≡ g.low
  pub signed : l.signed ≡ g.signed
  pub depth : g.depth ≡ 0

-- the leaves are those of the signals, in their order
abbrev pub AreLeavesOf : List Signal → List Leaf → Type 0
AreLeavesOf [] [] = Unit {0}
AreLeavesOf [] (l ∷ ls) = ⊥
AreLeavesOf (g ∷ gs) [] = ⊥
AreLeavesOf (g ∷ gs) (l ∷ ls) = IsLeafOf g l × AreLeavesOf gs ls

-- no leaf has this name
abbrev pub Lacks : Name → List Leaf → Type 0
Lacks x [] = Unit {0}
Lacks x (l ∷ ls) = (x ≢ l.name) × Lacks x ls

-- no two leaves have one name
abbrev pub AreApart : List Leaf → Type 0
AreApart [] = Unit {0}
AreApart (l ∷ ls) = Lacks l.name ls × AreApart ls

-- each name has in a cycle the number of its leaf's node, the free words having these values
abbrev pub AreShown : Naming → List Node → List Leaf → Cycle → Type 0
AreShown e ns [] c = Unit {0}
AreShown e ns (l ∷ ls) c = (c l.name ≡ number_at e ns l.node) × AreShown e ns ls c

-- a cycle where a number is 1, else another one
abbrev pub chosen : ℕ → Cycle → Cycle → Cycle
chosen n c d x = if nat_eq n 1 then c x else d x
