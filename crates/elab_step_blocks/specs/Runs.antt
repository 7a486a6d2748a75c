-- Blocks that are run on nodes.
use Rattle.std.specs.Prelude.{ℕ, ◌≡◌, ◌⊎◌, Bool, true, false, List, [], ◌∷◌, Option, Some, None, map, drop, length, get_or, ◌<◌}
use Rattle.word_dag.specs.declared.node.Node.{Node}
use Rattle.word_dag.specs.Nodes.{Naming}
use Rattle.vlog_tree_runs.specs.declared.flat.Signal.{Signal}
use Rattle.vlog_tree.specs.declared.stmt.CaseItem.{CaseItem}
use Rattle.vlog_tree.specs.declared.stmt.Labels.{Labels}
use Rattle.vlog_tree.specs.declared.stmt.Stmt.{Stmt}
use Rattle.vlog_tree.specs.Value.{bit}
use Rattle.vlog_tree_runs.specs.Places.{Name, Cycle, Place}
use Rattle.vlog_tree_runs.specs.Blocks.{is_default, run}
use Rattle.elab_step_expr.specs.declared.leaves.Leaf.{Leaf}
use Rattle.elab_step_expr.specs.Leaves.{declared, AreReady}
use Rattle.elab_step_expr.specs.Nodes.{IsNode, number_at}
use Rattle.elab_step_blocks.specs.Cases.{picked, each_default}
use Rattle.elab_step_blocks.specs.declared.branches.Saved.{Saved}
use Rattle.elab_step_blocks.specs.Saving.{put_back}
use Rattle.elab_step_blocks.specs.Standing.{flat, AreLeavesOf, AreApart, AreShown, chosen}

-- the leaves that expressions are read from: those of the cycle before the edge, and where there are none, those that stand now
abbrev pub seen_by : Option (List Leaf) → List Leaf → List Leaf
seen_by None ms = ms
seen_by (Some ls) ms = ls

-- assignments take effect at once
abbrev pub is_at_once : Option (List Leaf) → Bool
is_at_once None = true
is_at_once (Some ls) = false

-- the leaves of the cycle before the edge, if there are any, show this cycle
abbrev pub AreBefore : Naming → List Node → Option (List Leaf) → Cycle → Type 0
AreBefore e ns None c = Unit {0}
AreBefore e ns (Some ls) c = AreShown e ns ls c

-- the leaves have nodes of their lengths, no two of them have one name, and those that are read are of the same names
pub record AreSet (reads : Option (List Leaf)) (ms : List Leaf) (ns : List Node) : Type 0 where
  pub ready : AreReady ms ns
  pub seen : AreReady (seen_by reads ms) ns
  pub same : declared (seen_by reads ms) ≡ declared ms
  pub apart : AreApart ms

-- the later leaves show f of each two cycles that are shown before: the one before the edge, and the one so far
abbrev pub Runs : Option (List Leaf) → (List Signal → Cycle → Cycle → Cycle) → List Leaf → List Node → List Leaf → List Node → Type 0
Runs reads f ls old ms new =
    (gs : List Signal) (e : Naming) (c d : Cycle) → AreLeavesOf gs ls → AreBefore e old reads c → AreShown e old ls d → AreShown e new ms (f gs c d)

-- the later leaves show what was shown where a node is 1, else what is shown with saved nodes put back
abbrev pub Joins : ℕ → List Saved → List Leaf → List Node → List Leaf → List Node → Type 0
Joins condition others ls old ms new =
    (e : Naming) (c d : Cycle) → AreShown e old ls c → AreShown e old (put_back ls others) d → AreShown e new ms (chosen (number_at e old condition) c d)

-- statements, one after another
abbrev pub each_runs : Bool → Place → List Stmt → Cycle → Cycle → Cycle
each_runs at_once p [] c d = d
each_runs at_once p (a ∷ rest) c d = each_runs at_once p rest c (run at_once p a c d)

-- a node is 1 where a test holds of the cycles that are shown, and 0 where it doesn't
abbrev pub Tests : Option (List Leaf) → (List Signal → Cycle → Cycle → Bool) → List Leaf → List Node → List Node → ℕ → Type 0
Tests reads t ms old new z = (gs : List Signal) (e : Naming) (p q : Cycle) → AreLeavesOf gs ms → AreBefore e old reads p → AreShown e old ms q → number_at e new z ≡ bit (t gs p q)

-- the later leaves show what a statement makes of what is shown with saved nodes put back where a test's node is 1, else what was shown
abbrev pub Branches : Option (List Leaf) → Stmt → ℕ → List Saved → List Leaf → List Node → List Leaf → List Node → Type 0
Branches reads body test before ms old ks new =
    (gs : List Signal) (e : Naming) (p q d : Cycle) → AreLeavesOf gs ms → AreBefore e old reads p → AreShown e old (put_back ms before) q → AreShown e old ms d
    → AreShown e new ks (chosen (number_at e old test) (run (is_at_once reads) (flat gs) body p q) d)

-- the later leaves show what a statement makes of what was shown where a test's node is 1, else what was shown
abbrev pub Guards : Option (List Leaf) → Stmt → ℕ → List Leaf → List Node → List Leaf → List Node → Type 0
Guards reads body test ms old ks new =
    (gs : List Signal) (e : Naming) (p q : Cycle) → AreLeavesOf gs ms → AreBefore e old reads p → AreShown e old ms q
    → AreShown e new ks (chosen (number_at e old test) (run (is_at_once reads) (flat gs) body p q) q)

-- each node is of one bit, one for each item
abbrev pub AreBits : List CaseItem → List ℕ → List Node → Type 0
AreBits [] [] ns = Unit {0}
AreBits [] (z ∷ zs) ns = ⊥
AreBits (i ∷ rest) [] ns = ⊥
AreBits (i ∷ rest) (z ∷ zs) ns = IsNode ns z 1 × AreBits rest zs ns

-- each is 1 where a test passes its item's labels
abbrev pub AreTests : Option (List Leaf) → (List Signal → Cycle → Cycle → Labels → Bool) → List Leaf → List Node → List Node → List CaseItem → List ℕ → Type 0
AreTests reads t ms old new [] zs = Unit {0}
AreTests reads t ms old new (i ∷ rest) [] = Unit {0}
AreTests reads t ms old new (i ∷ rest) (z ∷ zs) = Tests reads (λ gs p q. t gs p q i.labels) ms old new z × AreTests reads t ms old new rest zs

-- the later leaves show what the first item whose node is 1 makes of what is shown with saved nodes put back, and where there is none what
-- was shown
abbrev pub Picks : Option (List Leaf) → List CaseItem → List ℕ → List Saved → List Leaf → List Node → List Leaf → List Node → Type 0
Picks reads items tests before ms old ks new =
    (gs : List Signal) (e : Naming) (p q d : Cycle) → AreLeavesOf gs ms → AreBefore e old reads p → AreShown e old (put_back ms before) q → AreShown e old ms d
    → AreShown e new ks (picked (is_at_once reads) (flat gs) items (map (number_at e old) tests) p q d)

-- the later leaves show what the first item whose node is 1 makes of what was shown, and where there is none what the default makes of it
abbrev pub Chooses : Option (List Leaf) → List CaseItem → List ℕ → List Leaf → List Node → List Leaf → List Node → Type 0
Chooses reads items tests ms old ks new =
    (gs : List Signal) (e : Naming) (p q : Cycle) → AreLeavesOf gs ms → AreBefore e old reads p → AreShown e old ms q
    → AreShown e new ks (picked (is_at_once reads) (flat gs) items (map (number_at e old) tests) p q (each_default (is_at_once reads) (flat gs) items p q))

-- where no item's node is 1, a later node is 0 and the leaves show what was shown; else it is 1, and they show what the first such item
-- makes of that
abbrev pub Takes : Option (List Leaf) → List CaseItem → List ℕ → ℕ → List Leaf → List Node → List Leaf → List Node → Type 0
Takes reads items tests matched ms old ks new =
    (gs : List Signal) (e : Naming) (p q d : Cycle) → AreLeavesOf gs ms → AreBefore e old reads p → AreShown e old ms q
    → ((number_at e new matched ≡ 0) × AreShown e new ks q × ((x : Name) → picked (is_at_once reads) (flat gs) items (map (number_at e old) tests) p q d x ≡ d x))
    ⊎ ((number_at e new matched ≡ 1) × AreShown e new ks (picked (is_at_once reads) (flat gs) items (map (number_at e old) tests) p q d))

-- the place of the first item that is the default, or the number of items
pub record IsDefaultAt (items : List CaseItem) (k : ℕ) : Type 0 where
  pub skipped : (at_once : Bool) (p : Place) (c d : Cycle) (x : Name) → each_default at_once p items c d x ≡ each_default at_once p (drop k items) c d x
  pub default : (i : CaseItem) → k < length items → is_default (get_or items k i).labels ≡ true
