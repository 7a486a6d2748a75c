-- The targets of a left side.
use Rattle.std.specs.Prelude.{ℕ, ◌≡◌, ◌+◌, ◌<◌, length, get_or, List, [], ◌∷◌, Some}
use Rattle.std.specs.List.{flat_map}
use Rattle.word_dag.specs.declared.node.Node.{Node}
use Rattle.word_dag.specs.Nodes.{Naming}
use Rattle.vlog_tree.specs.declared.expr.Expr.{Expr}
use Rattle.vlog_tree.specs.declared.stmt.Lval.{Lval}
use Rattle.vlog_tree.specs.declared.valuation.Entry.{Entry}
use Rattle.vlog_tree.specs.Value.{integer, operand_of, own_integer}
use Rattle.vlog_tree_runs.specs.declared.flat.Signal.{Signal}
use Rattle.vlog_tree_runs.specs.Places.{Name, Cycle, pieces}
use Rattle.elab_step_expr.specs.declared.leaves.Leaf.{Leaf}
use Rattle.elab_step_expr.specs.Leaves.{declared, valued, leaf_at}
use Rattle.elab_step_expr.specs.Nodes.{number_at, words, IsWire}
use Rattle.elab_step_expr.specs.declared.indexed.Own.{Own}
use Rattle.elab_step_blocks.specs.declared.targets.Target.{Target}
use Rattle.elab_step_blocks.specs.Standing.{flat, AreLeavesOf, AreShown}
use Rattle.elab_step_blocks.specs.Targets.{IsTarget, AreTargets, piece_of, pieces_of, bits_in}
use Rattle.elab_step_blocks.specs.Ready.{left_width}

-- leaf number i is the one of a name
pub record IsLeafAt (ls : List Leaf) (x : Name) (i : ℕ) : Type 0 where
  pub leaf : Leaf
  pub within : i < length ls
  pub at : leaf ≡ get_or ls i leaf
  pub found : leaf_at ls x 0 ≡ Some leaf

-- a node has the integer of an expression that is taken by itself
pub record IsIndex (ls : List Leaf) (ns : List Node) (a : Expr) (o : Own) : Type 0 where
  pub node : IsWire ns o.wire
  pub value : (e : Naming) → integer o.signed o.wire.width (number_at e ns o.wire.node) ≡ own_integer (operand_of (valued ls (words e ns)) a)

-- a target is a part of a left side, the only one
pub record IsPart (ls : List Leaf) (ns : List Node) (t : Target) (left : Lval) : Type 0 where
  pub target : IsTarget ls ns t
  pub bits : t.count ≡ left_width (declared ls) left
  pub piece : (gs : List Signal) (e : Naming) (c : Cycle) → AreLeavesOf gs ls → AreShown e ns ls c → piece_of e ns ls t ∷ [] ≡ pieces (flat gs) c left

-- how many bits left sides have
abbrev pub lefts_width : List Entry → List Lval → ℕ
lefts_width v [] = 0
lefts_width v (a ∷ rest) = left_width v a + lefts_width v rest

-- targets are the parts of left sides
pub record AreParts (ls : List Leaf) (ns : List Node) (ts : List Target) (lefts : List Lval) : Type 0 where
  pub targets : AreTargets ls ns ts
  pub bits : bits_in ts ≡ lefts_width (declared ls) lefts
  pub pieces_are : (gs : List Signal) (e : Naming) (c : Cycle) → AreLeavesOf gs ls → AreShown e ns ls c → pieces_of e ns ls ts ≡ flat_map (pieces (flat gs) c) lefts
