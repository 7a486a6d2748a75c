-- What is asked of an expression that becomes a node, and what is known then.
use Rattle.std.specs.Prelude.{ℕ, ◌≡◌, Bool, false, List, [], ◌∷◌, IsTrue, nat_eq, if◌then◌else◌}
use Rattle.vlog_tree.specs.declared.expr.Expr.{Expr}
use Rattle.vlog_tree.specs.declared.expr.Unary.{Unary}
use Rattle.vlog_tree.specs.Valuation.{IsLength}
use Rattle.vlog_tree.specs.Value.{IsFormed, IsDefined, HasConstantParts, operand_of, own_defined, width_of, sign_of}
use Rattle.vlog_tree_values.specs.declared.operators.Family.{Family}
use Rattle.vlog_tree_values.specs.Operators.{left_width, right_width, left_sign, right_sign, inner_width, inner_sign}
use Rattle.vlog_tree_values.specs.Shapes.{IsReady, HasShape, HasValue, HasOwn, HasRowWord, each_row}
use Rattle.word_dag.specs.declared.node.Node.{Node}
use Rattle.word_dag.specs.Nodes.{Naming, word_at}
use Rattle.elab_step_expr.specs.declared.leaves.Leaf.{Leaf}
use Rattle.elab_step_expr.specs.declared.nodes.Wire.{Wire}
use Rattle.elab_step_expr.specs.Leaves.{valued, declared}
use Rattle.elab_step_expr.specs.Nodes.{IsNode, IsWire, number_at, words}

-- no name is a parameter's: where an expression becomes a node, a parameter is a number
abbrev pub nothing : List ℕ → Bool
nothing x = false

-- it may be taken at this length and sign
pub record IsTaken (ls : List Leaf) (a : Expr) (L : ℕ) (s : Bool) : Type 0 where
  pub ready : IsReady (declared ls) a L
  pub constant : HasConstantParts nothing a
  pub defined : IsDefined (declared ls) a L s

-- it may be taken by itself
pub record IsAlone (ls : List Leaf) (a : Expr) : Type 0 where
  pub formed : IsFormed (declared ls) a
  pub constant : HasConstantParts nothing a
  pub defined : IsTrue (own_defined (operand_of (declared ls) a))

abbrev pub EachAlone : List Leaf → List Expr → Type 0
EachAlone ls [] = Unit {0}
EachAlone ls (a ∷ rest) = IsAlone ls a × EachAlone ls rest

-- the parts of a concatenation, each of which may be taken by itself
pub record IsRow (ls : List Leaf) (row : List Expr) : Type 0 where
  pub alone : EachAlone ls row
  pub length : IsLength (each_row (declared ls) row).width

-- a unary operator takes its operand at the length p and the sign q
pub record IsInner (ls : List Leaf) (op : Unary) (a : Expr) (L : ℕ) (s : Bool) (p : ℕ) (q : Bool) : Type 0 where
  pub width : p ≡ inner_width op L (width_of (declared ls) a)
  pub sign : q ≡ inner_sign op s (sign_of (declared ls) a)

-- an operator of this family takes its operands at the lengths i and j and the signs p and q
pub record AreOperands (ls : List Leaf) (k : Family) (a b : Expr) (L : ℕ) (s : Bool) (i : ℕ) (p : Bool) (j : ℕ) (q : Bool) : Type 0 where
  pub left : i ≡ left_width k L (width_of (declared ls) a) (width_of (declared ls) b)
  pub left_signed : p ≡ left_sign k s (sign_of (declared ls) a) (sign_of (declared ls) b)
  pub right : j ≡ right_width k L (width_of (declared ls) a) (width_of (declared ls) b)
  pub right_signed : q ≡ right_sign k s (sign_of (declared ls) a) (sign_of (declared ls) b)

-- node i has its value at this length and sign, whatever the free words are
pub record HasNode (ls : List Leaf) (old new : List Node) (a : Expr) (L : ℕ) (s : Bool) (i : ℕ) : Type 0 where
  pub node : IsNode new i L
  pub word : (e : Naming) → HasValue (valued ls (words e old)) a L s (word_at (words e new) i)

-- the node has its value by itself
pub record HasOwnNode (ls : List Leaf) (old new : List Node) (a : Expr) (n : Wire) (s : Bool) : Type 0 where
  pub node : IsWire new n
  pub shape : HasShape (declared ls) a n.width s
  pub word : (e : Naming) → HasOwn (valued ls (words e old)) a (word_at (words e new) n.node) s

-- the node has the value of a concatenation
pub record HasRowNode (ls : List Leaf) (old new : List Node) (row : List Expr) (n : Wire) : Type 0 where
  pub node : IsWire new n
  pub width : n.width ≡ (each_row (declared ls) row).width
  pub word : (e : Naming) → HasRowWord (valued ls (words e old)) row (word_at (words e new) n.node)

-- the number of the first parts of a concatenation, which is 0 where there is none
abbrev pub so_far : Naming → List Node → Wire → ℕ
so_far e ns n = if nat_eq n.width 0 then 0 else number_at e ns n.node
