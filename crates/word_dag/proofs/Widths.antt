-- The width of a node's word.
use Rattle.std.proofs.Common.{◌≡◌, ℕ, Bool, true, false, List, refl, sym, ◌∙◌}
use Rattle.std.specs.Prelude.{if◌then◌else◌, ◌==◌}
use Rattle.word_core.specs.Words.{Bits}
use Rattle.word_dag.specs.declared.node.Op.{Op}
use Rattle.word_dag.specs.declared.node.Op.TheVariants.{Add, Sub, Mul, And, Or, Xor, Shl, Shr, Sar, Ult, Slt, Eq, Concat}
use Rattle.word_dag.specs.declared.node.Node.{Node}
use Rattle.word_dag.specs.declared.node.Node.TheVariants.{Free, Const, Two, Not, Slice, Zext, Sext, Mux}
use Rattle.word_dag.specs.Nodes.{FitsNode, FitsOp, width_of, node_value, op_value, word_at}
use Rattle.word_dag.specs.Given.{widths_of}
use Rattle.word_dag.proofs.Operands.{width_at-words}

width-op_value : (op : Op) (w : ℕ) (a b : Bits) → FitsOp op w a.width b.width → (op_value op a b).width ≡ w
width-op_value Add w a b f = f.0
width-op_value Sub w a b f = f.0
width-op_value Mul w a b f = f.0
width-op_value And w a b f = f.0
width-op_value Or w a b f = f.0
width-op_value Xor w a b f = f.0
width-op_value Shl w a b f = f
width-op_value Shr w a b f = f
width-op_value Sar w a b f = f
width-op_value Ult w a b f = sym f.0
width-op_value Slt w a b f = sym f.0
width-op_value Eq w a b f = sym f.0
width-op_value Concat w a b f = sym f.0

pub width-node_value : (u : ℕ) (vs : List Bits) (n : Node) → FitsNode (widths_of vs) n → (node_value u vs n).width ≡ width_of n
width-node_value u vs (Free name w side cycle) f = refl
width-node_value u vs (Const w) f = refl
width-node_value u vs (Two op w a b) f =
    width-op_value op w (word_at vs a) (word_at vs b) (rw (← width_at-words vs a, ← width_at-words vs b) f.2)
width-node_value u vs (Not w a) f = sym (width_at-words vs a) ∙ f.1
width-node_value u vs (Slice w a lo) f = refl
width-node_value u vs (Zext w a) f = refl
width-node_value u vs (Sext w a) f = refl
width-node_value u vs (Mux w c a b) f = pick ((word_at vs c).value == 1)
  where
    pick : (t : Bool) → (if t then word_at vs a else word_at vs b).width ≡ w
    pick true = sym (width_at-words vs a) ∙ f.4
    pick false = sym (width_at-words vs b) ∙ f.5
