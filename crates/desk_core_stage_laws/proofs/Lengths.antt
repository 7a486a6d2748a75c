-- A well-formed expression has from 1 to 64 bits.
use Rattle.std.proofs.Common.{ℕ, max, Bool, true, false, nat_eq, List, Option, Some, None, sym, subst, arith}
use Rattle.std.specs.Prelude.{if◌then◌else◌, IsSomeAnd, unwrap_or}
use Rattle.vlog_tree.specs.declared.expr.Binary.{Binary}
use Rattle.vlog_tree.specs.declared.expr.Constant.{Constant}
use Rattle.vlog_tree.specs.declared.expr.Expr.{Expr, end_of-Expr, more_of-Expr}
use Rattle.vlog_tree.specs.declared.expr.Expr.TheVariants as e
use Rattle.vlog_tree.specs.declared.expr.Name.{Name as Read}
use Rattle.vlog_tree.specs.declared.expr.Unary.{Unary}
use Rattle.vlog_tree.specs.declared.valuation.Entry.{Entry}
use Rattle.vlog_tree.specs.Valuation.{IsLength, meaning_of, named, depth_of}
use Rattle.vlog_tree.specs.Value.{Operand, operand_of, width_of, bit_of, word_of, unary_of, binary_of, IsFormed, Stands}
use Rattle.vlog_tree_values.specs.declared.operators.Family.{Family}
use Rattle.vlog_tree_values.specs.declared.operators.Family.TheVariants as f
use Rattle.vlog_tree_values.specs.Operators.{family_of, joined_width, is_reduction}
use Rattle.vlog_tree_values.proofs.Families.{binary_width, unary_width}

one : IsLength 1
one = (omega arith, omega arith)

length_in : (o : Option Constant) (k : Constant) → IsSomeAnd o (λ c. IsLength c.width) → IsLength (unwrap_or o k).width
length_in None k h = absurd h
length_in (Some c) k h = h

-- a name that stands for something has a length
pub name_length : (v : List Entry) (x : Read) → Stands v x → IsLength (named v x).width
name_length v x h = length_in (meaning_of v x) (record { width = 1; low = 0; signed = false; value = 0 }) h

select_length : (t : Bool) (v : List Entry) (x : Read) (a : Operand) → IsLength (named v x).width → IsLength (if t then bit_of (named v x) a else word_of v x a).width
select_length true v x a h = one
select_length false v x a h = h

made_length : (t : Bool) (n : ℕ) → IsLength n → IsLength (if t then 1 else n)
made_length true n h = one
made_length false n h = h

pub longer : (m n : ℕ) → IsLength m → IsLength n → IsLength (max m n)
longer m n a b = (omega (arith, a.0), omega (arith, a.1, b.1))

joined_length : (g : Family) (m n : ℕ) → IsLength m → IsLength n → IsLength (joined_width g m n)
joined_length f.Arithmetic m n a b = longer m n a b
joined_length f.Division m n a b = longer m n a b
joined_length f.Shift m n a b = a
joined_length f.Order m n a b = one
joined_length f.Equality m n a b = one
joined_length f.Logic m n a b = one

unary_length : (op : Unary) (a : Operand) → IsLength a.width → IsLength (unary_of op a).width
unary_length op a h = subst IsLength (sym (unary_width op a)) (made_length (is_reduction op) a.width h)

binary_length : (op : Binary) (a c : Operand) → IsLength a.width → IsLength c.width → IsLength (binary_of op a c).width
binary_length op a c h k = subst IsLength (sym (binary_width op a c)) (joined_length (family_of op) a.width c.width h k)

pub formed_length : (v : List Entry) (a : Expr) → IsFormed v a → IsLength (width_of v a)
formed_length v (e.Number n) h = h
formed_length v (e.Name x) h = name_length v x h
formed_length v (e.Select' x p (more_of-Expr a end_of-Expr)) h = select_length (nat_eq (depth_of v x) 0) v x (operand_of v a) (name_length v x h.0)
formed_length v (e.Part' x span p (more_of-Expr a end_of-Expr) q (more_of-Expr b end_of-Expr)) h = h.4
formed_length v (e.ConstantSelect' k p (more_of-Expr a end_of-Expr)) h = one
formed_length v (e.ConstantPart' k span p (more_of-Expr a end_of-Expr) q (more_of-Expr b end_of-Expr)) h = h.4
formed_length v (e.Cast' cast p (more_of-Expr a end_of-Expr)) h = formed_length v a h
formed_length v (e.Paren' p (more_of-Expr a end_of-Expr)) h = formed_length v a h
formed_length v (e.Concat' p row) h = h.1
formed_length v (e.Repeat' p (more_of-Expr a end_of-Expr) q row) h = h.3
formed_length v (e.Unary' op p (more_of-Expr a end_of-Expr)) h = unary_length op (operand_of v a) (formed_length v a h)
formed_length v (e.Binary' op p (more_of-Expr a end_of-Expr) q (more_of-Expr b end_of-Expr)) h =
    binary_length op (operand_of v a) (operand_of v b) (formed_length v a h.0) (formed_length v b h.1)
formed_length v (e.Choice' p (more_of-Expr c end_of-Expr) q (more_of-Expr a end_of-Expr) i (more_of-Expr b end_of-Expr)) h =
    longer (width_of v a) (width_of v b) (formed_length v a h.1) (formed_length v b h.2)
