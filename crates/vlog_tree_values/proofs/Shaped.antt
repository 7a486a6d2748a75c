-- The shapes of well-formed expressions, by their forms.
use Rattle.std.proofs.Common.{◌≡◌, ℕ, Bool, true, false, refl, sym, subst, ap, ◌∙◌, List, arith}
use Rattle.vlog_tree.specs.declared.expr.Binary.{Binary}
use Rattle.vlog_tree.specs.declared.expr.Constant.{Constant}
use Rattle.vlog_tree.specs.declared.expr.Expr.{Expr}
use Rattle.vlog_tree.specs.declared.expr.Expr.TheVariants as e
use Rattle.vlog_tree.specs.declared.expr.Name.{Name}
use Rattle.vlog_tree.specs.declared.expr.Span.{Span}
use Rattle.vlog_tree.specs.declared.expr.Unary.{Unary}
use Rattle.vlog_tree.specs.declared.valuation.Entry.{Entry}
use Rattle.vlog_tree.specs.Valuation.{IsLength, named}
use Rattle.vlog_tree.specs.Value.{Operand, operand_of, part_of, own_integer, part_width, width_of, sign_of, IsFormed}
use Rattle.vlog_tree_values.specs.declared.operators.Family.{Family}
use Rattle.vlog_tree_values.specs.Operators.{family_of, joined_width, joined_sign, is_reduction}
use Rattle.vlog_tree_values.specs.Shapes.{HasShape, each_row}
use Rattle.vlog_tree_values.proofs.Facts.{constant_select_has, unary_has, binary_has, concat_has}
use Rattle.vlog_tree_values.proofs.Forms.{part_operand, part_formed, constant_select_formed, constant_part_operand, constant_part_formed, unary_formed, binary_formed, concat_formed}
use Rattle.vlog_tree_values.proofs.Lengths.{formed_shape}

pub constant_select_shape : (v : List Entry) (k : Constant) (a tree : Expr) → tree ≡ e.ConstantSelect k a → IsFormed v tree → HasShape v tree 1 false
constant_select_shape v k a tree is h =
    let f = constant_select_formed v k a tree is h in
    constant_select_has v k a tree a is f.0 refl f.1

-- an operand that is part of a vector
part_has_shape : (v : List Entry) (k : Constant) (p : Span) (a b tree y z : Expr) (n : ℕ) → operand_of v tree ≡ part_of k p (operand_of v a) (operand_of v b) → IsFormed v tree → IsLength (part_width p (own_integer (operand_of v a)) (own_integer (operand_of v b))) → y ≡ a → z ≡ b → n ≡ part_width p (own_integer (operand_of v y)) (own_integer (operand_of v z)) → HasShape v tree n false
part_has_shape v k p a b tree y z n is h length ya zb wide =
    let wide' : n ≡ part_width p (own_integer (operand_of v a)) (own_integer (operand_of v b)) = rw (ya, zb) at wide in
    record {
      formed = h;
      width = wide' ∙ sym (ap (λ (o : Operand). o.width) is);
      sign = sym (ap (λ (o : Operand). o.signed) is);
      length = subst IsLength (sym wide') length;
    }

pub part_shape : (v : List Entry) (x : Name) (p : Span) (a b tree y z : Expr) (n : ℕ) → tree ≡ e.Part x p a b → y ≡ a → z ≡ b → IsFormed v tree → n ≡ part_width p (own_integer (operand_of v y)) (own_integer (operand_of v z)) → HasShape v tree n false
part_shape v x p a b tree y z n is ya zb h wide =
    part_has_shape v (named v x) p a b tree y z n (rw (is, part_operand) refl) h (part_formed v x p a b tree is h).4 ya zb wide

pub constant_part_shape : (v : List Entry) (k : Constant) (p : Span) (a b tree y z : Expr) (n : ℕ) → tree ≡ e.ConstantPart k p a b → y ≡ a → z ≡ b → IsFormed v tree → n ≡ part_width p (own_integer (operand_of v y)) (own_integer (operand_of v z)) → HasShape v tree n false
constant_part_shape v k p a b tree y z n is ya zb h wide =
    part_has_shape v k p a b tree y z n (rw (is, constant_part_operand) refl) h (constant_part_formed v k p a b tree is h).4 ya zb wide

-- a concatenation has the bits of its parts
pub concat_shape : (v : List Entry) (items : List Expr) (tree : Expr) (n : ℕ) → tree ≡ e.Concat items → IsFormed v tree → n ≡ (each_row v items).width → HasShape v tree n false
concat_shape v items tree n is h wide =
    let f = concat_formed v items tree is h in
    concat_has v items items tree n is refl (record { formed = f.0; width = wide; most = omega (arith, wide, f.1.1) }) (omega (arith, wide, f.1.0), omega (arith, wide, f.1.1))

-- a reduction has one bit, and another unary operator its operand's shape
pub reduction_shape : (v : List Entry) (op : Unary) (a tree : Expr) → tree ≡ e.Unary op a → is_reduction op ≡ true → IsFormed v tree → HasShape v tree 1 false
reduction_shape v op a tree is test h =
    unary_has v op a tree a 1 (width_of v a) false (sign_of v a) is refl (formed_shape v a (unary_formed v op a tree is h)) (rw test refl) (rw test refl)

pub change_shape : (v : List Entry) (op : Unary) (a tree y : Expr) (n : ℕ) (s : Bool) → tree ≡ e.Unary op a → y ≡ a → is_reduction op ≡ false → HasShape v y n s → HasShape v tree n s
change_shape v op a tree y n s is ya test h = unary_has v op a tree y n n s s is ya h (rw test refl) (rw test refl)

-- a binary operator's, by those of its operands
pub binary_shape : (v : List Entry) (op : Binary) (a b tree y z : Expr) (k : Family) (n : ℕ) (s : Bool) → tree ≡ e.Binary op a b → y ≡ a → z ≡ b → IsFormed v tree → k ≡ family_of op → n ≡ joined_width k (width_of v y) (width_of v z) → s ≡ joined_sign k (sign_of v y) (sign_of v z) → HasShape v tree n s
binary_shape v op a b tree y z k n s is ya zb h ko wide sign =
    let f = binary_formed v op a b tree is h in
    binary_has v op a b tree y z k n (width_of v y) (width_of v z) s (sign_of v y) (sign_of v z) is ya zb (formed_shape v y (rw ya f.0)) (formed_shape v z (rw zb f.1)) ko wide sign
