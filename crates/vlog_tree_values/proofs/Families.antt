-- The operators of vlog_tree's definition by their families.
use Rattle.std.proofs.Common.{◌≡◌, ℕ, Bool, refl, ap, ◌∙◌}
use Rattle.vlog_tree.specs.declared.expr.Binary.{Binary}
use Rattle.vlog_tree.specs.declared.expr.Binary.TheVariants as b
use Rattle.vlog_tree.specs.declared.expr.Unary.{Unary}
use Rattle.vlog_tree.specs.declared.expr.Unary.TheVariants as u
use Rattle.vlog_tree.specs.Value.{Operand, unary_of, binary_of, in_context, divided, compared, matched, both_alone, shifted}
use Rattle.vlog_tree_values.specs.declared.operators.Family.{Family}
use Rattle.vlog_tree_values.specs.declared.operators.Family.TheVariants as f
use Rattle.vlog_tree_values.specs.Operators.{family_of, arithmetic_of, quotient_of, shift_of, order_of, equality_of, logic_of, left_width, right_width, left_sign, right_sign, joined_width, joined_sign, joined_number, is_joined, inner_width, inner_sign, made_width, made_sign, made_number}

abbrev pub by_family : Family → Binary → Operand → Operand → Operand
by_family f.Arithmetic op a c = in_context a c (λ n s x y. arithmetic_of op n x y)
by_family f.Division op a c = divided a c (λ i j. quotient_of op i j)
by_family f.Shift op a c = shifted a c (λ n s x y. shift_of op n s x y)
by_family f.Order op a c = compared a c (λ i j. order_of op i j)
by_family f.Equality op a c = matched a c (λ x y. equality_of op x y)
by_family f.Logic op a c = both_alone a c (λ x y. logic_of op x y)

pub binary_is : (op : Binary) (a c : Operand) → binary_of op a c ≡ by_family (family_of op) op a c
binary_is b.Mul a c = refl
binary_is b.Div a c = refl
binary_is b.Rem a c = refl
binary_is b.Add a c = refl
binary_is b.Sub a c = refl
binary_is b.Shl a c = refl
binary_is b.Shr a c = refl
binary_is b.ArithmeticShl a c = refl
binary_is b.ArithmeticShr a c = refl
binary_is b.Less a c = refl
binary_is b.LessEqual a c = refl
binary_is b.Greater a c = refl
binary_is b.GreaterEqual a c = refl
binary_is b.Equal a c = refl
binary_is b.NotEqual a c = refl
binary_is b.BitAnd a c = refl
binary_is b.BitXor a c = refl
binary_is b.BitXnor a c = refl
binary_is b.BitOr a c = refl
binary_is b.LogicalAnd a c = refl
binary_is b.LogicalOr a c = refl

family_width : (k : Family) (op : Binary) (a c : Operand) → (by_family k op a c).width ≡ joined_width k a.width c.width
family_width f.Arithmetic op a c = refl
family_width f.Division op a c = refl
family_width f.Shift op a c = refl
family_width f.Order op a c = refl
family_width f.Equality op a c = refl
family_width f.Logic op a c = refl

family_sign : (k : Family) (op : Binary) (a c : Operand) → (by_family k op a c).signed ≡ joined_sign k a.signed c.signed
family_sign f.Arithmetic op a c = refl
family_sign f.Division op a c = refl
family_sign f.Shift op a c = refl
family_sign f.Order op a c = refl
family_sign f.Equality op a c = refl
family_sign f.Logic op a c = refl

family_number : (k : Family) (op : Binary) (a c : Operand) (L : ℕ) (s : Bool) → (by_family k op a c).value L s ≡ joined_number k op L s (left_width k L a.width c.width) (left_sign k s a.signed c.signed) (a.value (left_width k L a.width c.width) (left_sign k s a.signed c.signed)) (c.value (right_width k L a.width c.width) (right_sign k s a.signed c.signed))
family_number f.Arithmetic op a c L s = refl
family_number f.Division op a c L s = refl
family_number f.Shift op a c L s = refl
family_number f.Order op a c L s = refl
family_number f.Equality op a c L s = refl
family_number f.Logic op a c L s = refl

family_defined : (k : Family) (op : Binary) (a c : Operand) (L : ℕ) (s : Bool) → (by_family k op a c).defined L s ≡ is_joined k (a.defined (left_width k L a.width c.width) (left_sign k s a.signed c.signed)) (c.defined (right_width k L a.width c.width) (right_sign k s a.signed c.signed)) (c.value (right_width k L a.width c.width) (right_sign k s a.signed c.signed))
family_defined f.Arithmetic op a c L s = refl
family_defined f.Division op a c L s = refl
family_defined f.Shift op a c L s = refl
family_defined f.Order op a c L s = refl
family_defined f.Equality op a c L s = refl
family_defined f.Logic op a c L s = refl

pub binary_width : (op : Binary) (a c : Operand) → (binary_of op a c).width ≡ joined_width (family_of op) a.width c.width
binary_width op a c = ap (λ (o : Operand). o.width) (binary_is op a c) ∙ family_width (family_of op) op a c

pub binary_sign : (op : Binary) (a c : Operand) → (binary_of op a c).signed ≡ joined_sign (family_of op) a.signed c.signed
binary_sign op a c = ap (λ (o : Operand). o.signed) (binary_is op a c) ∙ family_sign (family_of op) op a c

pub binary_number : (op : Binary) (a c : Operand) (L : ℕ) (s : Bool) → (binary_of op a c).value L s ≡ joined_number (family_of op) op L s (left_width (family_of op) L a.width c.width) (left_sign (family_of op) s a.signed c.signed) (a.value (left_width (family_of op) L a.width c.width) (left_sign (family_of op) s a.signed c.signed)) (c.value (right_width (family_of op) L a.width c.width) (right_sign (family_of op) s a.signed c.signed))
binary_number op a c L s = ap (λ (o : Operand). o.value L s) (binary_is op a c) ∙ family_number (family_of op) op a c L s

pub binary_defined : (op : Binary) (a c : Operand) (L : ℕ) (s : Bool) → (binary_of op a c).defined L s ≡ is_joined (family_of op) (a.defined (left_width (family_of op) L a.width c.width) (left_sign (family_of op) s a.signed c.signed)) (c.defined (right_width (family_of op) L a.width c.width) (right_sign (family_of op) s a.signed c.signed)) (c.value (right_width (family_of op) L a.width c.width) (right_sign (family_of op) s a.signed c.signed))
binary_defined op a c L s = ap (λ (o : Operand). o.defined L s) (binary_is op a c) ∙ family_defined (family_of op) op a c L s

pub unary_width : (op : Unary) (a : Operand) → (unary_of op a).width ≡ made_width op a.width
unary_width u.Plus a = refl
unary_width u.Minus a = refl
unary_width u.LogicalNot a = refl
unary_width u.BitNot a = refl
unary_width u.ReduceAnd a = refl
unary_width u.ReduceNand a = refl
unary_width u.ReduceOr a = refl
unary_width u.ReduceNor a = refl
unary_width u.ReduceXor a = refl
unary_width u.ReduceXnor a = refl

pub unary_sign : (op : Unary) (a : Operand) → (unary_of op a).signed ≡ made_sign op a.signed
unary_sign u.Plus a = refl
unary_sign u.Minus a = refl
unary_sign u.LogicalNot a = refl
unary_sign u.BitNot a = refl
unary_sign u.ReduceAnd a = refl
unary_sign u.ReduceNand a = refl
unary_sign u.ReduceOr a = refl
unary_sign u.ReduceNor a = refl
unary_sign u.ReduceXor a = refl
unary_sign u.ReduceXnor a = refl

pub unary_number : (op : Unary) (a : Operand) (L : ℕ) (s : Bool) → (unary_of op a).value L s ≡ made_number op (inner_width op L a.width) (a.value (inner_width op L a.width) (inner_sign op s a.signed))
unary_number u.Plus a L s = refl
unary_number u.Minus a L s = refl
unary_number u.LogicalNot a L s = refl
unary_number u.BitNot a L s = refl
unary_number u.ReduceAnd a L s = refl
unary_number u.ReduceNand a L s = refl
unary_number u.ReduceOr a L s = refl
unary_number u.ReduceNor a L s = refl
unary_number u.ReduceXor a L s = refl
unary_number u.ReduceXnor a L s = refl

pub unary_defined : (op : Unary) (a : Operand) (L : ℕ) (s : Bool) → (unary_of op a).defined L s ≡ a.defined (inner_width op L a.width) (inner_sign op s a.signed)
unary_defined u.Plus a L s = refl
unary_defined u.Minus a L s = refl
unary_defined u.LogicalNot a L s = refl
unary_defined u.BitNot a L s = refl
unary_defined u.ReduceAnd a L s = refl
unary_defined u.ReduceNand a L s = refl
unary_defined u.ReduceOr a L s = refl
unary_defined u.ReduceNor a L s = refl
unary_defined u.ReduceXor a L s = refl
unary_defined u.ReduceXnor a L s = refl
