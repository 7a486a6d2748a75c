-- An expression in which nothing is divided is defined at each length and sign.
use Rattle.std.proofs.Common.{ℕ, Bool, true, false, refl, sym, subst, List, IsTrue}
use Rattle.std.specs.Prelude.{nat_eq, if◌then◌else◌}
use Rattle.vlog_tree.specs.declared.expr.Binary.{Binary}
use Rattle.vlog_tree.specs.declared.expr.Binary.TheVariants as b
use Rattle.vlog_tree.specs.declared.expr.Expr.{Expr, Row_of-Expr, end_of-Expr, more_of-Expr}
use Rattle.vlog_tree.specs.declared.expr.Expr.TheVariants as e
use Rattle.vlog_tree.specs.declared.expr.Name.{Name}
use Rattle.vlog_tree.specs.declared.valuation.Entry.{Entry}
use Rattle.vlog_tree.specs.Valuation.{named, depth_of}
use Rattle.vlog_tree.specs.Value.{Operand, operand_of, row_of, own_defined, bit_of, word_of}
use Rattle.vlog_tree_values.specs.Operators.{family_of, is_joined}
use Rattle.vlog_tree_values.proofs.Facts.{and_true}
use Rattle.vlog_tree_values.proofs.Families.{binary_defined, unary_defined}
use Rattle.set_tree_structure.specs.Condition.{HasNoDivision, AllHaveNoDivision, IsNoDivision}

either : (t : Bool) (v : List Entry) (x : Name) (o : Operand) (L : ℕ) (s : Bool) → IsTrue (own_defined o) → IsTrue ((if t then bit_of (named v x) o else word_of v x o).defined L s)
either true v x o L s h = h
either false v x o L s h = h

joined : (op : Binary) (p q : Bool) (n : ℕ) → IsNoDivision op → IsTrue p → IsTrue q → IsTrue (is_joined (family_of op) p q n)
joined b.Div p q n h l r = absurd h
joined b.Rem p q n h l r = absurd h
joined b.Mul p q n h l r = and_true p q l r
joined b.Add p q n h l r = and_true p q l r
joined b.Sub p q n h l r = and_true p q l r
joined b.Shl p q n h l r = and_true p q l r
joined b.Shr p q n h l r = and_true p q l r
joined b.ArithmeticShl p q n h l r = and_true p q l r
joined b.ArithmeticShr p q n h l r = and_true p q l r
joined b.Less p q n h l r = and_true p q l r
joined b.LessEqual p q n h l r = and_true p q l r
joined b.Greater p q n h l r = and_true p q l r
joined b.GreaterEqual p q n h l r = and_true p q l r
joined b.Equal p q n h l r = and_true p q l r
joined b.NotEqual p q n h l r = and_true p q l r
joined b.BitAnd p q n h l r = and_true p q l r
joined b.BitXor p q n h l r = and_true p q l r
joined b.BitXnor p q n h l r = and_true p q l r
joined b.BitOr p q n h l r = and_true p q l r
joined b.LogicalAnd p q n h l r = and_true p q l r
joined b.LogicalOr p q n h l r = and_true p q l r

mutual
  pub undivided : (v : List Entry) (a : Expr) (L : ℕ) (s : Bool) → HasNoDivision a → IsTrue ((operand_of v a).defined L s)
  undivided v (e.Number n) L s h = refl
  undivided v (e.Name x) L s h = refl
  undivided v (e.Select' x g (more_of-Expr a end_of-Expr)) L s h = either (nat_eq (depth_of v x) 0) v x (operand_of v a) L s (undivided v a _ _ h)
  undivided v (e.Part' x span g (more_of-Expr a end_of-Expr) i (more_of-Expr c end_of-Expr)) L s h = and_true _ _ (undivided v a _ _ h.0) (undivided v c _ _ h.1)
  undivided v (e.ConstantSelect' k g (more_of-Expr a end_of-Expr)) L s h = undivided v a _ _ h
  undivided v (e.ConstantPart' k span g (more_of-Expr a end_of-Expr) i (more_of-Expr c end_of-Expr)) L s h = and_true _ _ (undivided v a _ _ h.0) (undivided v c _ _ h.1)
  undivided v (e.Cast' cast g (more_of-Expr a end_of-Expr)) L s h = undivided v a _ _ h
  undivided v (e.Paren' g (more_of-Expr a end_of-Expr)) L s h = undivided v a L s h
  undivided v (e.Concat' g row) L s h = undivided_row v row L s h
  undivided v (e.Repeat' g (more_of-Expr a end_of-Expr) i row) L s h = and_true _ _ (undivided v a _ _ h.0) (undivided_row v row _ _ h.1)
  undivided v (e.Unary' op g (more_of-Expr a end_of-Expr)) L s h = subst IsTrue (sym (unary_defined op (operand_of v a) L s)) (undivided v a _ _ h)
  undivided v (e.Binary' op g (more_of-Expr a end_of-Expr) i (more_of-Expr c end_of-Expr)) L s h =
      subst IsTrue (sym (binary_defined op (operand_of v a) (operand_of v c) L s)) (joined op _ _ _ h.0 (undivided v a _ _ h.1) (undivided v c _ _ h.2))
  undivided v (e.Choice' g (more_of-Expr c end_of-Expr) i (more_of-Expr a end_of-Expr) j (more_of-Expr d end_of-Expr)) L s h =
      and_true _ _ (and_true _ _ (undivided v c _ _ h.0) (undivided v a L s h.1)) (undivided v d L s h.2)

  undivided_row : {m : _} (v : List Entry) (row : Row_of-Expr m) (L : ℕ) (s : Bool) → AllHaveNoDivision row → IsTrue ((row_of v row).defined L s)
  undivided_row v end_of-Expr L s h = refl
  undivided_row v (more_of-Expr a rest) L s h = and_true _ _ (undivided v a _ _ h.0) (undivided_row v rest _ _ h.1)
