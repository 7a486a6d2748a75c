-- Lengths and signs that don't depend on values, and values below their lengths.
use Rattle.std.proofs.Common.{◌≡◌, ℕ, zero, suc, ◌+◌, max, List, sym, ap, ◌∙◌, refl, subst, ◌&&◌}
use Rattle.std.specs.Prelude.{nat_eq, if◌then◌else◌}
use Rattle.vlog_tree.specs.declared.expr.Binary.{Binary}
use Rattle.vlog_tree.specs.declared.expr.Binary.TheVariants as b
use Rattle.vlog_tree.specs.declared.expr.Constant.{Constant}
use Rattle.vlog_tree.specs.declared.expr.Expr.{Expr, Row_of-Expr, end_of-Expr, more_of-Expr}
use Rattle.vlog_tree.specs.declared.expr.Expr.TheVariants as e
use Rattle.vlog_tree.specs.declared.expr.Name.{Name as Read}
use Rattle.vlog_tree.specs.declared.expr.Span.{Span}
use Rattle.vlog_tree.specs.declared.expr.Span.TheVariants as q
use Rattle.vlog_tree.specs.declared.expr.Unary.{Unary}
use Rattle.vlog_tree.specs.declared.expr.Unary.TheVariants as u
use Rattle.vlog_tree.specs.declared.valuation.Entry.{Entry}
use Rattle.vlog_tree.specs.Valuation.{named, depth_of}
use Rattle.vlog_tree.specs.Value.{Operand, operand_of, row_of, own_integer, natural, unary_of, binary_of, copies, bit_of, word_of, part_width, NamesOnly, HasConstantParts, AllHaveConstantParts, IsPartConstant}
use Rattle.elab_step_laws.proofs.Reading.{nothing, no_names, same_operand}

-- ---- lengths and signs

pub record SameShape (a c : Operand) : Type 0 where
  pub width : a.width ≡ c.width
  pub signed : a.signed ≡ c.signed

unary_shape : (op : Unary) (a c : Operand) → SameShape a c → SameShape (unary_of op a) (unary_of op c)
unary_shape u.Plus a c h = record { width = h.width; signed = h.signed }
unary_shape u.Minus a c h = record { width = h.width; signed = h.signed }
unary_shape u.BitNot a c h = record { width = h.width; signed = h.signed }
unary_shape u.LogicalNot a c h = record { width = refl; signed = refl }
unary_shape u.ReduceAnd a c h = record { width = refl; signed = refl }
unary_shape u.ReduceNand a c h = record { width = refl; signed = refl }
unary_shape u.ReduceOr a c h = record { width = refl; signed = refl }
unary_shape u.ReduceNor a c h = record { width = refl; signed = refl }
unary_shape u.ReduceXor a c h = record { width = refl; signed = refl }
unary_shape u.ReduceXnor a c h = record { width = refl; signed = refl }

-- an operator over operands of its own length
longer : (a c x y : Operand) → SameShape a x → SameShape c y → max a.width c.width ≡ max x.width y.width
longer a c x y h g = λ r. max (h.width r) (g.width r)

both_signed : (a c x y : Operand) → SameShape a x → SameShape c y → (a.signed && c.signed) ≡ (x.signed && y.signed)
both_signed a c x y h g = λ r. h.signed r && g.signed r

binary_shape : (op : Binary) (a c x y : Operand) → SameShape a x → SameShape c y → SameShape (binary_of op a c) (binary_of op x y)
binary_shape b.Mul a c x y h g = record { width = longer a c x y h g; signed = both_signed a c x y h g }
binary_shape b.Div a c x y h g = record { width = longer a c x y h g; signed = both_signed a c x y h g }
binary_shape b.Rem a c x y h g = record { width = longer a c x y h g; signed = both_signed a c x y h g }
binary_shape b.Add a c x y h g = record { width = longer a c x y h g; signed = both_signed a c x y h g }
binary_shape b.Sub a c x y h g = record { width = longer a c x y h g; signed = both_signed a c x y h g }
binary_shape b.Shl a c x y h g = record { width = h.width; signed = h.signed }
binary_shape b.Shr a c x y h g = record { width = h.width; signed = h.signed }
binary_shape b.ArithmeticShl a c x y h g = record { width = h.width; signed = h.signed }
binary_shape b.ArithmeticShr a c x y h g = record { width = h.width; signed = h.signed }
binary_shape b.Less a c x y h g = record { width = refl; signed = refl }
binary_shape b.LessEqual a c x y h g = record { width = refl; signed = refl }
binary_shape b.Greater a c x y h g = record { width = refl; signed = refl }
binary_shape b.GreaterEqual a c x y h g = record { width = refl; signed = refl }
binary_shape b.Equal a c x y h g = record { width = refl; signed = refl }
binary_shape b.NotEqual a c x y h g = record { width = refl; signed = refl }
binary_shape b.BitAnd a c x y h g = record { width = longer a c x y h g; signed = both_signed a c x y h g }
binary_shape b.BitXor a c x y h g = record { width = longer a c x y h g; signed = both_signed a c x y h g }
binary_shape b.BitXnor a c x y h g = record { width = longer a c x y h g; signed = both_signed a c x y h g }
binary_shape b.BitOr a c x y h g = record { width = longer a c x y h g; signed = both_signed a c x y h g }
binary_shape b.LogicalAnd a c x y h g = record { width = refl; signed = refl }
binary_shape b.LogicalOr a c x y h g = record { width = refl; signed = refl }

copies_shape : (n : ℕ) (a c : Operand) → SameShape a c → SameShape (copies n a) (copies n c)
copies_shape zero a c h = record { width = refl; signed = refl }
copies_shape (suc n) a c h = let k = copies_shape n a c h in record { width = λ r. h.width r + k.width r; signed = refl }

-- names have one length and one sign in both lists, and none is a memory's
pub record ShapedAlike (v w : List Entry) : Type 0 where
  pub width : (x : Read) → (named v x).width ≡ (named w x).width
  pub signed : (x : Read) → (named v x).signed ≡ (named w x).signed
  pub plain : (x : Read) → depth_of v x ≡ 0
  pub plain_too : (x : Read) → depth_of w x ≡ 0

module _ (v w : List Entry) (m : ShapedAlike v w) where
  fixed_operand : (a : Expr) → NamesOnly nothing a → operand_of v a ≡ operand_of w a
  fixed_operand a n = same_operand v w a (record { entries = λ x j k. absurd (no_names a x n k); plain = m.plain; plain_too = m.plain_too })

  part_long : (span : Span) (a c : Expr) → IsPartConstant nothing span a c →
      part_width span (own_integer (operand_of v a)) (own_integer (operand_of v c)) ≡ part_width span (own_integer (operand_of w a)) (own_integer (operand_of w c))
  part_long q.Fixed a c d = let o = fixed_operand a d.0 in let n = fixed_operand c d.1 in λ r. part_width q.Fixed (own_integer (o r)) (own_integer (n r))
  part_long q.Up a c d = let n = fixed_operand c d in λ r. natural (own_integer (n r))
  part_long q.Down a c d = let n = fixed_operand c d in λ r. natural (own_integer (n r))

  mutual
    pub shape_same : (a : Expr) → HasConstantParts nothing a → SameShape (operand_of v a) (operand_of w a)
    shape_same (e.Number n) d = record { width = refl; signed = refl }
    shape_same (e.Name x) d = record { width = m.width x; signed = m.signed x }
    shape_same (e.Select' x h (more_of-Expr a end_of-Expr)) d =
        let one : (k : Constant) (o : Operand) → SameShape (bit_of k o) (bit_of (named w x) (operand_of w a)) = λ k o. record { width = refl; signed = refl } in
        subst (λ (k : ℕ). SameShape (if nat_eq k 0 then bit_of (named v x) (operand_of v a) else word_of v x (operand_of v a)) (operand_of w (e.Select' x h (more_of-Expr a end_of-Expr)))) (sym (m.plain x))
        (subst (λ (k : ℕ). SameShape (bit_of (named v x) (operand_of v a)) (if nat_eq k 0 then bit_of (named w x) (operand_of w a) else word_of w x (operand_of w a))) (sym (m.plain_too x))
        (one (named v x) (operand_of v a)))
    shape_same (e.Part' x span h (more_of-Expr a end_of-Expr) g (more_of-Expr c end_of-Expr)) d = record { width = part_long span a c d.2; signed = refl }
    shape_same (e.ConstantSelect' k h (more_of-Expr a end_of-Expr)) d = record { width = refl; signed = refl }
    shape_same (e.ConstantPart' k span h (more_of-Expr a end_of-Expr) g (more_of-Expr c end_of-Expr)) d = record { width = part_long span a c d.2; signed = refl }
    shape_same (e.Cast' cast h (more_of-Expr a end_of-Expr)) d = record { width = (shape_same a d).width; signed = refl }
    shape_same (e.Paren' h (more_of-Expr a end_of-Expr)) d = shape_same a d
    shape_same (e.Concat' h row) d = row_shape row d
    shape_same (e.Repeat' h (more_of-Expr a end_of-Expr) g row) d =
        let o = fixed_operand a d.1 in
        let k = copies_shape (natural (own_integer (operand_of v a))) (row_of v row) (row_of w row) (row_shape row d.2) in
        record {
          width = k.width ∙ ap (λ (q : Operand). (copies (natural (own_integer q)) (row_of w row)).width) o;
          signed = k.signed ∙ ap (λ (q : Operand). (copies (natural (own_integer q)) (row_of w row)).signed) o;
        }
    shape_same (e.Unary' op h (more_of-Expr a end_of-Expr)) d = unary_shape op _ _ (shape_same a d)
    shape_same (e.Binary' op h (more_of-Expr a end_of-Expr) g (more_of-Expr c end_of-Expr)) d = binary_shape op _ _ _ _ (shape_same a d.0) (shape_same c d.1)
    shape_same (e.Choice' h (more_of-Expr x end_of-Expr) g (more_of-Expr a end_of-Expr) i (more_of-Expr c end_of-Expr)) d =
        record { width = longer _ _ _ _ (shape_same a d.1) (shape_same c d.2); signed = both_signed _ _ _ _ (shape_same a d.1) (shape_same c d.2) }

    row_shape : {n : _} (row : Row_of-Expr n) → AllHaveConstantParts nothing row → SameShape (row_of v row) (row_of w row)
    row_shape end_of-Expr d = record { width = refl; signed = refl }
    row_shape (more_of-Expr a rest) d =
        let k = shape_same a d.0 in let j = row_shape rest d.1 in record { width = λ r. k.width r + j.width r; signed = refl }
