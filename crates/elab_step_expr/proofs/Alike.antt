-- Lengths and signs don't depend on the values of names, where the parts that must be constant are.
use Rattle.std.proofs.Common.{◌≡◌, ℕ, zero, suc, ◌+◌, max, Bool, false, refl, sym, ap, ◌∙◌, subst, List, ◌&&◌, IsTrue, pos, ◌≤ℤ◌, ◌<ℤ◌}
use Rattle.std.specs.Prelude.{nat_eq, if◌then◌else◌}
use Rattle.vlog_tree.specs.declared.expr.Binary.{Binary}
use Rattle.vlog_tree.specs.declared.expr.Binary.TheVariants as b
use Rattle.vlog_tree.specs.declared.expr.Constant.{Constant}
use Rattle.vlog_tree.specs.declared.expr.Expr.{Expr, Row_of-Expr, end_of-Expr, more_of-Expr}
use Rattle.vlog_tree.specs.declared.expr.Expr.TheVariants as e
use Rattle.vlog_tree.specs.declared.expr.Name.{Name}
use Rattle.vlog_tree.specs.declared.expr.Span.{Span}
use Rattle.vlog_tree.specs.declared.expr.Span.TheVariants as w
use Rattle.vlog_tree.specs.declared.expr.Unary.{Unary}
use Rattle.vlog_tree.specs.declared.valuation.Entry.{Entry}
use Rattle.vlog_tree.specs.Valuation.{IsLength, named, depth_of}
use Rattle.vlog_tree.specs.Value.{Operand, operand_of, row_of, own_defined, own_integer, natural, bit_of, word_of, part_of, cast_of, unary_of, binary_of, choice_of, joined, copies, repeated, IsFormed, AllFormed, IsPart, Stands, NamesOnly, AllNamesOnly, HasConstantParts, AllHaveConstantParts, IsPartConstant, IsDivisionConstant}
use Rattle.vlog_tree_values.specs.Operators.{family_of, is_joined, left_width, right_width, left_sign, right_sign, joined_width, joined_sign, inner_width, inner_sign, made_width, made_sign}
use Rattle.vlog_tree_values.proofs.Families.{binary_width, binary_sign, binary_defined, unary_width, unary_sign, unary_defined}

-- no name is a parameter's
abbrev pub nothing : List ℕ → Bool
nothing x = false

never : (A : Type 0) → IsTrue false → A
never A h = cc

-- ---- constant expressions

mutual
  pub constant_same : (v w : List Entry) (a : Expr) → NamesOnly nothing a → operand_of v a ≡ operand_of w a
  constant_same v w (e.Number n) d = refl
  constant_same v w (e.Name x) d = never _ d
  constant_same v w (e.Select' x h (more_of-Expr a end_of-Expr)) d = never _ d.0
  constant_same v w (e.Part' x span h (more_of-Expr a end_of-Expr) g (more_of-Expr b end_of-Expr)) d = never _ d.0
  constant_same v w (e.ConstantSelect' k h (more_of-Expr a end_of-Expr)) d = ap (bit_of k) (constant_same v w a d)
  constant_same v w (e.ConstantPart' k span h (more_of-Expr a end_of-Expr) g (more_of-Expr b end_of-Expr)) d =
      λ r. part_of k span (constant_same v w a d.0 r) (constant_same v w b d.1 r)
  constant_same v w (e.Cast' cast h (more_of-Expr a end_of-Expr)) d = ap (cast_of cast) (constant_same v w a d)
  constant_same v w (e.Paren' h (more_of-Expr a end_of-Expr)) d = constant_same v w a d
  constant_same v w (e.Concat' h row) d = constant_rows v w row d
  constant_same v w (e.Repeat' h (more_of-Expr a end_of-Expr) g row) d = λ r. repeated (constant_same v w a d.0 r) (constant_rows v w row d.1 r)
  constant_same v w (e.Unary' op h (more_of-Expr a end_of-Expr)) d = ap (unary_of op) (constant_same v w a d)
  constant_same v w (e.Binary' op h (more_of-Expr a end_of-Expr) g (more_of-Expr b end_of-Expr)) d =
      λ r. binary_of op (constant_same v w a d.0 r) (constant_same v w b d.1 r)
  constant_same v w (e.Choice' h (more_of-Expr c end_of-Expr) g (more_of-Expr a end_of-Expr) i (more_of-Expr b end_of-Expr)) d =
      λ r. choice_of (constant_same v w c d.0 r) (constant_same v w a d.1 r) (constant_same v w b d.2 r)

  pub constant_rows : {n : _} (v w : List Entry) (row : Row_of-Expr n) → AllNamesOnly nothing row → row_of v row ≡ row_of w row
  constant_rows v w end_of-Expr d = refl
  constant_rows v w (more_of-Expr a rest) d = λ r. joined (constant_same v w a d.0 r) (constant_rows v w rest d.1 r)

-- ---- operands of one length and sign that are defined alike

pub record SameOperand (a c : Operand) : Type 0 where
  pub width : a.width ≡ c.width
  pub signed : a.signed ≡ c.signed
  pub defined : (L : ℕ) (s : Bool) → a.defined L s ≡ c.defined L s

same_of : (a c : Operand) → a ≡ c → SameOperand a c
same_of a c h = record { width = ap (λ (o : Operand). o.width) h; signed = ap (λ (o : Operand). o.signed) h; defined = λ L s. ap (λ (o : Operand). o.defined L s) h }

same_by : (a c x y : Operand) → x ≡ a → y ≡ c → SameOperand a c → SameOperand x y
same_by a c x y p q h = subst (λ (k : Operand). SameOperand k y) (sym p) (subst (λ (k : Operand). SameOperand a k) (sym q) h)

pub own_same : (a c : Operand) → SameOperand a c → own_defined a ≡ own_defined c
own_same a c h = h.defined a.width a.signed ∙ ap (λ n. c.defined n a.signed) h.width ∙ ap (λ s. c.defined c.width s) h.signed

both_same : (p q x y : Bool) → p ≡ x → q ≡ y → (p && q) ≡ (x && y)
both_same p q x y h k = ap (λ z. z && q) h ∙ ap (λ z. x && z) k

bit_same : (k j : Constant) (a c : Operand) → SameOperand a c → SameOperand (bit_of k a) (bit_of j c)
bit_same k j a c h = record { width = refl; signed = refl; defined = λ L s. own_same a c h }

integer_same : (a c : Operand) → a ≡ c → own_integer a ≡ own_integer c
integer_same a c h = ap (λ (o : Operand). own_integer o) h

part_same : (k j : Constant) (span : Span) (v w : List Entry) (a c : Expr) → IsPartConstant nothing span a c → SameOperand (operand_of v a) (operand_of w a) → SameOperand (operand_of v c) (operand_of w c) →
    SameOperand (part_of k span (operand_of v a) (operand_of v c)) (part_of j span (operand_of w a) (operand_of w c))
part_same k j w.Fixed v u a c d h g =
    let i = integer_same _ _ (constant_same v u a d.0) in
    let m = integer_same _ _ (constant_same v u c d.1) in
    record { width = rw (i, m) refl; signed = refl; defined = λ L s. both_same _ _ _ _ (own_same _ _ h) (own_same _ _ g) }
part_same k j w.Up v u a c d h g =
    let m = integer_same _ _ (constant_same v u c d) in
    record { width = rw m refl; signed = refl; defined = λ L s. both_same _ _ _ _ (own_same _ _ h) (own_same _ _ g) }
part_same k j w.Down v u a c d h g =
    let m = integer_same _ _ (constant_same v u c d) in
    record { width = rw m refl; signed = refl; defined = λ L s. both_same _ _ _ _ (own_same _ _ h) (own_same _ _ g) }

unary_same : (op : Unary) (a c : Operand) → SameOperand a c → SameOperand (unary_of op a) (unary_of op c)
unary_same op a c h = record {
  width = unary_width op a ∙ ap (λ n. made_width op n) h.width ∙ sym (unary_width op c);
  signed = unary_sign op a ∙ ap (λ s. made_sign op s) h.signed ∙ sym (unary_sign op c);
  defined = λ L s. unary_defined op a L s ∙ h.defined (inner_width op L a.width) (inner_sign op s a.signed)
      ∙ ap (λ n. c.defined (inner_width op L n) (inner_sign op s a.signed)) h.width ∙ ap (λ t. c.defined (inner_width op L c.width) (inner_sign op s t)) h.signed ∙ sym (unary_defined op c L s);
}

-- an operator that doesn't divide
joined_same : (op : Binary) (a c x y : Operand) → SameOperand a x → SameOperand c y → ((p q : Bool) (m n : ℕ) → is_joined (family_of op) p q m ≡ is_joined (family_of op) p q n) → SameOperand (binary_of op a c) (binary_of op x y)
joined_same op a c x y h g free = record {
  width = binary_width op a c ∙ ap (λ n. joined_width (family_of op) n c.width) h.width ∙ ap (λ n. joined_width (family_of op) x.width n) g.width ∙ sym (binary_width op x y);
  signed = binary_sign op a c ∙ ap (λ s. joined_sign (family_of op) s c.signed) h.signed ∙ ap (λ s. joined_sign (family_of op) x.signed s) g.signed ∙ sym (binary_sign op x y);
  defined = λ L s.
      let k = family_of op in
      let lw : left_width k L a.width c.width ≡ left_width k L x.width y.width = ap (λ n. left_width k L n c.width) h.width ∙ ap (λ n. left_width k L x.width n) g.width in
      let rw' : right_width k L a.width c.width ≡ right_width k L x.width y.width = ap (λ n. right_width k L n c.width) h.width ∙ ap (λ n. right_width k L x.width n) g.width in
      let ls : left_sign k s a.signed c.signed ≡ left_sign k s x.signed y.signed = ap (λ t. left_sign k s t c.signed) h.signed ∙ ap (λ t. left_sign k s x.signed t) g.signed in
      let rs : right_sign k s a.signed c.signed ≡ right_sign k s x.signed y.signed = ap (λ t. right_sign k s t c.signed) h.signed ∙ ap (λ t. right_sign k s x.signed t) g.signed in
      let left = h.defined (left_width k L a.width c.width) (left_sign k s a.signed c.signed) ∙ ap (λ n. x.defined n (left_sign k s a.signed c.signed)) lw ∙ ap (λ t. x.defined (left_width k L x.width y.width) t) ls in
      let right = g.defined (right_width k L a.width c.width) (right_sign k s a.signed c.signed) ∙ ap (λ n. y.defined n (right_sign k s a.signed c.signed)) rw' ∙ ap (λ t. y.defined (right_width k L x.width y.width) t) rs in
      let m = c.value (right_width k L a.width c.width) (right_sign k s a.signed c.signed) in
      let n = y.value (right_width k L x.width y.width) (right_sign k s x.signed y.signed) in
      binary_defined op a c L s ∙ ap (λ p. is_joined k p (c.defined (right_width k L a.width c.width) (right_sign k s a.signed c.signed)) m) left
      ∙ ap (λ q. is_joined k (x.defined (left_width k L x.width y.width) (left_sign k s x.signed y.signed)) q m) right
      ∙ free (x.defined (left_width k L x.width y.width) (left_sign k s x.signed y.signed)) (y.defined (right_width k L x.width y.width) (right_sign k s x.signed y.signed)) m n ∙ sym (binary_defined op x y L s);
}

binary_same : (op : Binary) (v u : List Entry) (a c : Expr) → IsDivisionConstant nothing op a c → SameOperand (operand_of v a) (operand_of u a) → SameOperand (operand_of v c) (operand_of u c) →
    SameOperand (binary_of op (operand_of v a) (operand_of v c)) (binary_of op (operand_of u a) (operand_of u c))
binary_same b.Div v u a c d h g = same_of _ _ (λ r. binary_of b.Div (constant_same v u a d.0 r) (constant_same v u c d.1 r))
binary_same b.Rem v u a c d h g = same_of _ _ (λ r. binary_of b.Rem (constant_same v u a d.0 r) (constant_same v u c d.1 r))
binary_same b.Mul v u a c d h g = joined_same b.Mul _ _ _ _ h g (λ p q m n. refl)
binary_same b.Add v u a c d h g = joined_same b.Add _ _ _ _ h g (λ p q m n. refl)
binary_same b.Sub v u a c d h g = joined_same b.Sub _ _ _ _ h g (λ p q m n. refl)
binary_same b.Shl v u a c d h g = joined_same b.Shl _ _ _ _ h g (λ p q m n. refl)
binary_same b.Shr v u a c d h g = joined_same b.Shr _ _ _ _ h g (λ p q m n. refl)
binary_same b.ArithmeticShl v u a c d h g = joined_same b.ArithmeticShl _ _ _ _ h g (λ p q m n. refl)
binary_same b.ArithmeticShr v u a c d h g = joined_same b.ArithmeticShr _ _ _ _ h g (λ p q m n. refl)
binary_same b.Less v u a c d h g = joined_same b.Less _ _ _ _ h g (λ p q m n. refl)
binary_same b.LessEqual v u a c d h g = joined_same b.LessEqual _ _ _ _ h g (λ p q m n. refl)
binary_same b.Greater v u a c d h g = joined_same b.Greater _ _ _ _ h g (λ p q m n. refl)
binary_same b.GreaterEqual v u a c d h g = joined_same b.GreaterEqual _ _ _ _ h g (λ p q m n. refl)
binary_same b.Equal v u a c d h g = joined_same b.Equal _ _ _ _ h g (λ p q m n. refl)
binary_same b.NotEqual v u a c d h g = joined_same b.NotEqual _ _ _ _ h g (λ p q m n. refl)
binary_same b.BitAnd v u a c d h g = joined_same b.BitAnd _ _ _ _ h g (λ p q m n. refl)
binary_same b.BitXor v u a c d h g = joined_same b.BitXor _ _ _ _ h g (λ p q m n. refl)
binary_same b.BitXnor v u a c d h g = joined_same b.BitXnor _ _ _ _ h g (λ p q m n. refl)
binary_same b.BitOr v u a c d h g = joined_same b.BitOr _ _ _ _ h g (λ p q m n. refl)
binary_same b.LogicalAnd v u a c d h g = joined_same b.LogicalAnd _ _ _ _ h g (λ p q m n. refl)
binary_same b.LogicalOr v u a c d h g = joined_same b.LogicalOr _ _ _ _ h g (λ p q m n. refl)

choice_same : (c a o x y z : Operand) → SameOperand c x → SameOperand a y → SameOperand o z → SameOperand (choice_of c a o) (choice_of x y z)
choice_same c a o x y z f g h = record {
  width = ap (λ n. max n o.width) g.width ∙ ap (λ n. max y.width n) h.width;
  signed = both_same _ _ _ _ g.signed h.signed;
  defined = λ L s. both_same _ _ _ _ (both_same _ _ _ _ (own_same c x f) (g.defined L s)) (h.defined L s);
}

cast_same : (cast : _) (a c : Operand) → SameOperand a c → SameOperand (cast_of cast a) (cast_of cast c)
cast_same cast a c h = record { width = h.width; signed = refl; defined = λ L s. own_same a c h }

row_same : (a c x y : Operand) → SameOperand a x → SameOperand c y → SameOperand (joined a c) (joined x y)
row_same a c x y h g = record {
  width = ap (λ n. n + c.width) h.width ∙ ap (λ n. x.width + n) g.width;
  signed = refl;
  defined = λ L s. both_same _ _ _ _ (own_same a x h) (own_same c y g);
}

copies_wide : (n : ℕ) (a c : Operand) → a.width ≡ c.width → (copies n a).width ≡ (copies n c).width
copies_wide zero a c h = refl
copies_wide (suc n) a c h = ap (λ k. k + (copies n a).width) h ∙ ap (λ k. c.width + k) (copies_wide n a c h)

copies_signed : (n : ℕ) (a : Operand) → (copies n a).signed ≡ false
copies_signed zero a = refl
copies_signed (suc n) a = refl

repeat_same : (c a x y : Operand) → c ≡ x → SameOperand a y → SameOperand (repeated c a) (repeated x y)
repeat_same c a x y h g = record {
  width = copies_wide (natural (own_integer c)) a y g.width ∙ ap (λ (o : Operand). (copies (natural (own_integer o)) y).width) h;
  signed = copies_signed (natural (own_integer c)) a ∙ sym (copies_signed (natural (own_integer x)) y);
  defined = λ L s. both_same _ _ _ _ (ap (λ (o : Operand). own_defined o) h) (own_same a y g);
}

-- ---- valuations of names with one length, lowest bit and sign

pub record Alike (v u : List Entry) : Type 0 where
  pub width : (x : Name) → (named v x).width ≡ (named u x).width
  pub low : (x : Name) → (named v x).low ≡ (named u x).low
  pub signed : (x : Name) → (named v x).signed ≡ (named u x).signed
  pub stands : (x : Name) → Stands v x → Stands u x
  pub left : (x : Name) → depth_of v x ≡ 0
  pub right : (x : Name) → depth_of u x ≡ 0

-- a select of a name that is no memory
select_flat : (v : List Entry) (x : Name) (a : Operand) → depth_of v x ≡ 0 → (if nat_eq (depth_of v x) 0 then bit_of (named v x) a else word_of v x a) ≡ bit_of (named v x) a
select_flat v x a h = ap (λ n. if nat_eq n 0 then bit_of (named v x) a else word_of v x a) h

mutual
  pub same_operand : (v u : List Entry) (a : Expr) → Alike v u → HasConstantParts nothing a → SameOperand (operand_of v a) (operand_of u a)
  same_operand v u (e.Number n) m d = same_of _ _ refl
  same_operand v u (e.Name x) m d = record { width = m.width x; signed = m.signed x; defined = λ L s. refl }
  same_operand v u (e.Select' x h (more_of-Expr a end_of-Expr)) m d =
      same_by _ _ _ _ (select_flat v x (operand_of v a) (m.left x)) (select_flat u x (operand_of u a) (m.right x)) (bit_same (named v x) (named u x) _ _ (same_operand v u a m d))
  same_operand v u (e.Part' x span h (more_of-Expr a end_of-Expr) g (more_of-Expr b end_of-Expr)) m d =
      part_same (named v x) (named u x) span v u a b d.2 (same_operand v u a m d.0) (same_operand v u b m d.1)
  same_operand v u (e.ConstantSelect' k h (more_of-Expr a end_of-Expr)) m d = bit_same k k _ _ (same_operand v u a m d)
  same_operand v u (e.ConstantPart' k span h (more_of-Expr a end_of-Expr) g (more_of-Expr b end_of-Expr)) m d =
      part_same k k span v u a b d.2 (same_operand v u a m d.0) (same_operand v u b m d.1)
  same_operand v u (e.Cast' cast h (more_of-Expr a end_of-Expr)) m d = cast_same cast _ _ (same_operand v u a m d)
  same_operand v u (e.Paren' h (more_of-Expr a end_of-Expr)) m d = same_operand v u a m d
  same_operand v u (e.Concat' h row) m d = same_rows v u row m d
  same_operand v u (e.Repeat' h (more_of-Expr a end_of-Expr) g row) m d = repeat_same _ _ _ _ (constant_same v u a d.1) (same_rows v u row m d.2)
  same_operand v u (e.Unary' op h (more_of-Expr a end_of-Expr)) m d = unary_same op _ _ (same_operand v u a m d)
  same_operand v u (e.Binary' op h (more_of-Expr a end_of-Expr) g (more_of-Expr b end_of-Expr)) m d =
      binary_same op v u a b d.2 (same_operand v u a m d.0) (same_operand v u b m d.1)
  same_operand v u (e.Choice' h (more_of-Expr c end_of-Expr) g (more_of-Expr a end_of-Expr) i (more_of-Expr b end_of-Expr)) m d =
      choice_same _ _ _ _ _ _ (same_operand v u c m d.0) (same_operand v u a m d.1) (same_operand v u b m d.2)

  pub same_rows : {n : _} (v u : List Entry) (row : Row_of-Expr n) → Alike v u → AllHaveConstantParts nothing row → SameOperand (row_of v row) (row_of u row)
  same_rows v u end_of-Expr m d = same_of _ _ refl
  same_rows v u (more_of-Expr a rest) m d = row_same _ _ _ _ (same_operand v u a m d.0) (same_rows v u rest m d.1)

-- ---- well-formed expressions

part_suits : (k j : Constant) (span : Span) (v u : List Entry) (a c : Expr) → k.low ≡ j.low → k.width ≡ j.width → IsPartConstant nothing span a c → SameOperand (operand_of v c) (operand_of u c) →
    IsPart k span (operand_of v a) (operand_of v c) → IsPart j span (operand_of u a) (operand_of u c)
part_suits k j w.Fixed v u a c lo wi d g p =
    let i = constant_same v u a d.0 in
    let m = constant_same v u c d.1 in (
      subst IsTrue (λ r. own_defined (i r) && own_defined (m r)) p.0,
      subst (λ n. pos n ≤ℤ own_integer (operand_of u c)) lo (subst (λ (o : Operand). pos k.low ≤ℤ own_integer o) m p.1),
      subst (λ n. own_integer (operand_of u a) <ℤ pos (n + j.width)) lo (subst (λ n. own_integer (operand_of u a) <ℤ pos (k.low + n)) wi (subst (λ (o : Operand). own_integer o <ℤ pos (k.low + k.width)) i p.2)),
    )
part_suits k j w.Up v u a c lo wi d g p = subst IsTrue (own_same _ _ g) p
part_suits k j w.Down v u a c lo wi d g p = subst IsTrue (own_same _ _ g) p

mutual
  pub same_formed : (v u : List Entry) (a : Expr) → Alike v u → HasConstantParts nothing a → IsFormed v a → IsFormed u a
  same_formed v u (e.Number n) m d f = f
  same_formed v u (e.Name x) m d f = m.stands x f
  same_formed v u (e.Select' x h (more_of-Expr a end_of-Expr)) m d f = (m.stands x f.0, same_formed v u a m d f.1)
  same_formed v u (e.Part' x span h (more_of-Expr a end_of-Expr) g (more_of-Expr b end_of-Expr)) m d f = (
    m.stands x f.0,
    same_formed v u a m d.0 f.1,
    same_formed v u b m d.1 f.2,
    part_suits (named v x) (named u x) span v u a b (m.low x) (m.width x) d.2 (same_operand v u b m d.1) f.3,
    subst IsLength (part_same (named v x) (named u x) span v u a b d.2 (same_operand v u a m d.0) (same_operand v u b m d.1)).width f.4,
  )
  same_formed v u (e.ConstantSelect' k h (more_of-Expr a end_of-Expr)) m d f = (f.0, same_formed v u a m d f.1)
  same_formed v u (e.ConstantPart' k span h (more_of-Expr a end_of-Expr) g (more_of-Expr b end_of-Expr)) m d f = (
    f.0,
    same_formed v u a m d.0 f.1,
    same_formed v u b m d.1 f.2,
    part_suits k k span v u a b refl refl d.2 (same_operand v u b m d.1) f.3,
    subst IsLength (part_same k k span v u a b d.2 (same_operand v u a m d.0) (same_operand v u b m d.1)).width f.4,
  )
  same_formed v u (e.Cast' cast h (more_of-Expr a end_of-Expr)) m d f = same_formed v u a m d f
  same_formed v u (e.Paren' h (more_of-Expr a end_of-Expr)) m d f = same_formed v u a m d f
  same_formed v u (e.Concat' h row) m d f = (formed_rows v u row m d f.0, subst IsLength (same_rows v u row m d).width f.1)
  same_formed v u (e.Repeat' h (more_of-Expr a end_of-Expr) g row) m d f = (
    same_formed v u a m d.0 f.0,
    subst (λ (o : Operand). IsTrue (own_defined o)) (constant_same v u a d.1) f.1,
    formed_rows v u row m d.2 f.2,
    subst IsLength (repeat_same _ _ _ _ (constant_same v u a d.1) (same_rows v u row m d.2)).width f.3,
  )
  same_formed v u (e.Unary' op h (more_of-Expr a end_of-Expr)) m d f = same_formed v u a m d f
  same_formed v u (e.Binary' op h (more_of-Expr a end_of-Expr) g (more_of-Expr b end_of-Expr)) m d f = (same_formed v u a m d.0 f.0, same_formed v u b m d.1 f.1)
  same_formed v u (e.Choice' h (more_of-Expr c end_of-Expr) g (more_of-Expr a end_of-Expr) i (more_of-Expr b end_of-Expr)) m d f =
      (same_formed v u c m d.0 f.0, same_formed v u a m d.1 f.1, same_formed v u b m d.2 f.2)

  pub formed_rows : {n : _} (v u : List Entry) (row : Row_of-Expr n) → Alike v u → AllHaveConstantParts nothing row → AllFormed v row → AllFormed u row
  formed_rows v u end_of-Expr m d f = tt
  formed_rows v u (more_of-Expr a rest) m d f = (same_formed v u a m d.0 f.0, formed_rows v u rest m d.1 f.1)
