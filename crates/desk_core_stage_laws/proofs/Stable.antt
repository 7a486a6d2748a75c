-- What can't be refuted holds, of the rules on constants and lengths.
use Rattle.std.proofs.Common.{◌≡◌, ℕ, ◌+◌, ◌<◌, ◌≤◌, Bool, true, false, IsTrue, List, Option, Some, None, refl, arith, nat_lt, ⊎_elim}
use Rattle.std.specs.Prelude.{IsSomeAnd, ℤ, pos, ◌≤ℤ◌, ◌<ℤ◌}
use Rattle.std.proofs.lemmas.Bool.{ltb-true, ltb-false}
use Rattle.std.proofs.lemmas.Int.{ints, by_lt_z}
use Rattle.vlog_tree.specs.declared.expr.Binary.{Binary}
use Rattle.vlog_tree.specs.declared.expr.Binary.TheVariants as b
use Rattle.vlog_tree.specs.declared.expr.Constant.{Constant}
use Rattle.vlog_tree.specs.declared.expr.Expr.{Expr, Row_of-Expr, end_of-Expr, more_of-Expr}
use Rattle.vlog_tree.specs.declared.expr.Expr.TheVariants as e
use Rattle.vlog_tree.specs.declared.expr.Name.{Name as Read}
use Rattle.vlog_tree.specs.declared.expr.Span.{Span}
use Rattle.vlog_tree.specs.declared.expr.Span.TheVariants as w
use Rattle.vlog_tree.specs.declared.stmt.Lval.{Lval, Row_of-Lval, end_of-Lval, more_of-Lval}
use Rattle.vlog_tree.specs.declared.stmt.Lval.TheVariants as l
use Rattle.vlog_tree.specs.declared.valuation.Entry.{Entry}
use Rattle.vlog_tree.specs.Valuation.{IsLength, meaning_of, named}
use Rattle.vlog_tree.specs.Value.{Operand, operand_of, own_integer, own_defined, number_width, row_of, repeated, part_of, Stands, IsPart, IsFormed, AllFormed, IsDefined, NamesOnly, AllNamesOnly, IsPartConstant, IsDivisionConstant, HasConstantParts, AllHaveConstantParts}
use Rattle.vlog_tree_runs.specs.Places.{Name, read}
use Rattle.elab_flat_laws.proofs.Lists.{bool_cases}
use Rattle.elab_flat_faults.specs.Constants.{IsOwnDefined, IsBoundDefined, BoundsDefined, AllBoundsDefined, Taken, HasNonzeroDivisors, HasConstantNumbers, AllHaveConstantNumbers, IsSpanConstant, HasConstantSpans, AllHaveConstantSpans, IsLeftFormed, AreLeftsFormed}

-- what isn't refuted holds
abbrev pub Stable : Type 0 → Type 0
Stable P = ((P → ⊥) → ⊥) → P

pub both : (P Q : Type 0) → Stable P → Stable Q → Stable (P × Q)
both P Q f g h = (f (λ n. h (λ x. n x.0)), g (λ n. h (λ x. n x.1)))

pub three : (P Q R : Type 0) → Stable P → Stable Q → Stable R → Stable (P × Q × R)
three P Q R f g i h = (f (λ n. h (λ x. n x.0)), g (λ n. h (λ x. n x.1)), i (λ n. h (λ x. n x.2)))

four : (P Q R S : Type 0) → Stable P → Stable Q → Stable R → Stable S → Stable (P × Q × R × S)
four P Q R S f g i j h = (f (λ n. h (λ x. n x.0)), g (λ n. h (λ x. n x.1)), i (λ n. h (λ x. n x.2)), j (λ n. h (λ x. n x.3)))

five : (P Q R S T : Type 0) → Stable P → Stable Q → Stable R → Stable S → Stable T → Stable (P × Q × R × S × T)
five P Q R S T f g i j k h = (f (λ n. h (λ x. n x.0)), g (λ n. h (λ x. n x.1)), i (λ n. h (λ x. n x.2)), j (λ n. h (λ x. n x.3)), k (λ n. h (λ x. n x.4)))

unit : Stable (Unit {0})
unit h = tt

pub implied : (P Q : Type 0) → Stable Q → Stable (P → Q)
implied P Q f h p = f (λ n. h (λ i. n (i p)))

pub test : (t : Bool) → Stable (IsTrue t)
test true h = refl
test false h = absurd (h (λ z. cc))

at_most : (a n : ℕ) → Stable (a ≤ n)
at_most a n h =
    ⊎_elim (λ (t : nat_lt n a ≡ true). let less : n < a = ltb-true n a t in absurd (h (λ k. omega (arith, less, k))))
    (λ (t : nat_lt n a ≡ false). ltb-false n a t) (bool_cases (nat_lt n a))

pub length : (n : ℕ) → Stable (IsLength n)
length n = both (1 ≤ n) (n ≤ 64) (at_most 1 n) (at_most n 64)

pub int_at_most : (i j : ℤ) → Stable (i ≤ℤ j)
int_at_most i j h = by_lt_z j i (λ (less : j <ℤ i). absurd (h (λ k. omega (arith, ints, less, k)))) (λ k. k)

int_less : (i j : ℤ) → Stable (i <ℤ j)
int_less i j h = by_lt_z i j (λ k. k) (λ (more : j ≤ℤ i). absurd (h (λ k. omega (arith, ints, more, k))))

standing : (o : Option Constant) → Stable (IsSomeAnd o (λ k. IsLength k.width))
standing None h = absurd (h (λ z. z))
standing (Some k) h = length k.width h

pub stands : (v : List Entry) (x : Read) → Stable (Stands v x)
stands v x = standing (meaning_of v x)

-- ---- names alone

mutual
  pub names : (p : Name → Bool) (a : Expr) → Stable (NamesOnly p a)
  names p (e.Number n) = unit
  names p (e.Name x) = test (p x.text)
  names p (e.Select' x h (more_of-Expr a end_of-Expr)) = both _ _ (test (p x.text)) (names p a)
  names p (e.Part' x span h (more_of-Expr a end_of-Expr) g (more_of-Expr b end_of-Expr)) = three _ _ _ (test (p x.text)) (names p a) (names p b)
  names p (e.ConstantSelect' k h (more_of-Expr a end_of-Expr)) = names p a
  names p (e.ConstantPart' k span h (more_of-Expr a end_of-Expr) g (more_of-Expr b end_of-Expr)) = both _ _ (names p a) (names p b)
  names p (e.Cast' cast h (more_of-Expr a end_of-Expr)) = names p a
  names p (e.Paren' h (more_of-Expr a end_of-Expr)) = names p a
  names p (e.Concat' h row) = row_names p row
  names p (e.Repeat' h (more_of-Expr a end_of-Expr) g row) = both _ _ (names p a) (row_names p row)
  names p (e.Unary' op h (more_of-Expr a end_of-Expr)) = names p a
  names p (e.Binary' op h (more_of-Expr a end_of-Expr) g (more_of-Expr b end_of-Expr)) = both _ _ (names p a) (names p b)
  names p (e.Choice' h (more_of-Expr c end_of-Expr) g (more_of-Expr a end_of-Expr) i (more_of-Expr b end_of-Expr)) = three _ _ _ (names p c) (names p a) (names p b)

  row_names : {m : _} (p : Name → Bool) (row : Row_of-Expr m) → Stable (AllNamesOnly p row)
  row_names p end_of-Expr = unit
  row_names p (more_of-Expr a rest) = both _ _ (names p a) (row_names p rest)

-- ---- parts that must be constant

part_constant : (p : Name → Bool) (span : Span) (a b : Expr) → Stable (IsPartConstant p span a b)
part_constant p w.Fixed a b = both _ _ (names p a) (names p b)
part_constant p w.Up a b = names p b
part_constant p w.Down a b = names p b

division_constant : (p : Name → Bool) (op : Binary) (a c : Expr) → Stable (IsDivisionConstant p op a c)
division_constant p b.Mul a c = unit
division_constant p b.Div a c = both _ _ (names p a) (names p c)
division_constant p b.Rem a c = both _ _ (names p a) (names p c)
division_constant p b.Add a c = unit
division_constant p b.Sub a c = unit
division_constant p b.Shl a c = unit
division_constant p b.Shr a c = unit
division_constant p b.ArithmeticShl a c = unit
division_constant p b.ArithmeticShr a c = unit
division_constant p b.Less a c = unit
division_constant p b.LessEqual a c = unit
division_constant p b.Greater a c = unit
division_constant p b.GreaterEqual a c = unit
division_constant p b.Equal a c = unit
division_constant p b.NotEqual a c = unit
division_constant p b.BitAnd a c = unit
division_constant p b.BitXor a c = unit
division_constant p b.BitXnor a c = unit
division_constant p b.BitOr a c = unit
division_constant p b.LogicalAnd a c = unit
division_constant p b.LogicalOr a c = unit

mutual
  pub constant_parts : (p : Name → Bool) (a : Expr) → Stable (HasConstantParts p a)
  constant_parts p (e.Number n) = unit
  constant_parts p (e.Name x) = unit
  constant_parts p (e.Select' x h (more_of-Expr a end_of-Expr)) = constant_parts p a
  constant_parts p (e.Part' x span h (more_of-Expr a end_of-Expr) g (more_of-Expr b end_of-Expr)) = three _ _ _ (constant_parts p a) (constant_parts p b) (part_constant p span a b)
  constant_parts p (e.ConstantSelect' k h (more_of-Expr a end_of-Expr)) = constant_parts p a
  constant_parts p (e.ConstantPart' k span h (more_of-Expr a end_of-Expr) g (more_of-Expr b end_of-Expr)) =
      three _ _ _ (constant_parts p a) (constant_parts p b) (part_constant p span a b)
  constant_parts p (e.Cast' cast h (more_of-Expr a end_of-Expr)) = constant_parts p a
  constant_parts p (e.Paren' h (more_of-Expr a end_of-Expr)) = constant_parts p a
  constant_parts p (e.Concat' h row) = row_parts p row
  constant_parts p (e.Repeat' h (more_of-Expr a end_of-Expr) g row) = three _ _ _ (constant_parts p a) (names p a) (row_parts p row)
  constant_parts p (e.Unary' op h (more_of-Expr a end_of-Expr)) = constant_parts p a
  constant_parts p (e.Binary' op h (more_of-Expr a end_of-Expr) g (more_of-Expr b end_of-Expr)) = three _ _ _ (constant_parts p a) (constant_parts p b) (division_constant p op a b)
  constant_parts p (e.Choice' h (more_of-Expr c end_of-Expr) g (more_of-Expr a end_of-Expr) i (more_of-Expr b end_of-Expr)) =
      three _ _ _ (constant_parts p c) (constant_parts p a) (constant_parts p b)

  row_parts : {m : _} (p : Name → Bool) (row : Row_of-Expr m) → Stable (AllHaveConstantParts p row)
  row_parts p end_of-Expr = unit
  row_parts p (more_of-Expr a rest) = both _ _ (constant_parts p a) (row_parts p rest)

-- ---- lengths

part : (k : Constant) (span : Span) (x y : Operand) → Stable (IsPart k span x y)
part k w.Fixed x y = three _ _ _ (test _) (int_at_most (pos k.low) (own_integer y)) (int_less (own_integer x) (pos (k.low + k.width)))
part k w.Up x y = test (own_defined y)
part k w.Down x y = test (own_defined y)

mutual
  pub formed : (v : List Entry) (a : Expr) → Stable (IsFormed v a)
  formed v (e.Number n) = length (number_width n.size)
  formed v (e.Name x) = stands v x
  formed v (e.Select' x h (more_of-Expr a end_of-Expr)) = both _ _ (stands v x) (formed v a)
  formed v (e.Part' x span h (more_of-Expr a end_of-Expr) g (more_of-Expr b end_of-Expr)) =
      five _ _ _ _ _ (stands v x) (formed v a) (formed v b) (part (named v x) span (operand_of v a) (operand_of v b)) (length (part_of (named v x) span (operand_of v a) (operand_of v b)).width)
  formed v (e.ConstantSelect' k h (more_of-Expr a end_of-Expr)) = both _ _ (length k.width) (formed v a)
  formed v (e.ConstantPart' k span h (more_of-Expr a end_of-Expr) g (more_of-Expr b end_of-Expr)) =
      five _ _ _ _ _ (length k.width) (formed v a) (formed v b) (part k span (operand_of v a) (operand_of v b)) (length (part_of k span (operand_of v a) (operand_of v b)).width)
  formed v (e.Cast' cast h (more_of-Expr a end_of-Expr)) = formed v a
  formed v (e.Paren' h (more_of-Expr a end_of-Expr)) = formed v a
  formed v (e.Concat' h row) = both _ _ (row_formed v row) (length (row_of v row).width)
  formed v (e.Repeat' h (more_of-Expr a end_of-Expr) g row) =
      four _ _ _ _ (formed v a) (test (own_defined (operand_of v a))) (row_formed v row) (length (repeated (operand_of v a) (row_of v row)).width)
  formed v (e.Unary' op h (more_of-Expr a end_of-Expr)) = formed v a
  formed v (e.Binary' op h (more_of-Expr a end_of-Expr) g (more_of-Expr b end_of-Expr)) = both _ _ (formed v a) (formed v b)
  formed v (e.Choice' h (more_of-Expr c end_of-Expr) g (more_of-Expr a end_of-Expr) i (more_of-Expr b end_of-Expr)) = three _ _ _ (formed v c) (formed v a) (formed v b)

  row_formed : {m : _} (v : List Entry) (row : Row_of-Expr m) → Stable (AllFormed v row)
  row_formed v end_of-Expr = unit
  row_formed v (more_of-Expr a rest) = both _ _ (formed v a) (row_formed v rest)

-- ---- divisors

own_defined' : (v : List Entry) (a : Expr) → Stable (IsOwnDefined v a)
own_defined' v a = implied (IsFormed v a) (IsTrue (own_defined (operand_of v a))) (test (own_defined (operand_of v a)))

bound_defined : (v : List Entry) (span : Span) (a b : Expr) → Stable (IsBoundDefined v span a b)
bound_defined v w.Fixed a b = both _ _ (own_defined' v a) (own_defined' v b)
bound_defined v w.Up a b = own_defined' v b
bound_defined v w.Down a b = own_defined' v b

mutual
  pub bounds : (v : List Entry) (a : Expr) → Stable (BoundsDefined v a)
  bounds v (e.Number n) = unit
  bounds v (e.Name x) = unit
  bounds v (e.Select' x h (more_of-Expr a end_of-Expr)) = bounds v a
  bounds v (e.Part' x span h (more_of-Expr a end_of-Expr) g (more_of-Expr b end_of-Expr)) = three _ _ _ (bounds v a) (bounds v b) (bound_defined v span a b)
  bounds v (e.ConstantSelect' k h (more_of-Expr a end_of-Expr)) = bounds v a
  bounds v (e.ConstantPart' k span h (more_of-Expr a end_of-Expr) g (more_of-Expr b end_of-Expr)) = three _ _ _ (bounds v a) (bounds v b) (bound_defined v span a b)
  bounds v (e.Cast' cast h (more_of-Expr a end_of-Expr)) = bounds v a
  bounds v (e.Paren' h (more_of-Expr a end_of-Expr)) = bounds v a
  bounds v (e.Concat' h row) = row_bounds v row
  bounds v (e.Repeat' h (more_of-Expr a end_of-Expr) g row) = three _ _ _ (bounds v a) (own_defined' v a) (row_bounds v row)
  bounds v (e.Unary' op h (more_of-Expr a end_of-Expr)) = bounds v a
  bounds v (e.Binary' op h (more_of-Expr a end_of-Expr) g (more_of-Expr b end_of-Expr)) = both _ _ (bounds v a) (bounds v b)
  bounds v (e.Choice' h (more_of-Expr c end_of-Expr) g (more_of-Expr a end_of-Expr) i (more_of-Expr b end_of-Expr)) = three _ _ _ (bounds v c) (bounds v a) (bounds v b)

  row_bounds : {m : _} (v : List Entry) (row : Row_of-Expr m) → Stable (AllBoundsDefined v row)
  row_bounds v end_of-Expr = unit
  row_bounds v (more_of-Expr a rest) = both _ _ (bounds v a) (row_bounds v rest)

pub divisors : (v : List Entry) (t : Taken) → Stable (HasNonzeroDivisors v t)
divisors v t = both _ _ (bounds v t.value) (implied (IsFormed v t.value) (IsDefined v t.value t.width t.signed) (test _))

-- ---- left sides

mutual
  pub constant_numbers : (p : Name → Bool) (a : Lval) → Stable (HasConstantNumbers p a)
  constant_numbers p (l.Name x) = unit
  constant_numbers p (l.Select x a) = names p a
  constant_numbers p (l.Part x span a b) = both _ _ (names p a) (names p b)
  constant_numbers p (l.Concat' h row) = row_numbers p row

  row_numbers : {m : _} (p : Name → Bool) (row : Row_of-Lval m) → Stable (AllHaveConstantNumbers p row)
  row_numbers p end_of-Lval = unit
  row_numbers p (more_of-Lval a rest) = both _ _ (constant_numbers p a) (row_numbers p rest)

span_constant : (p : Name → Bool) (span : Span) (a b : Expr) → Stable (IsSpanConstant p span a b)
span_constant p w.Fixed a b = both _ _ (names p a) (names p b)
span_constant p w.Up a b = names p b
span_constant p w.Down a b = names p b

mutual
  pub constant_spans : (p : Name → Bool) (a : Lval) → Stable (HasConstantSpans p a)
  constant_spans p (l.Name x) = unit
  constant_spans p (l.Select x a) = unit
  constant_spans p (l.Part x span a b) = span_constant p span a b
  constant_spans p (l.Concat' h row) = row_spans p row

  row_spans : {m : _} (p : Name → Bool) (row : Row_of-Lval m) → Stable (AllHaveConstantSpans p row)
  row_spans p end_of-Lval = unit
  row_spans p (more_of-Lval a rest) = both _ _ (constant_spans p a) (row_spans p rest)

mutual
  pub left_formed : (v : List Entry) (a : Lval) → Stable (IsLeftFormed v a)
  left_formed v (l.Name x) = unit
  left_formed v (l.Select x a) = unit
  left_formed v (l.Part x span a b) =
      both _ _ (part (named v (read x)) span (operand_of v a) (operand_of v b)) (length (part_of (named v (read x)) span (operand_of v a) (operand_of v b)).width)
  left_formed v (l.Concat' h row) = lefts_formed v row

  lefts_formed : {m : _} (v : List Entry) (row : Row_of-Lval m) → Stable (AreLeftsFormed v row)
  lefts_formed v end_of-Lval = unit
  lefts_formed v (more_of-Lval a rest) = both _ _ (left_formed v a) (lefts_formed v rest)
