-- What has to be constant, and which lengths an expression may have (IEEE 1364-2005, sections 4.3, 4.10, 5.2 and 5.4).
use Rattle.std.specs.Prelude.{ℕ, ◌≡◌, ◌⊎◌, ◌<◌, ◌≤ℤ◌, pos, max, Bool, IsTrue, List, [], ◌∷◌, Option, Some, None, map}
use Rattle.vlog_tree.specs.declared.expr.Expr.{Expr, Row_of-Expr, end_of-Expr, more_of-Expr}
use Rattle.vlog_tree.specs.declared.expr.Expr.TheVariants as e
use Rattle.vlog_tree.specs.declared.expr.Span.{Span}
use Rattle.vlog_tree.specs.declared.expr.Span.TheVariants as w
use Rattle.vlog_tree.specs.declared.item.Assign.{Assign}
use Rattle.vlog_tree.specs.declared.item.Range.{Range}
use Rattle.vlog_tree.specs.declared.stmt.Lval.{Lval, Row_of-Lval, end_of-Lval, more_of-Lval}
use Rattle.vlog_tree.specs.declared.stmt.Lval.TheVariants as l
use Rattle.vlog_tree.specs.declared.valuation.Entry.{Entry}
use Rattle.vlog_tree.specs.Valuation.{IsLength, named}
use Rattle.vlog_tree.specs.Value.{operand_of, own_defined, own_integer, width_of, sign_of, IsDefined, IsFormed, IsPart, part_of, NamesOnly, HasConstantParts}
use Rattle.vlog_tree_runs.specs.Places.{Name, Among, Place, read, valuation, pieces, total}
use Rattle.vlog_tree_runs.specs.Blocks.{case_width, case_sign}
use Rattle.vlog_tree_runs.specs.Scopes.{range_width, depth_in}
use Rattle.elab_flat_faults.specs.Texts.{Compared}

-- what the names of a place stand for, the signals being 0: lengths and constants don't depend on them
abbrev pub at_rest : Place → List Entry
at_rest p = valuation p (λ x. 0)

-- no divisor is 0 in an expression by itself, where it is well formed
abbrev pub IsOwnDefined : List Entry → Expr → Type 0
IsOwnDefined v a = IsFormed v a → IsTrue (own_defined (operand_of v a))

abbrev pub IsBoundDefined : List Entry → Span → Expr → Expr → Type 0
IsBoundDefined v w.Fixed a b = IsOwnDefined v a × IsOwnDefined v b
IsBoundDefined v w.Up a b = IsOwnDefined v b
IsBoundDefined v w.Down a b = IsOwnDefined v b

-- no divisor is 0 in the bounds, widths and counts of an expression
abbrev mutual
  pub BoundsDefined : List Entry → Expr → Type 0
  BoundsDefined v (e.Number n) = Unit {0}
  BoundsDefined v (e.Name x) = Unit {0}
  BoundsDefined v (e.Select' x h (more_of-Expr a end_of-Expr)) = BoundsDefined v a
  BoundsDefined v (e.Part' x span h (more_of-Expr a end_of-Expr) g (more_of-Expr b end_of-Expr)) = BoundsDefined v a × BoundsDefined v b × IsBoundDefined v span a b
  BoundsDefined v (e.ConstantSelect' k h (more_of-Expr a end_of-Expr)) = BoundsDefined v a
  BoundsDefined v (e.ConstantPart' k span h (more_of-Expr a end_of-Expr) g (more_of-Expr b end_of-Expr)) =
      BoundsDefined v a × BoundsDefined v b × IsBoundDefined v span a b
  BoundsDefined v (e.Cast' cast h (more_of-Expr a end_of-Expr)) = BoundsDefined v a
  BoundsDefined v (e.Paren' h (more_of-Expr a end_of-Expr)) = BoundsDefined v a
  BoundsDefined v (e.Concat' h row) = AllBoundsDefined v row
  BoundsDefined v (e.Repeat' h (more_of-Expr a end_of-Expr) g row) = BoundsDefined v a × IsOwnDefined v a × AllBoundsDefined v row
  BoundsDefined v (e.Unary' op h (more_of-Expr a end_of-Expr)) = BoundsDefined v a
  BoundsDefined v (e.Binary' op h (more_of-Expr a end_of-Expr) g (more_of-Expr b end_of-Expr)) = BoundsDefined v a × BoundsDefined v b
  BoundsDefined v (e.Choice' h (more_of-Expr c end_of-Expr) g (more_of-Expr a end_of-Expr) i (more_of-Expr b end_of-Expr)) =
      BoundsDefined v c × BoundsDefined v a × BoundsDefined v b

  pub AllBoundsDefined : {m : _} → List Entry → Row_of-Expr m → Type 0
  AllBoundsDefined v end_of-Expr = Unit {0}
  AllBoundsDefined v (more_of-Expr a rest) = BoundsDefined v a × AllBoundsDefined v rest

-- ---- expressions in their places

-- an expression and the length and the sign that it has in its place
pub record Taken : Type 0 where
  pub value : Expr
  pub width : ℕ
  pub signed : Bool

-- by itself
abbrev pub alone : List Entry → Expr → Taken
alone v a = record { value = a; width = width_of v a; signed = sign_of v a }

-- as the right side of an assignment to so many bits
abbrev pub stored : List Entry → ℕ → Expr → Taken
stored v n a = record { value = a; width = max (width_of v a) n; signed = sign_of v a }

-- to a left side
abbrev pub assigned_to : Place → Assign → Taken
assigned_to p a = stored (at_rest p) (total (pieces p (λ x. 0) a.left)) a.right

-- compared with the labels of a case statement
abbrev pub compared : List Entry → Compared → List Taken
compared v c = map (λ a. record { value = a; width = case_width v c.value c.labels; signed = case_sign v c.value c.labels }) (c.value ∷ c.labels)

-- no divisor is 0 in the bounds of an expression, nor in itself where it is well formed
abbrev pub HasNonzeroDivisors : List Entry → Taken → Type 0
HasNonzeroDivisors v t = BoundsDefined v t.value × (IsFormed v t.value → IsDefined v t.value t.width t.signed)

-- an expression breaks a rule on constants: a part that must be constant isn't, or a divisor is 0
abbrev pub BreaksConstants : (Name → Bool) → List Entry → Taken → Type 0
BreaksConstants test v t = (HasConstantParts test t.value → ⊥) ⊎ (HasConstantParts test t.value × (HasNonzeroDivisors v t → ⊥))

-- an expression breaks a rule on lengths: one isn't from 1 to 64, or a constant part-select leaves its vector
abbrev pub BreaksLengths : (Name → Bool) → List Entry → Taken → Type 0
BreaksLengths test v t = HasConstantParts test t.value × BoundsDefined v t.value × (IsFormed v t.value → ⊥)

-- an expression that must be constant isn't: it names something else than these parameters, or a divisor is 0
abbrev pub IsInconstant : (Name → Bool) → List Entry → Taken → Type 0
IsInconstant test v t = (NamesOnly test t.value → ⊥) ⊎ (NamesOnly test t.value × (HasNonzeroDivisors v t → ⊥))

-- a constant breaks a rule on lengths
abbrev pub IsMissized : (Name → Bool) → List Entry → Taken → Type 0
IsMissized test v t = NamesOnly test t.value × BoundsDefined v t.value × (IsFormed v t.value → ⊥)

-- ---- left sides

-- the numbers of a left side are constant, where they must be
abbrev mutual
  pub HasConstantNumbers : (Name → Bool) → Lval → Type 0
  HasConstantNumbers test (l.Name x) = Unit {0}
  HasConstantNumbers test (l.Select x a) = NamesOnly test a
  HasConstantNumbers test (l.Part x span a b) = NamesOnly test a × NamesOnly test b
  HasConstantNumbers test (l.Concat' h row) = AllHaveConstantNumbers test row

  pub AllHaveConstantNumbers : {m : _} → (Name → Bool) → Row_of-Lval m → Type 0
  AllHaveConstantNumbers test end_of-Lval = Unit {0}
  AllHaveConstantNumbers test (more_of-Lval a rest) = HasConstantNumbers test a × AllHaveConstantNumbers test rest

-- the bounds of `[a:b]`, and the width of `+:` and `-:`, are constant on every left side
abbrev pub IsSpanConstant : (Name → Bool) → Span → Expr → Expr → Type 0
IsSpanConstant test w.Fixed a b = NamesOnly test a × NamesOnly test b
IsSpanConstant test w.Up a b = NamesOnly test b
IsSpanConstant test w.Down a b = NamesOnly test b

abbrev mutual
  pub HasConstantSpans : (Name → Bool) → Lval → Type 0
  HasConstantSpans test (l.Name x) = Unit {0}
  HasConstantSpans test (l.Select x a) = Unit {0}
  HasConstantSpans test (l.Part x span a b) = IsSpanConstant test span a b
  HasConstantSpans test (l.Concat' h row) = AllHaveConstantSpans test row

  pub AllHaveConstantSpans : {m : _} → (Name → Bool) → Row_of-Lval m → Type 0
  AllHaveConstantSpans test end_of-Lval = Unit {0}
  AllHaveConstantSpans test (more_of-Lval a rest) = HasConstantSpans test a × AllHaveConstantSpans test rest

-- no divisor is 0 in them
abbrev mutual
  pub AreSpansDefined : List Entry → Lval → Type 0
  AreSpansDefined v (l.Name x) = Unit {0}
  AreSpansDefined v (l.Select x a) = Unit {0}
  AreSpansDefined v (l.Part x span a b) = IsBoundDefined v span a b
  AreSpansDefined v (l.Concat' h row) = AllSpansDefined v row

  pub AllSpansDefined : {m : _} → List Entry → Row_of-Lval m → Type 0
  AllSpansDefined v end_of-Lval = Unit {0}
  AllSpansDefined v (more_of-Lval a rest) = AreSpansDefined v a × AllSpansDefined v rest

-- the parts of a left side have lengths from 1 to 64, and so has it; a constant part stays in its vector
abbrev mutual
  pub IsLeftFormed : List Entry → Lval → Type 0
  IsLeftFormed v (l.Name x) = Unit {0}
  IsLeftFormed v (l.Select x a) = Unit {0}
  IsLeftFormed v (l.Part x span a b) =
      IsPart (named v (read x)) span (operand_of v a) (operand_of v b) × IsLength (part_of (named v (read x)) span (operand_of v a) (operand_of v b)).width
  IsLeftFormed v (l.Concat' h row) = AreLeftsFormed v row

  pub AreLeftsFormed : {m : _} → List Entry → Row_of-Lval m → Type 0
  AreLeftsFormed v end_of-Lval = Unit {0}
  AreLeftsFormed v (more_of-Lval a rest) = IsLeftFormed v a × AreLeftsFormed v rest

-- ---- ranges

-- m >= l >= 0 in a range `[m:l]`
abbrev pub IsOrdered : List Entry → Range → Type 0
IsOrdered v r = (pos 0 ≤ℤ own_integer (operand_of v r.low)) × (own_integer (operand_of v r.low) ≤ℤ own_integer (operand_of v r.high))

-- a range of words is `[0:n]` with n >= 0
abbrev pub IsFromZero : List Entry → Range → Type 0
IsFromZero v r = (own_integer (operand_of v r.high) ≡ pos 0) × (pos 0 ≤ℤ own_integer (operand_of v r.low))

-- the bounds of a range, each by itself
abbrev pub bounds_of : List Entry → Range → List Taken
bounds_of v r = alone v r.high ∷ alone v r.low ∷ []

-- both are well formed
abbrev pub HasFormedBounds : List Entry → Range → Type 0
HasFormedBounds v r = IsFormed v r.high × IsFormed v r.low

-- a bound isn't constant, or the bounds aren't in their order
abbrev pub BreaksBounds : (List Entry → Range → Type 0) → (Name → Bool) → List Entry → Range → Type 0
BreaksBounds InOrder test v r = ((t : Taken) × Among (bounds_of v r) t × IsInconstant test v t) ⊎ (HasFormedBounds v r × (InOrder v r → ⊥))

-- a bound breaks a rule on lengths
abbrev pub HasMissizedBound : (Name → Bool) → List Entry → Range → Type 0
HasMissizedBound test v r = (t : Taken) × Among (bounds_of v r) t × IsMissized test v t

-- a range of bits doesn't have from 1 to 64
abbrev pub BreaksRange : (Name → Bool) → List Entry → Range → Type 0
BreaksRange test v r = HasMissizedBound test v r ⊎ (HasFormedBounds v r × IsOrdered v r × (IsLength (range_width v r) → ⊥))

-- a range of words has more than 64
abbrev pub BreaksWords : (Name → Bool) → List Entry → Range → Type 0
BreaksWords test v r = HasMissizedBound test v r ⊎ (HasFormedBounds v r × IsFromZero v r × (64 < depth_in (Some r) v))

-- a range that is there
abbrev pub InRange : (Range → Type 0) → Option Range → Type 0
InRange P None = ⊥
InRange P (Some r) = P r
