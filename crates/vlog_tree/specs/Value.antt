-- Lengths, signs and values of expressions: IEEE 1364-2005, sections 5.1 (operators), 5.2 (operands), 5.4 (lengths) and 5.5 (signs).
use Rattle.std.specs.Prelude.{ℕ, zero, suc, ◌+◌, ◌-◌, ◌*◌, ◌/◌, ◌%◌, ◌^◌, min, max, ◌&&◌, ◌||◌, not, nat_eq, nat_le, nat_lt, Bool, true, false, List, Option, Some, None, IsSomeAnd, IsTrue, if◌then◌else◌, ℤ, pos, negsuc, ◌+ℤ◌, ◌-ℤ◌, ◌≤ℤ◌, ◌<ℤ◌, int_lt, int_le, int_div, int_rem, bit_and, bit_or, bit_xor, count_ones}
use Rattle.vlog_tree.specs.declared.expr.Binary.{Binary}
use Rattle.vlog_tree.specs.declared.expr.Binary.TheVariants as b
use Rattle.vlog_tree.specs.declared.expr.Cast.{Cast}
use Rattle.vlog_tree.specs.declared.expr.Cast.TheVariants as c
use Rattle.vlog_tree.specs.declared.expr.Constant.{Constant}
use Rattle.vlog_tree.specs.declared.expr.Expr.{Expr, Row_of-Expr, end_of-Expr, more_of-Expr}
use Rattle.vlog_tree.specs.declared.expr.Expr.TheVariants as e
use Rattle.vlog_tree.specs.declared.expr.Name.{Name}
use Rattle.vlog_tree.specs.declared.expr.Span.{Span}
use Rattle.vlog_tree.specs.declared.expr.Span.TheVariants as w
use Rattle.vlog_tree.specs.declared.expr.Unary.{Unary}
use Rattle.vlog_tree.specs.declared.expr.Unary.TheVariants as u
use Rattle.vlog_tree.specs.declared.valuation.Entry.{Entry}
use Rattle.vlog_tree.specs.Valuation.{IsLength, meaning_of, named, depth_of, word_name}

-- ---- numbers of so many bits

-- an unsized number has 32 bits
abbrev pub number_width : Option ℕ → ℕ
number_width None = 32
number_width (Some n) = n

abbrev pub bit : Bool → ℕ
bit t = if t then 1 else 0

-- whether a number of n bits is signed and has its top bit set
abbrev pub is_negative : Bool → ℕ → ℕ → Bool
is_negative signed n x = signed && nat_le (2 ^ (n - 1)) x

-- a number of n bits at m bits: where it is signed, its top bit is repeated
abbrev pub extend : Bool → ℕ → ℕ → ℕ → ℕ
extend signed n m x = if is_negative signed n x then x + 2 ^ m - 2 ^ n else x

-- the integer that n bits stand for by their sign: x - 2 ^ n where they are negative
abbrev pub integer : Bool → ℕ → ℕ → ℤ
integer signed n x = if is_negative signed n x then negsuc (2 ^ n - 1 - x) else pos x

-- an integer modulo 2 ^ n
abbrev pub cut : ℕ → ℤ → ℕ
cut n (pos x) = x % 2 ^ n
cut n (negsuc x) = 2 ^ n - 1 - x % 2 ^ n

-- an integer, and 0 for a negative one
abbrev pub natural : ℤ → ℕ
natural (pos x) = x
natural (negsuc x) = 0

-- ---- operands

-- an expression as an operand: the length and the sign that it has by itself, its value at a length and a sign, and whether
-- no divisor is 0 there
pub record Operand : Type 0 where
  pub width : ℕ
  pub signed : Bool
  pub value : ℕ → Bool → ℕ
  pub defined : ℕ → Bool → Bool

-- its value by itself, the integer that this is by its own sign, and whether no divisor is 0 then
abbrev pub own : Operand → ℕ
own a = a.value a.width a.signed

abbrev pub own_integer : Operand → ℤ
own_integer a = integer a.signed a.width (own a)

abbrev pub own_defined : Operand → Bool
own_defined a = a.defined a.width a.signed

-- a number of so many bits, which is extended by the sign of the expression that it stands in
abbrev pub vector : ℕ → Bool → ℕ → Operand
vector width signed x = record { width = width; signed = signed; value = λ L s. extend s width L x; defined = λ L s. true }

-- an unsigned number of so many bits, where no divisor is 0 by this test
abbrev pub plain : ℕ → ℕ → Bool → Operand
plain width x defined = record { width = width; signed = false; value = λ L s. x; defined = λ L s. defined }

-- ---- operators (IEEE 1364-2005, 5.1, and table 5-22 for the lengths)

-- the operand has the length and the sign of the expression
abbrev pub context : Operand → (ℕ → ℕ → ℕ) → Operand
context a f = record { width = a.width; signed = a.signed; value = λ L s. f L (a.value L s); defined = a.defined }

-- the operand is taken by itself, and the result is one bit
abbrev pub alone : Operand → (ℕ → ℕ → Bool) → Operand
alone a f = plain 1 (bit (f a.width (own a))) (own_defined a)

abbrev pub unary_of : Unary → Operand → Operand
unary_of u.Plus a = context a (λ n x. x)
unary_of u.Minus a = context a (λ n x. (2 ^ n - x) % 2 ^ n)
unary_of u.BitNot a = context a (λ n x. 2 ^ n - 1 - x)
unary_of u.LogicalNot a = alone a (λ n x. nat_eq x 0)
unary_of u.ReduceAnd a = alone a (λ n x. nat_eq x (2 ^ n - 1))
unary_of u.ReduceNand a = alone a (λ n x. not (nat_eq x (2 ^ n - 1)))
unary_of u.ReduceOr a = alone a (λ n x. not (nat_eq x 0))
unary_of u.ReduceNor a = alone a (λ n x. nat_eq x 0)
unary_of u.ReduceXor a = alone a (λ n x. nat_eq (count_ones x % 2) 1)
unary_of u.ReduceXnor a = alone a (λ n x. nat_eq (count_ones x % 2) 0)

-- both operands have the length and the sign of the expression, which is signed only if both are
abbrev pub in_context : Operand → Operand → (ℕ → Bool → ℕ → ℕ → ℕ) → Operand
in_context a b f = record {
  width = max a.width b.width;
  signed = a.signed && b.signed;
  value = λ L s. f L s (a.value L s) (b.value L s);
  defined = λ L s. a.defined L s && b.defined L s;
}

-- the same, where the second operand is a divisor
abbrev pub divided : Operand → Operand → (ℤ → ℤ → ℤ) → Operand
divided a b f = record (in_context a b (λ n s x y. cut n (f (integer s n x) (integer s n y)))) {
  defined = λ L s. a.defined L s && b.defined L s && not (nat_eq (b.value L s) 0);
}

-- both operands have the longer one's length and are signed only if both are; the result is one bit
abbrev pub compared : Operand → Operand → (ℤ → ℤ → Bool) → Operand
compared a b f =
    let n = max a.width b.width in
    let s = a.signed && b.signed in
    plain 1 (bit (f (integer s n (a.value n s)) (integer s n (b.value n s)))) (a.defined n s && b.defined n s)

-- the same for a test of the bits
abbrev pub matched : Operand → Operand → (ℕ → ℕ → Bool) → Operand
matched a b f =
    let n = max a.width b.width in
    let s = a.signed && b.signed in
    plain 1 (bit (f (a.value n s) (b.value n s))) (a.defined n s && b.defined n s)

-- each operand is taken by itself, and the result is one bit
abbrev pub both_alone : Operand → Operand → (Bool → Bool → Bool) → Operand
both_alone a b f = plain 1 (bit (f (not (nat_eq (own a) 0)) (not (nat_eq (own b) 0)))) (own_defined a && own_defined b)

-- the left operand has the length and the sign of the expression; the right one is taken by itself, as an unsigned number
abbrev pub shifted : Operand → Operand → (ℕ → Bool → ℕ → ℕ → ℕ) → Operand
shifted a b f = record {
  width = a.width;
  signed = a.signed;
  value = λ L s. f L s (a.value L s) (min (own b) L);
  defined = λ L s. a.defined L s && own_defined b;
}

abbrev pub binary_of : Binary → Operand → Operand → Operand
binary_of b.Mul a c = in_context a c (λ n s x y. x * y % 2 ^ n)
binary_of b.Div a c = divided a c int_div
binary_of b.Rem a c = divided a c int_rem
binary_of b.Add a c = in_context a c (λ n s x y. (x + y) % 2 ^ n)
binary_of b.Sub a c = in_context a c (λ n s x y. (x + 2 ^ n - y) % 2 ^ n)
binary_of b.Shl a c = shifted a c (λ n s x y. x * 2 ^ y % 2 ^ n)
binary_of b.Shr a c = shifted a c (λ n s x y. x / 2 ^ y)
binary_of b.ArithmeticShl a c = shifted a c (λ n s x y. x * 2 ^ y % 2 ^ n)
binary_of b.ArithmeticShr a c = shifted a c (λ n s x y. x / 2 ^ y + (if is_negative s n x then 2 ^ n - 2 ^ (n - y) else 0))
binary_of b.Less a c = compared a c int_lt
binary_of b.LessEqual a c = compared a c int_le
binary_of b.Greater a c = compared a c (λ x y. int_lt y x)
binary_of b.GreaterEqual a c = compared a c (λ x y. int_le y x)
binary_of b.Equal a c = matched a c nat_eq
binary_of b.NotEqual a c = matched a c (λ x y. not (nat_eq x y))
binary_of b.BitAnd a c = in_context a c (λ n s x y. bit_and x y)
binary_of b.BitXor a c = in_context a c (λ n s x y. bit_xor x y)
binary_of b.BitXnor a c = in_context a c (λ n s x y. 2 ^ n - 1 - bit_xor x y)
binary_of b.BitOr a c = in_context a c (λ n s x y. bit_or x y)
binary_of b.LogicalAnd a c = both_alone a c (λ x y. x && y)
binary_of b.LogicalOr a c = both_alone a c (λ x y. x || y)

-- `c ? a : b`
abbrev pub choice_of : Operand → Operand → Operand → Operand
choice_of c a b = record {
  width = max a.width b.width;
  signed = a.signed && b.signed;
  value = λ L s. if nat_eq (own c) 0 then b.value L s else a.value L s;
  defined = λ L s. own_defined c && a.defined L s && b.defined L s;
}

-- `$signed(a)` and `$unsigned(a)`
abbrev pub cast_sign : Cast → Bool
cast_sign c.Signed = true
cast_sign c.Unsigned = false

abbrev pub cast_of : Cast → Operand → Operand
cast_of cast a = record (vector a.width (cast_sign cast) (own a)) { defined = λ L s. own_defined a }

-- `{a, b}`: the first has the highest bits
abbrev pub joined : Operand → Operand → Operand
joined a b = plain (a.width + b.width) (own a * 2 ^ b.width + own b) (own_defined a && own_defined b)

-- n copies of an operand, one after another
abbrev pub copies : ℕ → Operand → Operand
copies zero a = plain 0 0 (own_defined a)
copies (suc n) a = joined a (copies n a)

abbrev pub repeated : Operand → Operand → Operand
repeated c a = record (copies (natural (own_integer c)) a) { defined = λ L s. own_defined c && own_defined a }

-- ---- selects (IEEE 1364-2005, 5.2.1)

-- a number moved down by so many bits, or up where that is negative
abbrev pub moved_down : ℤ → ℕ → ℕ
moved_down (pos d) x = x / 2 ^ d
moved_down (negsuc d) x = x * 2 ^ suc d

-- the n bits of a vector from the one with the number i upwards; a bit out of range is 0
abbrev pub bits_of : Constant → ℤ → ℕ → ℕ
bits_of k i n = moved_down (i -ℤ pos k.low) (k.value % 2 ^ k.width) % 2 ^ n

-- how many bits a part-select `[a:b]`, `[a+:b]` or `[a-:b]` has, and the number of the lowest one
abbrev pub part_width : Span → ℤ → ℤ → ℕ
part_width w.Fixed a b = natural ((a -ℤ b) +ℤ pos 1)
part_width w.Up a b = natural b
part_width w.Down a b = natural b

abbrev pub part_low : Span → ℤ → ℤ → ℤ
part_low w.Fixed a b = b
part_low w.Up a b = a
part_low w.Down a b = (a -ℤ b) +ℤ pos 1

-- the bit, and the bits, of a vector
abbrev pub bit_of : Constant → Operand → Operand
bit_of k a = plain 1 (bits_of k (own_integer a) 1) (own_defined a)

abbrev pub part_of : Constant → Span → Operand → Operand → Operand
part_of k span a b =
    let n = part_width span (own_integer a) (own_integer b) in
    plain n (bits_of k (part_low span (own_integer a) (own_integer b)) n) (own_defined a && own_defined b)

-- the word of a memory that an index names, taken as an unsigned number; a word out of range is 0
abbrev pub word_of : List Entry → Name → Operand → Operand
word_of v x a =
    plain (named v x).width
    (if nat_lt (own a) (depth_of v x) then (named v (word_name x (own a))).value % 2 ^ (named v x).width else 0)
    (own_defined a)

-- ---- expressions

abbrev mutual
  pub operand_of : List Entry → Expr → Operand
  operand_of v (e.Number n) = vector (number_width n.size) n.signed (n.value % 2 ^ number_width n.size)
  operand_of v (e.Name x) = vector (named v x).width (named v x).signed (named v x).value
  operand_of v (e.Select' x h (more_of-Expr a end_of-Expr)) =
      if nat_eq (depth_of v x) 0 then bit_of (named v x) (operand_of v a) else word_of v x (operand_of v a)
  operand_of v (e.Part' x span h (more_of-Expr a end_of-Expr) g (more_of-Expr b end_of-Expr)) = part_of (named v x) span (operand_of v a) (operand_of v b)
  operand_of v (e.ConstantSelect' k h (more_of-Expr a end_of-Expr)) = bit_of k (operand_of v a)
  operand_of v (e.ConstantPart' k span h (more_of-Expr a end_of-Expr) g (more_of-Expr b end_of-Expr)) = part_of k span (operand_of v a) (operand_of v b)
  operand_of v (e.Cast' cast h (more_of-Expr a end_of-Expr)) = cast_of cast (operand_of v a)
  operand_of v (e.Paren' h (more_of-Expr a end_of-Expr)) = operand_of v a
  operand_of v (e.Concat' h row) = row_of v row
  operand_of v (e.Repeat' h (more_of-Expr a end_of-Expr) g row) = repeated (operand_of v a) (row_of v row)
  operand_of v (e.Unary' op h (more_of-Expr a end_of-Expr)) = unary_of op (operand_of v a)
  operand_of v (e.Binary' op h (more_of-Expr a end_of-Expr) g (more_of-Expr b end_of-Expr)) = binary_of op (operand_of v a) (operand_of v b)
  operand_of v (e.Choice' h (more_of-Expr c end_of-Expr) g (more_of-Expr a end_of-Expr) i (more_of-Expr b end_of-Expr)) =
      choice_of (operand_of v c) (operand_of v a) (operand_of v b)

  -- the parts of a concatenation, joined
  pub row_of : {m : _} → List Entry → Row_of-Expr m → Operand
  row_of v end_of-Expr = plain 0 0 true
  row_of v (more_of-Expr a rest) = joined (operand_of v a) (row_of v rest)

-- the length and the sign that an expression has by itself
abbrev pub width_of : List Entry → Expr → ℕ
width_of v a = (operand_of v a).width

abbrev pub sign_of : List Entry → Expr → Bool
sign_of v a = (operand_of v a).signed

-- its value at a length and a sign, and by itself
abbrev pub value_of : List Entry → Expr → ℕ → Bool → ℕ
value_of v a L s = (operand_of v a).value L s

abbrev pub own_value : List Entry → Expr → ℕ
own_value v a = own (operand_of v a)

-- no divisor is 0 at a length and a sign
abbrev pub IsDefined : List Entry → Expr → ℕ → Bool → Type 0
IsDefined v a L s = IsTrue ((operand_of v a).defined L s)

-- what an assignment gives to a left side of n bits: the right side at the longer of both lengths, cut (IEEE 1364-2005, 5.4)
abbrev pub assigned : List Entry → Expr → ℕ → ℕ
assigned v a n = value_of v a (max (width_of v a) n) (sign_of v a) % 2 ^ n

-- ---- well-formed expressions: the names stand in the valuation, lengths are from 1 to 64, a constant part-select stays in
-- its vector, and no divisor is 0 in a bound, a width or a count. A count below 1 gives a length of 0.

abbrev pub Stands : List Entry → Name → Type 0
Stands v x = IsSomeAnd (meaning_of v x) (λ k. IsLength k.width)

-- what a part-select asks of its two numbers
abbrev pub IsPart : Constant → Span → Operand → Operand → Type 0
IsPart k w.Fixed a b = IsTrue (own_defined a && own_defined b) × (pos k.low ≤ℤ own_integer b) × (own_integer a <ℤ pos (k.low + k.width))
IsPart k w.Up a b = IsTrue (own_defined b)
IsPart k w.Down a b = IsTrue (own_defined b)

abbrev mutual
  pub IsFormed : List Entry → Expr → Type 0
  IsFormed v (e.Number n) = IsLength (number_width n.size)
  IsFormed v (e.Name x) = Stands v x
  IsFormed v (e.Select' x h (more_of-Expr a end_of-Expr)) = Stands v x × IsFormed v a
  IsFormed v (e.Part' x span h (more_of-Expr a end_of-Expr) g (more_of-Expr b end_of-Expr)) =
      Stands v x × IsFormed v a × IsFormed v b × IsPart (named v x) span (operand_of v a) (operand_of v b)
      × IsLength (part_of (named v x) span (operand_of v a) (operand_of v b)).width
  IsFormed v (e.ConstantSelect' k h (more_of-Expr a end_of-Expr)) = IsLength k.width × IsFormed v a
  IsFormed v (e.ConstantPart' k span h (more_of-Expr a end_of-Expr) g (more_of-Expr b end_of-Expr)) =
      IsLength k.width × IsFormed v a × IsFormed v b × IsPart k span (operand_of v a) (operand_of v b)
      × IsLength (part_of k span (operand_of v a) (operand_of v b)).width
  IsFormed v (e.Cast' cast h (more_of-Expr a end_of-Expr)) = IsFormed v a
  IsFormed v (e.Paren' h (more_of-Expr a end_of-Expr)) = IsFormed v a
  IsFormed v (e.Concat' h row) = AllFormed v row × IsLength (row_of v row).width
  IsFormed v (e.Repeat' h (more_of-Expr a end_of-Expr) g row) =
      IsFormed v a × IsTrue (own_defined (operand_of v a)) × AllFormed v row × IsLength (repeated (operand_of v a) (row_of v row)).width
  IsFormed v (e.Unary' op h (more_of-Expr a end_of-Expr)) = IsFormed v a
  IsFormed v (e.Binary' op h (more_of-Expr a end_of-Expr) g (more_of-Expr b end_of-Expr)) = IsFormed v a × IsFormed v b
  IsFormed v (e.Choice' h (more_of-Expr c end_of-Expr) g (more_of-Expr a end_of-Expr) i (more_of-Expr b end_of-Expr)) =
      IsFormed v c × IsFormed v a × IsFormed v b

  pub AllFormed : {m : _} → List Entry → Row_of-Expr m → Type 0
  AllFormed v end_of-Expr = Unit {0}
  AllFormed v (more_of-Expr a rest) = IsFormed v a × AllFormed v rest

-- each name of an expression passes a test
abbrev mutual
  pub NamesOnly : (List ℕ → Bool) → Expr → Type 0
  NamesOnly p (e.Number n) = Unit {0}
  NamesOnly p (e.Name x) = IsTrue (p x.text)
  NamesOnly p (e.Select' x h (more_of-Expr a end_of-Expr)) = IsTrue (p x.text) × NamesOnly p a
  NamesOnly p (e.Part' x span h (more_of-Expr a end_of-Expr) g (more_of-Expr b end_of-Expr)) = IsTrue (p x.text) × NamesOnly p a × NamesOnly p b
  NamesOnly p (e.ConstantSelect' k h (more_of-Expr a end_of-Expr)) = NamesOnly p a
  NamesOnly p (e.ConstantPart' k span h (more_of-Expr a end_of-Expr) g (more_of-Expr b end_of-Expr)) = NamesOnly p a × NamesOnly p b
  NamesOnly p (e.Cast' cast h (more_of-Expr a end_of-Expr)) = NamesOnly p a
  NamesOnly p (e.Paren' h (more_of-Expr a end_of-Expr)) = NamesOnly p a
  NamesOnly p (e.Concat' h row) = AllNamesOnly p row
  NamesOnly p (e.Repeat' h (more_of-Expr a end_of-Expr) g row) = NamesOnly p a × AllNamesOnly p row
  NamesOnly p (e.Unary' op h (more_of-Expr a end_of-Expr)) = NamesOnly p a
  NamesOnly p (e.Binary' op h (more_of-Expr a end_of-Expr) g (more_of-Expr b end_of-Expr)) = NamesOnly p a × NamesOnly p b
  NamesOnly p (e.Choice' h (more_of-Expr c end_of-Expr) g (more_of-Expr a end_of-Expr) i (more_of-Expr b end_of-Expr)) =
      NamesOnly p c × NamesOnly p a × NamesOnly p b

  pub AllNamesOnly : {m : _} → (List ℕ → Bool) → Row_of-Expr m → Type 0
  AllNamesOnly p end_of-Expr = Unit {0}
  AllNamesOnly p (more_of-Expr a rest) = NamesOnly p a × AllNamesOnly p rest

-- the numbers of `[a:b]`, and the width of `+:` and `-:`, name parameters alone
abbrev pub IsPartConstant : (List ℕ → Bool) → Span → Expr → Expr → Type 0
IsPartConstant p w.Fixed a b = NamesOnly p a × NamesOnly p b
IsPartConstant p w.Up a b = NamesOnly p b
IsPartConstant p w.Down a b = NamesOnly p b

-- so do both operands of a division
abbrev pub IsDivisionConstant : (List ℕ → Bool) → Binary → Expr → Expr → Type 0
IsDivisionConstant p b.Div a c = NamesOnly p a × NamesOnly p c
IsDivisionConstant p b.Rem a c = NamesOnly p a × NamesOnly p c
IsDivisionConstant p op a c = Unit {0}

-- the parts that must be constant are so, the test being that of a parameter's name
abbrev mutual
  pub HasConstantParts : (List ℕ → Bool) → Expr → Type 0
  HasConstantParts p (e.Number n) = Unit {0}
  HasConstantParts p (e.Name x) = Unit {0}
  HasConstantParts p (e.Select' x h (more_of-Expr a end_of-Expr)) = HasConstantParts p a
  HasConstantParts p (e.Part' x span h (more_of-Expr a end_of-Expr) g (more_of-Expr b end_of-Expr)) =
      HasConstantParts p a × HasConstantParts p b × IsPartConstant p span a b
  HasConstantParts p (e.ConstantSelect' k h (more_of-Expr a end_of-Expr)) = HasConstantParts p a
  HasConstantParts p (e.ConstantPart' k span h (more_of-Expr a end_of-Expr) g (more_of-Expr b end_of-Expr)) =
      HasConstantParts p a × HasConstantParts p b × IsPartConstant p span a b
  HasConstantParts p (e.Cast' cast h (more_of-Expr a end_of-Expr)) = HasConstantParts p a
  HasConstantParts p (e.Paren' h (more_of-Expr a end_of-Expr)) = HasConstantParts p a
  HasConstantParts p (e.Concat' h row) = AllHaveConstantParts p row
  HasConstantParts p (e.Repeat' h (more_of-Expr a end_of-Expr) g row) = HasConstantParts p a × NamesOnly p a × AllHaveConstantParts p row
  HasConstantParts p (e.Unary' op h (more_of-Expr a end_of-Expr)) = HasConstantParts p a
  HasConstantParts p (e.Binary' op h (more_of-Expr a end_of-Expr) g (more_of-Expr b end_of-Expr)) =
      HasConstantParts p a × HasConstantParts p b × IsDivisionConstant p op a b
  HasConstantParts p (e.Choice' h (more_of-Expr c end_of-Expr) g (more_of-Expr a end_of-Expr) i (more_of-Expr b end_of-Expr)) =
      HasConstantParts p c × HasConstantParts p a × HasConstantParts p b

  pub AllHaveConstantParts : {m : _} → (List ℕ → Bool) → Row_of-Expr m → Type 0
  AllHaveConstantParts p end_of-Expr = Unit {0}
  AllHaveConstantParts p (more_of-Expr a rest) = HasConstantParts p a × AllHaveConstantParts p rest
