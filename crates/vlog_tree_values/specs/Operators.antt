-- The operators by what they make of their operands' numbers (IEEE 1364-2005, section 5.1 and table 5-22). The crate's lemmas show that
-- these are the operators of vlog_tree's definition.
use Rattle.std.specs.Prelude.{◌≡◌, ℕ, ◌+◌, ◌-◌, ◌*◌, ◌/◌, ◌%◌, ◌^◌, ◌&&◌, ◌||◌, not, nat_eq, Bool, true, false, ℤ, pos, int_lt, int_le, int_div, int_rem, max, min, bit_and, bit_or, bit_xor, count_ones, if◌then◌else◌}
use Rattle.vlog_tree.specs.declared.expr.Binary.{Binary}
use Rattle.vlog_tree.specs.declared.expr.Binary.TheVariants as b
use Rattle.vlog_tree.specs.declared.expr.Unary.{Unary}
use Rattle.vlog_tree.specs.declared.expr.Unary.TheVariants as u
use Rattle.vlog_tree.specs.Value.{is_negative, integer, cut, bit}
use Rattle.vlog_tree_values.specs.declared.operators.Family.{Family}
use Rattle.vlog_tree_values.specs.declared.operators.Family.TheVariants as f

-- how an operator takes its two operands
abbrev pub family_of : Binary → Family
family_of b.Mul = f.Arithmetic
family_of b.Div = f.Division
family_of b.Rem = f.Division
family_of b.Add = f.Arithmetic
family_of b.Sub = f.Arithmetic
family_of b.Shl = f.Shift
family_of b.Shr = f.Shift
family_of b.ArithmeticShl = f.Shift
family_of b.ArithmeticShr = f.Shift
family_of b.Less = f.Order
family_of b.LessEqual = f.Order
family_of b.Greater = f.Order
family_of b.GreaterEqual = f.Order
family_of b.Equal = f.Equality
family_of b.NotEqual = f.Equality
family_of b.BitAnd = f.Arithmetic
family_of b.BitXor = f.Arithmetic
family_of b.BitXnor = f.Arithmetic
family_of b.BitOr = f.Arithmetic
family_of b.LogicalAnd = f.Logic
family_of b.LogicalOr = f.Logic

-- two numbers of n bits give a number of n bits
abbrev pub arithmetic_of : Binary → ℕ → ℕ → ℕ → ℕ
arithmetic_of b.Mul n x y = x * y % 2 ^ n
arithmetic_of b.Add n x y = (x + y) % 2 ^ n
arithmetic_of b.Sub n x y = (x + 2 ^ n - y) % 2 ^ n
arithmetic_of b.BitAnd n x y = bit_and x y
arithmetic_of b.BitXor n x y = bit_xor x y
arithmetic_of b.BitXnor n x y = 2 ^ n - 1 - bit_xor x y
arithmetic_of b.BitOr n x y = bit_or x y
arithmetic_of op n x y = 0

-- two integers
abbrev pub quotient_of : Binary → ℤ → ℤ → ℤ
quotient_of b.Div i j = int_div i j
quotient_of b.Rem i j = int_rem i j
quotient_of op i j = pos 0

-- a number of n bits is moved by so many bits
abbrev pub shift_of : Binary → ℕ → Bool → ℕ → ℕ → ℕ
shift_of b.Shl n s x y = x * 2 ^ y % 2 ^ n
shift_of b.Shr n s x y = x / 2 ^ y
shift_of b.ArithmeticShl n s x y = x * 2 ^ y % 2 ^ n
shift_of b.ArithmeticShr n s x y = x / 2 ^ y + (if is_negative s n x then 2 ^ n - 2 ^ (n - y) else 0)
shift_of op n s x y = 0

-- two integers are compared
abbrev pub order_of : Binary → ℤ → ℤ → Bool
order_of b.Less i j = int_lt i j
order_of b.LessEqual i j = int_le i j
order_of b.Greater i j = int_lt j i
order_of b.GreaterEqual i j = int_le j i
order_of op i j = false

-- two numbers are
abbrev pub equality_of : Binary → ℕ → ℕ → Bool
equality_of b.Equal x y = nat_eq x y
equality_of b.NotEqual x y = not (nat_eq x y)
equality_of op x y = false

-- whether two conditions hold
abbrev pub logic_of : Binary → Bool → Bool → Bool
logic_of b.LogicalAnd x y = x && y
logic_of b.LogicalOr x y = x || y
logic_of op x y = false

-- a unary operator whose result is one bit
abbrev pub is_reduction : Unary → Bool
is_reduction u.Plus = false
is_reduction u.Minus = false
is_reduction u.BitNot = false
is_reduction op = true

-- a number of n bits gives a number of n bits
abbrev pub sign_change_of : Unary → ℕ → ℕ → ℕ
sign_change_of u.Plus n x = x
sign_change_of u.Minus n x = (2 ^ n - x) % 2 ^ n
sign_change_of u.BitNot n x = 2 ^ n - 1 - x
sign_change_of op n x = 0

-- a number of n bits gives one bit
abbrev pub reduction_of : Unary → ℕ → ℕ → Bool
reduction_of u.LogicalNot n x = nat_eq x 0
reduction_of u.ReduceAnd n x = nat_eq x (2 ^ n - 1)
reduction_of u.ReduceNand n x = not (nat_eq x (2 ^ n - 1))
reduction_of u.ReduceOr n x = not (nat_eq x 0)
reduction_of u.ReduceNor n x = nat_eq x 0
reduction_of u.ReduceXor n x = nat_eq (count_ones x % 2) 1
reduction_of u.ReduceXnor n x = nat_eq (count_ones x % 2) 0
reduction_of op n x = false

-- ---- where an operator of a family takes its operands, of m and n bits and with the signs t and u, in an expression of L bits and the sign s

abbrev pub left_width : Family → ℕ → ℕ → ℕ → ℕ
left_width f.Arithmetic L m n = L
left_width f.Division L m n = L
left_width f.Shift L m n = L
left_width f.Order L m n = max m n
left_width f.Equality L m n = max m n
left_width f.Logic L m n = m

abbrev pub right_width : Family → ℕ → ℕ → ℕ → ℕ
right_width f.Arithmetic L m n = L
right_width f.Division L m n = L
right_width f.Shift L m n = n
right_width f.Order L m n = max m n
right_width f.Equality L m n = max m n
right_width f.Logic L m n = n

abbrev pub left_sign : Family → Bool → Bool → Bool → Bool
left_sign f.Arithmetic s t u = s
left_sign f.Division s t u = s
left_sign f.Shift s t u = s
left_sign f.Order s t u = t && u
left_sign f.Equality s t u = t && u
left_sign f.Logic s t u = t

abbrev pub right_sign : Family → Bool → Bool → Bool → Bool
right_sign f.Arithmetic s t u = s
right_sign f.Division s t u = s
right_sign f.Shift s t u = u
right_sign f.Order s t u = t && u
right_sign f.Equality s t u = t && u
right_sign f.Logic s t u = u

-- the length and the sign of the whole
abbrev pub joined_width : Family → ℕ → ℕ → ℕ
joined_width f.Arithmetic m n = max m n
joined_width f.Division m n = max m n
joined_width f.Shift m n = m
joined_width f m n = 1

abbrev pub joined_sign : Family → Bool → Bool → Bool
joined_sign f.Arithmetic t u = t && u
joined_sign f.Division t u = t && u
joined_sign f.Shift t u = t
joined_sign f t u = false

-- whether an operand's own length and sign count: for where the operands are taken, and for the length and the sign of the whole
abbrev pub places_by_left : Family → Bool
places_by_left f.Order = true
places_by_left f.Equality = true
places_by_left f.Logic = true
places_by_left f = false

abbrev pub places_by_right : Family → Bool
places_by_right f.Arithmetic = false
places_by_right f.Division = false
places_by_right f = true

abbrev pub sizes_by_left : Family → Bool
sizes_by_left f.Arithmetic = true
sizes_by_left f.Division = true
sizes_by_left f.Shift = true
sizes_by_left f = false

abbrev pub sizes_by_right : Family → Bool
sizes_by_right f.Arithmetic = true
sizes_by_right f.Division = true
sizes_by_right f = false

-- its number, where the operands have the numbers x and y, the left one at k bits and the sign t
abbrev pub joined_number : Family → Binary → ℕ → Bool → ℕ → Bool → ℕ → ℕ → ℕ
joined_number f.Arithmetic op L s k t x y = arithmetic_of op L x y
joined_number f.Division op L s k t x y = cut L (quotient_of op (integer s L x) (integer s L y))
joined_number f.Shift op L s k t x y = shift_of op L s x (min y L)
joined_number f.Order op L s k t x y = bit (order_of op (integer t k x) (integer t k y))
joined_number f.Equality op L s k t x y = bit (equality_of op x y)
joined_number f.Logic op L s k t x y = bit (logic_of op (not (nat_eq x 0)) (not (nat_eq y 0)))

-- whether it is defined, where the operands are so by these tests and y is the right one's number
abbrev pub is_joined : Family → Bool → Bool → ℕ → Bool
is_joined f.Arithmetic a b y = a && b
is_joined f.Division a b y = a && b && not (nat_eq y 0)
is_joined f.Shift a b y = a && b
is_joined f.Order a b y = a && b
is_joined f.Equality a b y = a && b
is_joined f.Logic a b y = a && b

-- the same of a unary operator
abbrev pub inner_width : Unary → ℕ → ℕ → ℕ
inner_width op L m = if is_reduction op then m else L

abbrev pub inner_sign : Unary → Bool → Bool → Bool
inner_sign op s t = if is_reduction op then t else s

abbrev pub made_width : Unary → ℕ → ℕ
made_width op m = if is_reduction op then 1 else m

abbrev pub made_sign : Unary → Bool → Bool
made_sign op t = if is_reduction op then false else t

abbrev pub made_number : Unary → ℕ → ℕ → ℕ
made_number op n x = if is_reduction op then bit (reduction_of op n x) else sign_change_of op n x

-- the operands' lengths suit the expression's
abbrev pub PlacesFit : Family → ℕ → ℕ → ℕ → Type 0
PlacesFit f.Arithmetic L m n = (m ≡ L) × (n ≡ L)
PlacesFit f.Division L m n = (m ≡ L) × (n ≡ L)
PlacesFit f.Shift L m n = m ≡ L
PlacesFit f.Order L m n = m ≡ n
PlacesFit f.Equality L m n = m ≡ n
PlacesFit f.Logic L m n = Unit {0}
