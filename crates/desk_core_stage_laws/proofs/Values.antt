-- The value of an expression has no more bits than the length at which it is taken.
use Rattle.std.proofs.Common.{◌≡◌, ℕ, zero, suc, ◌+◌, ◌-◌, ◌*◌, ◌/◌, ◌%◌, ◌^◌, ◌<◌, ◌≤◌, min, max, Bool, true, false, nat_eq, nat_lt, List, sym, ap, ◌∙◌, subst, arith}
use Rattle.std.specs.Prelude.{if◌then◌else◌, ℤ, pos, negsuc, int_div, int_rem, int_lt, int_le, not, ◌&&◌, ◌-ℤ◌, ◌||◌, count_ones}
use Rattle.std.specs.Int.Bits.{and_lt}
use Rattle.std.proofs.Math.Nat.{mod-lt, div-le_self, div-lt_iff_lt-mul}
use Rattle.std.proofs.Math.Pow.{pow_mono}
use Rattle.std.proofs.lemmas.Nat.{pow_pos, pow-add, or_lt, xor_lt, mul-add-lt}
use Rattle.vlog_tree.specs.declared.expr.Binary.{Binary}
use Rattle.vlog_tree.specs.declared.expr.Binary.TheVariants as b
use Rattle.vlog_tree.specs.declared.expr.Constant.{Constant}
use Rattle.vlog_tree.specs.declared.expr.Expr.{Expr, Row_of-Expr, end_of-Expr, more_of-Expr}
use Rattle.vlog_tree.specs.declared.expr.Expr.TheVariants as e
use Rattle.vlog_tree.specs.declared.expr.Name.{Name as Read}
use Rattle.vlog_tree.specs.declared.expr.Span.{Span}
use Rattle.vlog_tree.specs.declared.expr.Unary.{Unary}
use Rattle.vlog_tree.specs.declared.expr.Unary.TheVariants as u
use Rattle.vlog_tree.specs.declared.valuation.Entry.{Entry}
use Rattle.vlog_tree.specs.Valuation.{named, depth_of, word_name}
use Rattle.vlog_tree.specs.Value.{number_width, bit, is_negative, integer, cut, natural, Operand, own, own_integer, own_defined, vector, plain, alone, unary_of, compared, matched, both_alone, binary_of, choice_of, cast_sign, joined, copies, moved_down, bits_of, part_width, part_low, part_of, bit_of, word_of, operand_of, row_of, width_of, own_value}

-- ---- numbers

pub wider : (x n m : ℕ) → n ≤ m → x < 2 ^ n → x < 2 ^ m
wider x n m le lt = let p : 2 ^ n ≤ 2 ^ m = pow_mono le in omega (arith, lt, p)

cut_fits : (n : ℕ) (i : ℤ) → cut n i < 2 ^ n
cut_fits n (pos x) = mod-lt x (pow_pos n)
cut_fits n (negsuc x) = let p : 0 < 2 ^ n = pow_pos n in omega (arith, p)

bit_fits : (t : Bool) → bit t < 2 ^ 1
bit_fits true = omega arith
bit_fits false = omega arith

either_fits : (t : Bool) (x y n : ℕ) → x < n → y < n → (if t then x else y) < n
either_fits true x y n h k = h
either_fits false x y n h k = k

extend_fits : (t : Bool) (n m x : ℕ) → n ≤ m → x < 2 ^ n → (if t then x + 2 ^ m - 2 ^ n else x) < 2 ^ m
extend_fits true n m x le lt = let p : 2 ^ n ≤ 2 ^ m = pow_mono le in omega (arith, lt, p)
extend_fits false n m x le lt = wider x n m le lt

-- two numbers one after another
joined_fits : (x y m n : ℕ) → x < 2 ^ m → y < 2 ^ n → x * 2 ^ n + y < 2 ^ (m + n)
joined_fits x y m n h k =
    let e : 2 ^ (m + n) ≡ 2 ^ n * 2 ^ m = ap (λ i. 2 ^ i) (omega arith) ∙ pow-add 2 n m in
    subst (λ i. x * 2 ^ n + y < i) (sym e) (mul-add-lt x (2 ^ n) y (2 ^ m) h k)

-- a number moved down, its top bit repeated
repeats_fits : (t : Bool) (x n y : ℕ) → y ≤ n → x < 2 ^ n → x / 2 ^ y + (if t then 2 ^ n - 2 ^ (n - y) else 0) < 2 ^ n
repeats_fits true x n y le lt =
    let e : 2 ^ n ≡ 2 ^ (n - y) * 2 ^ y = ap (λ i. 2 ^ i) (omega (arith, le)) ∙ pow-add 2 (n - y) y in
    let below : x / 2 ^ y < 2 ^ (n - y) = (div-lt_iff_lt-mul (pow_pos y)).1 (subst (λ i. x < i) e lt) in
    let p : 2 ^ (n - y) ≤ 2 ^ n = pow_mono (omega arith) in
    omega (arith, below, p)
repeats_fits false x n y le lt = let d : x / 2 ^ y ≤ x = div-le_self x (2 ^ y) in omega (arith, d, lt)

-- ---- operands

-- the value of an operand at each length from its own on
pub record Fits (a : Operand) : Type 0 where
  pub at : (n : ℕ) (s : Bool) → a.width ≤ n → a.value n s < 2 ^ n

pub own_fits : (a : Operand) → Fits a → own a < 2 ^ a.width
own_fits a h = h.at a.width a.signed (omega arith)

vector_fits : (n : ℕ) (signed : Bool) (x : ℕ) → x < 2 ^ n → Fits (vector n signed x)
vector_fits n signed x lt = record { at = λ m s le. extend_fits (is_negative s n x) n m x le lt }

plain_fits : (n x : ℕ) (defined : Bool) → x < 2 ^ n → Fits (plain n x defined)
plain_fits n x defined lt = record { at = λ m s le. wider x n m le lt }

test_fits : (t defined : Bool) → Fits (plain 1 (bit t) defined)
test_fits t defined = plain_fits 1 (bit t) defined (bit_fits t)

chosen_fits : (t : Bool) (a c : Operand) → Fits a → Fits c → Fits (if t then a else c)
chosen_fits true a c h k = h
chosen_fits false a c h k = k

pair_fits : (a c : Operand) → Fits a → Fits c → Fits (joined a c)
pair_fits a c h k = plain_fits (a.width + c.width) (own a * 2 ^ c.width + own c) (own_defined a && own_defined c) (joined_fits (own a) (own c) a.width c.width (own_fits a h) (own_fits c k))

copies_fits : (n : ℕ) (a : Operand) → Fits a → Fits (copies n a)
copies_fits zero a h = plain_fits 0 0 (own_defined a) (omega arith)
copies_fits (suc n) a h = pair_fits a (copies n a) h (copies_fits n a h)

-- ---- operators

alone_fits : (a : Operand) (f : ℕ → ℕ → Bool) → Fits (alone a f)
alone_fits a f = test_fits (f a.width (own a)) (own_defined a)

unary_fits : (op : Unary) (a : Operand) → Fits a → Fits (unary_of op a)
unary_fits u.Plus a h = record { at = λ n s le. h.at n s le }
unary_fits u.Minus a h = record { at = λ n s le. mod-lt (2 ^ n - a.value n s) (pow_pos n) }
unary_fits u.BitNot a h = record { at = λ n s le. let p : 0 < 2 ^ n = pow_pos n in omega (arith, p) }
unary_fits u.LogicalNot a h = alone_fits a (λ n x. nat_eq x 0)
unary_fits u.ReduceAnd a h = alone_fits a (λ n x. nat_eq x (2 ^ n - 1))
unary_fits u.ReduceNand a h = alone_fits a (λ n x. not (nat_eq x (2 ^ n - 1)))
unary_fits u.ReduceOr a h = alone_fits a (λ n x. not (nat_eq x 0))
unary_fits u.ReduceNor a h = alone_fits a (λ n x. nat_eq x 0)
unary_fits u.ReduceXor a h = alone_fits a (λ n x. nat_eq (count_ones x % 2) 1)
unary_fits u.ReduceXnor a h = alone_fits a (λ n x. nat_eq (count_ones x % 2) 0)

compared_fits : (a c : Operand) (f : ℤ → ℤ → Bool) → Fits (compared a c f)
compared_fits a c f =
    let n = max a.width c.width in
    let s = a.signed && c.signed in
    test_fits (f (integer s n (a.value n s)) (integer s n (c.value n s))) (a.defined n s && c.defined n s)

matched_fits : (a c : Operand) (f : ℕ → ℕ → Bool) → Fits (matched a c f)
matched_fits a c f =
    let n = max a.width c.width in
    let s = a.signed && c.signed in
    test_fits (f (a.value n s) (c.value n s)) (a.defined n s && c.defined n s)

both_fits : (a c : Operand) (f : Bool → Bool → Bool) → Fits (both_alone a c f)
both_fits a c f = test_fits (f (not (nat_eq (own a) 0)) (not (nat_eq (own c) 0))) (own_defined a && own_defined c)

binary_fits : (op : Binary) (a c : Operand) → Fits a → Fits c → Fits (binary_of op a c)
binary_fits b.Mul a c h k = record { at = λ n s le. mod-lt (a.value n s * c.value n s) (pow_pos n) }
binary_fits b.Div a c h k = record { at = λ n s le. cut_fits n (int_div (integer s n (a.value n s)) (integer s n (c.value n s))) }
binary_fits b.Rem a c h k = record { at = λ n s le. cut_fits n (int_rem (integer s n (a.value n s)) (integer s n (c.value n s))) }
binary_fits b.Add a c h k = record { at = λ n s le. mod-lt (a.value n s + c.value n s) (pow_pos n) }
binary_fits b.Sub a c h k = record { at = λ n s le. mod-lt (a.value n s + 2 ^ n - c.value n s) (pow_pos n) }
binary_fits b.Shl a c h k = record { at = λ n s le. mod-lt (a.value n s * 2 ^ (min (own c) n)) (pow_pos n) }
binary_fits b.Shr a c h k = record { at = λ n s le. let d : a.value n s / 2 ^ (min (own c) n) ≤ a.value n s = div-le_self (a.value n s) (2 ^ (min (own c) n)) in omega (arith, d, h.at n s le) }
binary_fits b.ArithmeticShl a c h k = record { at = λ n s le. mod-lt (a.value n s * 2 ^ (min (own c) n)) (pow_pos n) }
binary_fits b.ArithmeticShr a c h k =
    record { at = λ n s le. repeats_fits (is_negative s n (a.value n s)) (a.value n s) n (min (own c) n) (omega arith) (h.at n s le) }
binary_fits b.Less a c h k = compared_fits a c int_lt
binary_fits b.LessEqual a c h k = compared_fits a c int_le
binary_fits b.Greater a c h k = compared_fits a c (λ x y. int_lt y x)
binary_fits b.GreaterEqual a c h k = compared_fits a c (λ x y. int_le y x)
binary_fits b.Equal a c h k = matched_fits a c nat_eq
binary_fits b.NotEqual a c h k = matched_fits a c (λ x y. not (nat_eq x y))
binary_fits b.BitAnd a c h k = record { at = λ n s le. and_lt n (a.value n s) (c.value n s) (h.at n s (omega (arith, le))) (k.at n s (omega (arith, le))) }
binary_fits b.BitXor a c h k = record { at = λ n s le. xor_lt n (a.value n s) (c.value n s) (h.at n s (omega (arith, le))) (k.at n s (omega (arith, le))) }
binary_fits b.BitXnor a c h k = record { at = λ n s le. let p : 0 < 2 ^ n = pow_pos n in omega (arith, p) }
binary_fits b.BitOr a c h k = record { at = λ n s le. or_lt n (a.value n s) (c.value n s) (h.at n s (omega (arith, le))) (k.at n s (omega (arith, le))) }
binary_fits b.LogicalAnd a c h k = both_fits a c (λ x y. x && y)
binary_fits b.LogicalOr a c h k = both_fits a c (λ x y. x || y)

choice_fits : (o a c : Operand) → Fits a → Fits c → Fits (choice_of o a c)
choice_fits o a c h k =
    record { at = λ n s le. either_fits (nat_eq (own o) 0) (c.value n s) (a.value n s) (2 ^ n) (k.at n s (omega (arith, le))) (h.at n s (omega (arith, le))) }

-- ---- selects

bits_fit : (k : Constant) (i : ℤ) (n : ℕ) → bits_of k i n < 2 ^ n
bits_fit k i n = mod-lt (moved_down (i -ℤ pos k.low) (k.value % 2 ^ k.width)) (pow_pos n)

bit_of_fits : (k : Constant) (a : Operand) → Fits (bit_of k a)
bit_of_fits k a = plain_fits 1 (bits_of k (own_integer a) 1) (own_defined a) (bits_fit k (own_integer a) 1)

part_fits : (k : Constant) (span : Span) (a c : Operand) → Fits (part_of k span a c)
part_fits k span a c =
    let n = part_width span (own_integer a) (own_integer c) in
    let i = part_low span (own_integer a) (own_integer c) in
    plain_fits n (bits_of k i n) (own_defined a && own_defined c) (bits_fit k i n)

word_fits : (v : List Entry) (x : Read) (a : Operand) → Fits (word_of v x a)
word_fits v x a =
    let w = (named v x).width in
    let k = (named v (word_name x (own a))).value in
    plain_fits w (if nat_lt (own a) (depth_of v x) then k % 2 ^ w else 0) (own_defined a)
    (either_fits (nat_lt (own a) (depth_of v x)) (k % 2 ^ w) 0 (2 ^ w) (mod-lt k (pow_pos w)) (pow_pos w))

-- ---- expressions

module _ (v : List Entry) (names : (x : Read) → (named v x).value < 2 ^ (named v x).width) where
  mutual
    pub value_fits : (a : Expr) → Fits (operand_of v a)
    value_fits (e.Number n) = vector_fits (number_width n.size) n.signed (n.value % 2 ^ number_width n.size) (mod-lt n.value (pow_pos (number_width n.size)))
    value_fits (e.Name x) = vector_fits (named v x).width (named v x).signed (named v x).value (names x)
    value_fits (e.Select' x h (more_of-Expr a end_of-Expr)) =
        chosen_fits (nat_eq (depth_of v x) 0) (bit_of (named v x) (operand_of v a)) (word_of v x (operand_of v a)) (bit_of_fits (named v x) (operand_of v a)) (word_fits v x (operand_of v a))
    value_fits (e.Part' x span h (more_of-Expr a end_of-Expr) g (more_of-Expr c end_of-Expr)) = part_fits (named v x) span (operand_of v a) (operand_of v c)
    value_fits (e.ConstantSelect' k h (more_of-Expr a end_of-Expr)) = bit_of_fits k (operand_of v a)
    value_fits (e.ConstantPart' k span h (more_of-Expr a end_of-Expr) g (more_of-Expr c end_of-Expr)) = part_fits k span (operand_of v a) (operand_of v c)
    value_fits (e.Cast' cast h (more_of-Expr a end_of-Expr)) =
        record { at = (vector_fits (width_of v a) (cast_sign cast) (own_value v a) (own_fits (operand_of v a) (value_fits a))).at }
    value_fits (e.Paren' h (more_of-Expr a end_of-Expr)) = value_fits a
    value_fits (e.Concat' h row) = row_fits row
    value_fits (e.Repeat' h (more_of-Expr a end_of-Expr) g row) = record { at = (copies_fits (natural (own_integer (operand_of v a))) (row_of v row) (row_fits row)).at }
    value_fits (e.Unary' op h (more_of-Expr a end_of-Expr)) = unary_fits op (operand_of v a) (value_fits a)
    value_fits (e.Binary' op h (more_of-Expr a end_of-Expr) g (more_of-Expr c end_of-Expr)) = binary_fits op (operand_of v a) (operand_of v c) (value_fits a) (value_fits c)
    value_fits (e.Choice' h (more_of-Expr o end_of-Expr) g (more_of-Expr a end_of-Expr) i (more_of-Expr c end_of-Expr)) =
        choice_fits (operand_of v o) (operand_of v a) (operand_of v c) (value_fits a) (value_fits c)

    row_fits : {m : _} (row : Row_of-Expr m) → Fits (row_of v row)
    row_fits end_of-Expr = plain_fits 0 0 true (omega arith)
    row_fits (more_of-Expr a rest) = pair_fits (operand_of v a) (row_of v rest) (value_fits a) (row_fits rest)

  -- by itself it is below 2 to the power of its length
  pub own_value_fits : (a : Expr) → own_value v a < 2 ^ width_of v a
  own_value_fits a = own_fits (operand_of v a) (value_fits a)
