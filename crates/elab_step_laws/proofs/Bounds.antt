-- The value of an expression is below 2 to the length that it is taken at.
use Rattle.std.proofs.Common.{arith, ◌≡◌, ℕ, zero, suc, ◌+◌, ◌-◌, ◌*◌, ◌/◌, ◌^◌, ◌<◌, ◌≤◌, max, min, Bool, true, false, List, sym, ap, ◌∙◌, subst, ℤ, pos, negsuc}
use Rattle.std.specs.Prelude.{nat_eq, if◌then◌else◌, bit_and}
use Rattle.std.proofs.lemmas.Nat.{pow_pos, pow-add, and_le_l, or_lt, xor_lt}
use Rattle.std.proofs.Math.Nat.{mod-lt, div-le_self, mul-le-mul_right, div-lt_iff_lt-mul}
use Rattle.std.proofs.Math.Pow.{pow_mono}
use Rattle.vlog_tree.specs.declared.expr.Binary.{Binary}
use Rattle.vlog_tree.specs.declared.expr.Binary.TheVariants as b
use Rattle.vlog_tree.specs.declared.expr.Constant.{Constant}
use Rattle.vlog_tree.specs.declared.expr.Expr.{Expr, Row_of-Expr, end_of-Expr, more_of-Expr}
use Rattle.vlog_tree.specs.declared.expr.Expr.TheVariants as e
use Rattle.vlog_tree.specs.declared.expr.Name.{Name as Read}
use Rattle.vlog_tree.specs.declared.expr.Unary.{Unary}
use Rattle.vlog_tree.specs.declared.expr.Unary.TheVariants as u
use Rattle.vlog_tree.specs.declared.valuation.Entry.{Entry}
use Rattle.vlog_tree.specs.Valuation.{named, depth_of}
use Rattle.vlog_tree.specs.Value.{Operand, operand_of, row_of, own, own_integer, natural, bit, is_negative, extend, cut, unary_of, binary_of, joined, copies, bit_of, bits_of, word_of}
use Rattle.elab_step_laws.proofs.Staying.{chosen}

-- at each length that is not below its own
abbrev pub Bounded : Operand → Type 0
Bounded o = (n : ℕ) (s : Bool) → o.width ≤ n → o.value n s < 2 ^ n

raised : (x k n : ℕ) → x < 2 ^ k → k ≤ n → x < 2 ^ n
raised x k n h l = omega (arith, h, pow_mono {i = k} {j = n} l)

one_bit : (t : Bool) (n : ℕ) → 1 ≤ n → bit t < 2 ^ n
one_bit true n l = omega (arith, pow_mono {i = 1} {j = n} l)
one_bit false n l = pow_pos n

extended : (s : Bool) (k n x : ℕ) → x < 2 ^ k → k ≤ n → extend s k n x < 2 ^ n
extended s k n x h l = chosen (λ z. z < 2 ^ n) (is_negative s k x) (x + 2 ^ n - 2 ^ k) x (omega (arith, h, pow_mono {i = k} {j = n} l)) (raised x k n h l)

cut_below : (n : ℕ) (z : ℤ) → cut n z < 2 ^ n
cut_below n (pos x) = mod-lt x (pow_pos n)
cut_below n (negsuc x) = omega (arith, pow_pos n)

and_below : (n x y : ℕ) → x < 2 ^ n → y < 2 ^ n → bit_and x y < 2 ^ n
and_below n x y h g = omega (arith, h, and_le_l x y)

less_by_half : (x y n : ℕ) → x < 2 ^ n → x / 2 ^ y < 2 ^ n
less_by_half x y n h = omega (arith, h, div-le_self x (2 ^ y))

pub bounded_own : (o : Operand) → Bounded o → own o < 2 ^ o.width
bounded_own o h = h o.width o.signed (omega arith)

unary_bounded : (op : Unary) (a : Operand) → Bounded a → Bounded (unary_of op a)
unary_bounded u.Plus a h n s l = h n s l
unary_bounded u.Minus a h n s l = mod-lt _ (pow_pos n)
unary_bounded u.BitNot a h n s l = omega (arith, pow_pos n)
unary_bounded u.LogicalNot a h n s l = one_bit _ n l
unary_bounded u.ReduceAnd a h n s l = one_bit _ n l
unary_bounded u.ReduceNand a h n s l = one_bit _ n l
unary_bounded u.ReduceOr a h n s l = one_bit _ n l
unary_bounded u.ReduceNor a h n s l = one_bit _ n l
unary_bounded u.ReduceXor a h n s l = one_bit _ n l
unary_bounded u.ReduceXnor a h n s l = one_bit _ n l

-- a number moved down, and its sign moved in
filled : (s : Bool) (n x y : ℕ) → x < 2 ^ n → y ≤ n → x / 2 ^ y + (if is_negative s n x then 2 ^ n - 2 ^ (n - y) else 0) < 2 ^ n
filled s n x y h l =
    chosen (λ z. x / 2 ^ y + z < 2 ^ n) (is_negative s n x) (2 ^ n - 2 ^ (n - y)) 0
    (omega (arith, below, pow_mono {i = n - y} {j = n} (omega arith)))
    (omega (arith, less_by_half x y n h))
  where
    whole : 2 ^ (n - y) * 2 ^ y ≡ 2 ^ n
    whole = let k : n - y + y ≡ n = omega (arith, l) in sym (pow-add 2 (n - y) y) ∙ ap (λ m. 2 ^ m) k

    below : x / 2 ^ y < 2 ^ (n - y)
    below = (div-lt_iff_lt-mul {k = 2 ^ y} {x = x} {y = 2 ^ (n - y)} (pow_pos y)).1 (omega (arith, h, whole))

module _ (a c : Operand) (h : Bounded a) (g : Bounded c) (n : ℕ) (s : Bool) where
  left_fits : max a.width c.width ≤ n → a.value n s < 2 ^ n
  left_fits l = h n s (omega (arith, l))

  right_fits : max a.width c.width ≤ n → c.value n s < 2 ^ n
  right_fits l = g n s (omega (arith, l))

binary_bounded : (op : Binary) (a c : Operand) → Bounded a → Bounded c → Bounded (binary_of op a c)
binary_bounded b.Mul a c h g n s l = mod-lt _ (pow_pos n)
binary_bounded b.Div a c h g n s l = cut_below n _
binary_bounded b.Rem a c h g n s l = cut_below n _
binary_bounded b.Add a c h g n s l = mod-lt _ (pow_pos n)
binary_bounded b.Sub a c h g n s l = mod-lt _ (pow_pos n)
binary_bounded b.Shl a c h g n s l = mod-lt _ (pow_pos n)
binary_bounded b.Shr a c h g n s l = less_by_half (a.value n s) (min (own c) n) n (h n s l)
binary_bounded b.ArithmeticShl a c h g n s l = mod-lt _ (pow_pos n)
binary_bounded b.ArithmeticShr a c h g n s l = filled s n (a.value n s) (min (own c) n) (h n s l) (omega arith)
binary_bounded b.Less a c h g n s l = one_bit _ n l
binary_bounded b.LessEqual a c h g n s l = one_bit _ n l
binary_bounded b.Greater a c h g n s l = one_bit _ n l
binary_bounded b.GreaterEqual a c h g n s l = one_bit _ n l
binary_bounded b.Equal a c h g n s l = one_bit _ n l
binary_bounded b.NotEqual a c h g n s l = one_bit _ n l
binary_bounded b.BitAnd a c h g n s l = and_below n (a.value n s) (c.value n s) (left_fits a c h g n s l) (right_fits a c h g n s l)
binary_bounded b.BitXor a c h g n s l = xor_lt n (a.value n s) (c.value n s) (left_fits a c h g n s l) (right_fits a c h g n s l)
binary_bounded b.BitXnor a c h g n s l = omega (arith, pow_pos n)
binary_bounded b.BitOr a c h g n s l = or_lt n (a.value n s) (c.value n s) (left_fits a c h g n s l) (right_fits a c h g n s l)
binary_bounded b.LogicalAnd a c h g n s l = one_bit _ n l
binary_bounded b.LogicalOr a c h g n s l = one_bit _ n l

joined_bounded : (a c : Operand) → Bounded a → Bounded c → Bounded (joined a c)
joined_bounded a c h g n s l =
    let p = bounded_own a h in
    let q = bounded_own c g in
    let e = pow-add 2 a.width c.width in
    let m : (own a + 1) * 2 ^ c.width ≤ 2 ^ a.width * 2 ^ c.width = mul-le-mul_right (2 ^ c.width) (omega (arith, p)) in
    raised (own a * 2 ^ c.width + own c) (a.width + c.width) n (omega (arith, q, m, e, one_more (own a) (2 ^ c.width))) l
  where
    one_more : (k p : ℕ) → (k + 1) * p ≡ k * p + p
    one_more k p = grind arith

copies_bounded : (k : ℕ) (a : Operand) → Bounded a → Bounded (copies k a)
copies_bounded zero a h n s l = pow_pos n
copies_bounded (suc k) a h n s l = joined_bounded a (copies k a) h (copies_bounded k a h) n s l

pub bits_bounded : (k : Constant) (i : ℤ) (m n : ℕ) → m ≤ n → bits_of k i m < 2 ^ n
bits_bounded k i m n l = raised _ m n (mod-lt _ (pow_pos m)) l

-- names have values of their lengths, and none is a memory's
pub record AllFit (v : List Entry) : Type 0 where
  pub fits : (x : Read) → (named v x).value < 2 ^ (named v x).width
  pub plain : (x : Read) → depth_of v x ≡ 0

module _ (v : List Entry) (m : AllFit v) where
  mutual
    pub bounded : (a : Expr) → Bounded (operand_of v a)
    bounded (e.Number k) = λ n s l. extended s _ n _ (mod-lt _ (pow_pos _)) l
    bounded (e.Name x) = λ n s l. extended s _ n _ (m.fits x) l
    bounded (e.Select' x h (more_of-Expr a end_of-Expr)) =
        subst (λ (k : ℕ). Bounded (if nat_eq k 0 then bit_of (named v x) (operand_of v a) else word_of v x (operand_of v a))) (sym (m.plain x))
        (λ n s l. bits_bounded (named v x) _ 1 n l)
    bounded (e.Part' x span h (more_of-Expr a end_of-Expr) g (more_of-Expr c end_of-Expr)) = λ n s l. bits_bounded (named v x) _ _ n l
    bounded (e.ConstantSelect' k h (more_of-Expr a end_of-Expr)) = λ n s l. bits_bounded k _ 1 n l
    bounded (e.ConstantPart' k span h (more_of-Expr a end_of-Expr) g (more_of-Expr c end_of-Expr)) = λ n s l. bits_bounded k _ _ n l
    bounded (e.Cast' cast h (more_of-Expr a end_of-Expr)) = λ n s l. extended s _ n _ (bounded_own (operand_of v a) (bounded a)) l
    bounded (e.Paren' h (more_of-Expr a end_of-Expr)) = bounded a
    bounded (e.Concat' h row) = row_bounded row
    bounded (e.Repeat' h (more_of-Expr a end_of-Expr) g row) = copies_bounded (natural (own_integer (operand_of v a))) (row_of v row) (row_bounded row)
    bounded (e.Unary' op h (more_of-Expr a end_of-Expr)) = unary_bounded op (operand_of v a) (bounded a)
    bounded (e.Binary' op h (more_of-Expr a end_of-Expr) g (more_of-Expr c end_of-Expr)) = binary_bounded op (operand_of v a) (operand_of v c) (bounded a) (bounded c)
    bounded (e.Choice' h (more_of-Expr x end_of-Expr) g (more_of-Expr a end_of-Expr) i (more_of-Expr c end_of-Expr)) = λ n s l.
        chosen (λ z. z < 2 ^ n) (nat_eq (own (operand_of v x)) 0) ((operand_of v c).value n s) ((operand_of v a).value n s)
        (right_fits (operand_of v a) (operand_of v c) (bounded a) (bounded c) n s l)
        (left_fits (operand_of v a) (operand_of v c) (bounded a) (bounded c) n s l)

    pub row_bounded : {k : _} (row : Row_of-Expr k) → Bounded (row_of v row)
    row_bounded end_of-Expr = λ n s l. pow_pos n
    row_bounded (more_of-Expr a rest) = joined_bounded (operand_of v a) (row_of v rest) (bounded a) (row_bounded rest)
