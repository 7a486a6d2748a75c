-- The forms of resets by heads, and what blocks with edges wait for.
use Rattle.std.proofs.Common.{◌≡◌, true, false, Option, None, refl, sym, ap, ◌∙◌, if◌then◌else◌}
use Rattle.std.specs.Prelude.{nat_eq}
use Rattle.vlog_tree.specs.declared.expr.Binary.{Binary}
use Rattle.vlog_tree.specs.declared.expr.Binary.TheVariants as b
use Rattle.vlog_tree.specs.declared.expr.Expr.{Expr, end_of-Expr, more_of-Expr}
use Rattle.vlog_tree.specs.declared.expr.Expr.TheVariants as e
use Rattle.vlog_tree.specs.declared.expr.Unary.{Unary}
use Rattle.vlog_tree.specs.declared.expr.Unary.TheVariants as u
use Rattle.vlog_tree_runs.specs.Places.{Name}
use Rattle.elab_flat_faults.specs.Clocks.{Reset, reset_if, is_bit, negated, level_of, reset_of}
use Rattle.elab_flat_clocks.specs.Heads.{Head, IsName, IsNumber, IsUnary, IsBinary, IsOther, head_of}
use Rattle.elab_flat_clocks.specs.Timings.{is_not, is_equal}

-- ---- heads

abbrev pub low_of : Head → Option Reset
low_of (IsName x) = reset_if true x false
low_of (IsNumber n) = None
low_of (IsUnary op a) = None
low_of (IsBinary op a c) = None
low_of IsOther = None

abbrev pub at_value : Name → Head → Option Reset
at_value x (IsNumber n) = reset_if (is_bit n) x (nat_eq n.value 1)
at_value x (IsName y) = None
at_value x (IsUnary op a) = None
at_value x (IsBinary op a c) = None
at_value x IsOther = None

abbrev pub equal_of : Head → Head → Option Reset
equal_of (IsName x) h = at_value x h
equal_of (IsNumber n) h = None
equal_of (IsUnary op a) h = None
equal_of (IsBinary op a c) h = None
equal_of IsOther h = None

abbrev pub reset_by_head : Head → Option Reset
reset_by_head (IsName x) = reset_if true x true
reset_by_head (IsNumber n) = None
reset_by_head (IsUnary op a) = negated op a
reset_by_head (IsBinary op a c) = level_of op a c
reset_by_head IsOther = None

negated_is : (op : Unary) (a : Expr) → negated op a ≡ (if is_not op then low_of (head_of a) else None)
negated_is u.LogicalNot (e.Name x) = refl
negated_is u.LogicalNot (e.Unary' o h (more_of-Expr a end_of-Expr)) = refl
negated_is u.LogicalNot (e.Binary' o h (more_of-Expr a end_of-Expr) g (more_of-Expr c end_of-Expr)) = refl
negated_is u.BitNot (e.Name x) = refl
negated_is u.BitNot (e.Unary' o h (more_of-Expr a end_of-Expr)) = refl
negated_is u.BitNot (e.Binary' o h (more_of-Expr a end_of-Expr) g (more_of-Expr c end_of-Expr)) = refl
negated_is op a = refl

level_is : (op : Binary) (a c : Expr) → level_of op a c ≡ (if is_equal op then equal_of (head_of a) (head_of c) else None)
level_is b.Equal (e.Name x) (e.Number n) = refl
level_is b.Equal (e.Name x) (e.Unary' o h (more_of-Expr a end_of-Expr)) = refl
level_is b.Equal (e.Name x) (e.Binary' o h (more_of-Expr a end_of-Expr) g (more_of-Expr d end_of-Expr)) = refl
level_is b.Equal (e.Unary' o h (more_of-Expr a end_of-Expr)) c = refl
level_is b.Equal (e.Binary' o h (more_of-Expr a end_of-Expr) g (more_of-Expr d end_of-Expr)) c = refl
level_is op a c = refl

reset_is : (a : Expr) → reset_of a ≡ reset_by_head (head_of a)
reset_is (e.Name x) = refl
reset_is (e.Unary' o h (more_of-Expr a end_of-Expr)) = refl
reset_is (e.Binary' o h (more_of-Expr a end_of-Expr) g (more_of-Expr c end_of-Expr)) = refl
reset_is a = refl

pub negated_by : (op : Unary) (a : Expr) (h : Head) → is_not op ≡ true → h ≡ head_of a → low_of h ≡ negated op a
negated_by op a h t same = ap low_of same ∙ sym (negated_is op a ∙ ap (λ z. if z then low_of (head_of a) else None) t)

pub level_by : (op : Binary) (a c : Expr) (h g : Head) → is_equal op ≡ true → h ≡ head_of a → g ≡ head_of c → equal_of h g ≡ level_of op a c
level_by op a c h g t same other = (λ i. equal_of (same i) (other i)) ∙ sym (level_is op a c ∙ ap (λ z. if z then equal_of (head_of a) (head_of c) else None) t)

pub reset_from : (a : Expr) (h : Head) → h ≡ head_of a → reset_by_head h ≡ reset_of a
reset_from a h same = ap reset_by_head same ∙ sym (reset_is a)
