-- Tokens by their place, and the signs of the operators with how tightly they bind.
use Rattle.std.specs.Prelude.{ℕ, List, Option, Some, None, Bool, false, if◌then◌else◌, ◌≡◌, ◌||◌, codes, slice_get}
use Rattle.std.specs.Str.{bytes_eq}
use Rattle.std.specs.Option.{option_map}
use Rattle.vlog_tree.specs.declared.expr.Binary.{Binary}
use Rattle.vlog_tree.specs.declared.expr.Binary.TheVariants as b
use Rattle.vlog_tree.specs.declared.expr.Unary.{Unary}
use Rattle.vlog_tree.specs.declared.expr.Unary.TheVariants as u
use Rattle.vlog_tree.specs.declared.expr.Infix.{Infix}
use Rattle.vlog_tree.specs.declared.expr.Infix.TheVariants as x
use Rattle.vlog_tree.specs.declared.expr.Cast.{Cast}
use Rattle.vlog_tree.specs.declared.expr.Cast.TheVariants as c
use Rattle.vlog_tree.specs.declared.expr.Span.{Span}
use Rattle.vlog_tree.specs.declared.expr.Span.TheVariants as w
use Rattle.vlog_tree.specs.declared.token.Kind.{Kind}
use Rattle.vlog_tree.specs.declared.token.Kind.TheVariants as k
use Rattle.vlog_tree.specs.declared.token.Token.{Token}

-- the kind of the token at a place, and None at the end
unfoldable pub kind_at : List Token → ℕ → Option Kind
kind_at ts i = option_map (λ t. t.kind) (slice_get ts i)

abbrev pub IsSign : List Token → ℕ → List ℕ → Type 0
IsSign ts i sign = kind_at ts i ≡ Some (k.Sign sign)

abbrev pub IsWord : List Token → ℕ → List ℕ → Type 0
IsWord ts i word = kind_at ts i ≡ Some (k.Word word)

-- the words of the module grammar
unfoldable pub is_keyword : List ℕ → Bool
is_keyword w =
    bytes_eq w (codes "always") || bytes_eq w (codes "assign") || bytes_eq w (codes "begin") || bytes_eq w (codes "case") || bytes_eq w (codes "casez") || bytes_eq w (codes "default") ||
    bytes_eq w (codes "else") || bytes_eq w (codes "end") || bytes_eq w (codes "endcase") || bytes_eq w (codes "endmodule") || bytes_eq w (codes "if") || bytes_eq w (codes "input") ||
    bytes_eq w (codes "localparam") || bytes_eq w (codes "module") || bytes_eq w (codes "negedge") || bytes_eq w (codes "or") || bytes_eq w (codes "output") || bytes_eq w (codes "parameter") ||
    bytes_eq w (codes "posedge") || bytes_eq w (codes "reg") || bytes_eq w (codes "signed") || bytes_eq w (codes "wire")

-- the words that are no names in a text of modules (`set` false) or of a set (`set` true)
unfoldable pub is_reserved : Bool → List ℕ → Bool
is_reserved set w = bytes_eq w (codes "$signed") || bytes_eq w (codes "$unsigned") || (if set then false else is_keyword w)

-- the binary operators, with their signs; a set has neither `/` nor `%`
unfoldable pub infix_of : Bool → List ℕ → Option Infix
infix_of set s =
    if bytes_eq s (codes "*") then Some (x.Binary b.Mul) else (
    if bytes_eq s (codes "/") then (if set then None else Some (x.Binary b.Div)) else (
    if bytes_eq s (codes "%") then (if set then None else Some (x.Binary b.Rem)) else (
    if bytes_eq s (codes "+") then Some (x.Binary b.Add) else (
    if bytes_eq s (codes "-") then Some (x.Binary b.Sub) else (
    if bytes_eq s (codes "<<") then Some (x.Binary b.Shl) else (
    if bytes_eq s (codes ">>") then Some (x.Binary b.Shr) else (
    if bytes_eq s (codes "<<<") then Some (x.Binary b.ArithmeticShl) else (
    if bytes_eq s (codes ">>>") then Some (x.Binary b.ArithmeticShr) else (
    if bytes_eq s (codes "<") then Some (x.Binary b.Less) else (
    if bytes_eq s (codes "<=") then Some (x.Binary b.LessEqual) else (
    if bytes_eq s (codes ">") then Some (x.Binary b.Greater) else (
    if bytes_eq s (codes ">=") then Some (x.Binary b.GreaterEqual) else (
    if bytes_eq s (codes "==") then Some (x.Binary b.Equal) else (
    if bytes_eq s (codes "!=") then Some (x.Binary b.NotEqual) else (
    if bytes_eq s (codes "&") then Some (x.Binary b.BitAnd) else (
    if bytes_eq s (codes "^") then Some (x.Binary b.BitXor) else (
    if bytes_eq s (codes "^~") then Some (x.Binary b.BitXnor) else (
    if bytes_eq s (codes "~^") then Some (x.Binary b.BitXnor) else (
    if bytes_eq s (codes "|") then Some (x.Binary b.BitOr) else (
    if bytes_eq s (codes "&&") then Some (x.Binary b.LogicalAnd) else (
    if bytes_eq s (codes "||") then Some (x.Binary b.LogicalOr) else (
    if bytes_eq s (codes "?") then Some x.Choice else None))))))))))))))))))))))

-- how tightly an operator binds: the choice at 1 least, a unary operator at 12
abbrev pub binary_level : Binary → ℕ
binary_level b.Mul = 11
binary_level b.Div = 11
binary_level b.Rem = 11
binary_level b.Add = 10
binary_level b.Sub = 10
binary_level b.Shl = 9
binary_level b.Shr = 9
binary_level b.ArithmeticShl = 9
binary_level b.ArithmeticShr = 9
binary_level b.Less = 8
binary_level b.LessEqual = 8
binary_level b.Greater = 8
binary_level b.GreaterEqual = 8
binary_level b.Equal = 7
binary_level b.NotEqual = 7
binary_level b.BitAnd = 6
binary_level b.BitXor = 5
binary_level b.BitXnor = 5
binary_level b.BitOr = 4
binary_level b.LogicalAnd = 3
binary_level b.LogicalOr = 2

abbrev pub infix_level : Infix → ℕ
infix_level (x.Binary op) = binary_level op
infix_level x.Choice = 1

unfoldable pub unary_of : List ℕ → Option Unary
unary_of s =
    if bytes_eq s (codes "+") then Some u.Plus else (
    if bytes_eq s (codes "-") then Some u.Minus else (
    if bytes_eq s (codes "!") then Some u.LogicalNot else (
    if bytes_eq s (codes "~") then Some u.BitNot else (
    if bytes_eq s (codes "&") then Some u.ReduceAnd else (
    if bytes_eq s (codes "~&") then Some u.ReduceNand else (
    if bytes_eq s (codes "|") then Some u.ReduceOr else (
    if bytes_eq s (codes "~|") then Some u.ReduceNor else (
    if bytes_eq s (codes "^") then Some u.ReduceXor else (
    if bytes_eq s (codes "~^") then Some u.ReduceXnor else (
    if bytes_eq s (codes "^~") then Some u.ReduceXnor else None))))))))))

abbrev pub on_sign : {A : Type 0} → (List ℕ → Option A) → Option Kind → Option A
on_sign f (Some (k.Sign s)) = f s
on_sign f _ = None

abbrev pub infix_at : Bool → List Token → ℕ → Option Infix
infix_at set ts i = on_sign (infix_of set) (kind_at ts i)

abbrev pub unary_at : List Token → ℕ → Option Unary
unary_at ts i = on_sign unary_of (kind_at ts i)

-- `$signed` and `$unsigned`
unfoldable pub cast_of : List ℕ → Option Cast
cast_of s = if bytes_eq s (codes "$signed") then Some c.Signed else (if bytes_eq s (codes "$unsigned") then Some c.Unsigned else None)

-- what stands between the two numbers of a part-select
unfoldable pub span_of : List ℕ → Option Span
span_of s =
    if bytes_eq s (codes ":") then Some w.Fixed else (
    if bytes_eq s (codes "+:") then Some w.Up else (
    if bytes_eq s (codes "-:") then Some w.Down else None))

abbrev pub on_word : {A : Type 0} → (List ℕ → Option A) → Option Kind → Option A
on_word f (Some (k.Word s)) = f s
on_word f _ = None

abbrev pub cast_at : List Token → ℕ → Option Cast
cast_at ts i = on_word cast_of (kind_at ts i)

abbrev pub span_at : List Token → ℕ → Option Span
span_at ts i = on_sign span_of (kind_at ts i)
