-- What the code builds, as a pattern has it.
use Rattle.std.proofs.Common.{◌≡◌, ap}
use Rattle.vlog_tree.specs.declared.expr.Name.{Name}
use Rattle.vlog_tree.specs.declared.expr.Unary.{Unary}
use Rattle.vlog_tree.specs.declared.expr.Binary.{Binary}
use Rattle.vlog_tree.specs.declared.expr.Cast.{Cast}
use Rattle.vlog_tree.specs.declared.expr.Span.{Span}
use Rattle.vlog_tree.specs.declared.expr.Expr.{Expr}
use Rattle.vlog_tree.specs.declared.expr.Expr.TheVariants as e
use Rattle.vlog_tree.specs.declared.expr.Expr.TheBlock.{shape-the_row-Expr-0, hidden-the_row-Expr-0}
use Rattle.vlog_read_spelling.proofs.Forms.{select_of, paren_of, unary_tree, binary_of, choice_of, part_of, cast_tree}
use denote.Hole.Carrier

pub select_made : (n : Name) (a b : Expr) → a ≡ b → e.Select n a ≡ select_of n b
unfolding shape-the_row-Expr-0 hidden-the_row-Expr-0 denote.Hole.Carrier.hidden
select_made n a b p = ap (λ x. select_of n x) p

pub paren_made : (a b : Expr) → a ≡ b → e.Paren a ≡ paren_of b
unfolding shape-the_row-Expr-0 hidden-the_row-Expr-0 denote.Hole.Carrier.hidden
paren_made a b p = ap (λ x. paren_of x) p

pub unary_made : (op : Unary) (a b : Expr) → a ≡ b → e.Unary op a ≡ unary_tree op b
unfolding shape-the_row-Expr-0 hidden-the_row-Expr-0 denote.Hole.Carrier.hidden
unary_made op a b p = ap (λ x. unary_tree op x) p

pub binary_made : (op : Binary) (a b a' b' : Expr) → a ≡ a' → b ≡ b' → e.Binary op a b ≡ binary_of op a' b'
unfolding shape-the_row-Expr-0 hidden-the_row-Expr-0 denote.Hole.Carrier.hidden
binary_made op a b a' b' p q = λ r. binary_of op (p r) (q r)

pub choice_made : (a b c a' b' c' : Expr) → a ≡ a' → b ≡ b' → c ≡ c' → e.Choice a b c ≡ choice_of a' b' c'
unfolding shape-the_row-Expr-0 hidden-the_row-Expr-0 denote.Hole.Carrier.hidden
choice_made a b c a' b' c' p q s = λ r. choice_of (p r) (q r) (s r)

pub part_made : (n : Name) (w : Span) (a b a' b' : Expr) → a ≡ a' → b ≡ b' → e.Part n w a b ≡ part_of n w a' b'
unfolding shape-the_row-Expr-0 hidden-the_row-Expr-0 denote.Hole.Carrier.hidden
part_made n w a b a' b' p q = λ r. part_of n w (p r) (q r)

pub cast_made : (c : Cast) (a b : Expr) → a ≡ b → e.Cast c a ≡ cast_tree c b
unfolding shape-the_row-Expr-0 hidden-the_row-Expr-0 denote.Hole.Carrier.hidden
cast_made c a b p = ap (λ x. cast_tree c x) p
