-- What the code finds of an expression's length and sign.
use Rattle.std.proofs.Common.{◌≡◌, false, refl, sym, List}
use Rattle.vlog_tree.specs.declared.expr.Expr.{Expr}
use Rattle.vlog_tree.specs.declared.expr.Expr.TheVariants as e
use Rattle.vlog_tree.specs.declared.expr.Name.{Name}
use Rattle.vlog_tree.specs.Valuation.{named}
use Rattle.vlog_tree.specs.Value.{IsFormed}
use Rattle.vlog_tree_values.specs.Shapes.{HasShape}
use Rattle.vlog_tree_values.proofs.Facts.{select_has}
use Rattle.vlog_tree_values.proofs.Forms.{select_formed}
use Rattle.vlog_tree_values.proofs.Lengths.{name_length}
use Rattle.elab_step_expr.specs.declared.leaves.Leaf.{Leaf}
use Rattle.elab_step_expr.specs.Leaves.{declared}
use Rattle.elab_step_expr.proofs.Read.{depth_is}

-- a bit of a vector: no name is a memory's
pub select_shape : (ls : List Leaf) (x : Name) (a tree : Expr) → tree ≡ e.Select x a → IsFormed (declared ls) tree → HasShape (declared ls) tree 1 false
select_shape ls x a tree is h =
    let v = declared ls in
    let f = select_formed v x a tree is h in
    select_has v x a tree a (named v x) 0 1 false is f.0 refl (name_length v x f.0) refl f.1 (sym (depth_is (λ l. 0) ls x)) refl refl
