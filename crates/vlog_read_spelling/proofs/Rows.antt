-- A list of trees inside a tree, as a list and as a row.
use Rattle.std.proofs.Common.{◌≡◌, List, [], ◌∷◌, refl, sym, ap, ◌∙◌}
use Rattle.vlog_tree.specs.declared.expr.Expr.{Expr, Row_of-Expr, end_of-Expr, more_of-Expr, roll-Expr, out-Expr, roll-out-Expr, items-the_row-Expr, items_shown-the_row-Expr-1, items_hidden-the_row-Expr-1}
use Rattle.vlog_tree.specs.declared.expr.Expr.TheVariants as e
use denote.Hole.Carrier
use Rattle.vlog_tree.specs.declared.expr.Expr.TheBlock.{shape-the_row-Expr-0, hidden-the_row-Expr-0, shape-the_row-Expr-1, hidden-the_row-Expr-1, shown-the_row-Expr-1}

abbrev pub list_of : {m : _} → Row_of-Expr m → List Expr
list_of end_of-Expr = []
list_of (more_of-Expr a rest) = a ∷ list_of rest

listed : (m : _) (row : Row_of-Expr m) → items-the_row-Expr m row ≡ list_of row
listed m end_of-Expr = refl
listed m (more_of-Expr a rest) = ap (λ xs. a ∷ xs) (listed _ rest)

-- the row of a list is that list
pub list_of-hidden : (xs : List Expr) → list_of (hidden-the_row-Expr-1 xs) ≡ xs
list_of-hidden xs = sym (listed _ (hidden-the_row-Expr-1 xs)) ∙ items_hidden-the_row-Expr-1 xs

-- a concatenation by its row is the one by its list
pub concat_is : (s : _) (row : _) → e.Concat' s row ≡ e.Concat (list_of row)
concat_is s row =
    (sym (roll-out-Expr (e.Concat' s row)) ∙ (ap roll-Expr (e.outs-Concat' s row) ∙ e.rolls-Concat (shown-the_row-Expr-1 s row)))
    ∙ ap e.Concat (items_shown-the_row-Expr-1 s row ∙ listed _ row)

-- the same of a replication
pub repeat_is : (a : Expr) (s : _) (row : _) → e.Repeat' tt (more_of-Expr a end_of-Expr) s row ≡ e.Repeat a (list_of row)
unfolding shape-the_row-Expr-0 hidden-the_row-Expr-0 denote.Hole.Carrier.hidden Rattle.vlog_tree.specs.declared.expr.Expr.TheBlock.shown-the_row-Expr-0 shown-the_row-Expr-1 Carrier.shown
repeat_is a s row =
    (sym (roll-out-Expr (e.Repeat' tt (more_of-Expr a end_of-Expr) s row)) ∙ (ap roll-Expr (e.outs-Repeat' tt (more_of-Expr a end_of-Expr) s row) ∙ e.rolls-Repeat _ (shown-the_row-Expr-1 s row)))
    ∙ ap (e.Repeat a) (items_shown-the_row-Expr-1 s row ∙ listed _ row)
