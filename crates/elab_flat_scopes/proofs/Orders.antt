-- Names and expressions in one order.
use Rattle.std.proofs.Common.{ℕ, ◌≡◌, ◌≤◌, List, [], ◌∷◌, ◌++◌, refl, sym, ap, ◌∙◌, drop, length, drop_of_length-le}
use Rattle.std.proofs.lemmas.List.{append-nil}
use Rattle.vlog_tree.specs.declared.expr.Expr.{Expr}
use Rattle.vlog_tree_runs.specs.Places.{Name}
use Rattle.vlog_tree_runs.specs.Scopes.{Given, by_order}

-- names are given nothing where there is no expression
by_order_nil : (xs : List Name) → by_order xs [] ≡ []
by_order_nil [] = refl
by_order_nil (x ∷ xs) = refl

-- nothing is left to give past the last expression
pub all_given : (xs : List Name) (exprs : List Expr) (i : ℕ) (all whole : List Given) → length exprs ≤ i → all ++ by_order xs (drop i exprs) ≡ whole → all ≡ whole
all_given xs exprs i all whole le h =
    sym (append-nil all) ∙ (ap (λ ys. all ++ ys) (sym (by_order_nil xs) ∙ ap (by_order xs) (sym (drop_of_length-le exprs {i = i} le))) ∙ h)
