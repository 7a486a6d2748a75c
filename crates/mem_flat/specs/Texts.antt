-- Parts of texts, statement by statement and item by item.
use Rattle.std.specs.Prelude.{List, map}
use Rattle.std.specs.List.{flat_map}
use Rattle.vlog_tree.specs.declared.expr.Expr.{Expr}
use Rattle.vlog_tree.specs.declared.item.Assign.{Assign}
use Rattle.vlog_tree.specs.declared.stmt.CaseItem.{CaseItem}
use Rattle.vlog_tree.specs.declared.stmt.Lval.{Lval}
use Rattle.vlog_tree.specs.declared.stmt.Stmt.{Stmt}
use Rattle.vlog_tree_runs.specs.Blocks.{lefts, exprs_in}
use Rattle.elab_flat_faults.specs.Texts.{alone_in, compared_in, compared_exprs, stores_in}

abbrev pub stmt_compared : Stmt → List Expr
stmt_compared body = flat_map compared_exprs (compared_in body)

abbrev pub stmt_rights : Stmt → List Expr
stmt_rights body = map (λ (a : Assign). a.right) (stores_in body)

abbrev pub case_alone : CaseItem → List Expr
case_alone item = alone_in item.body

abbrev pub case_compared : CaseItem → List Expr
case_compared item = stmt_compared item.body

abbrev pub case_rights : CaseItem → List Expr
case_rights item = stmt_rights item.body

abbrev pub case_lefts : CaseItem → List Lval
case_lefts item = lefts item.body

abbrev pub item_exprs : CaseItem → List Expr
item_exprs item = exprs_in item.labels
