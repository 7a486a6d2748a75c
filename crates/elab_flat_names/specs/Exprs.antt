-- The expressions of a module's text, in the order of its statements.
use Rattle.std.specs.Prelude.{List, [], ◌∷◌, ◌++◌}
use Rattle.std.specs.Borrow.{Bor}
use Rattle.std.specs.List.{flat_map}
use Rattle.vlog_tree.specs.declared.expr.Expr.{Expr}
use Rattle.vlog_tree.specs.declared.module.Module.{Module}
use Rattle.vlog_tree.specs.declared.item.Assign.{Assign}
use Rattle.vlog_tree.specs.declared.stmt.Edge.{Edge}
use Rattle.vlog_tree_runs.specs.Places.{Name}
use Rattle.vlog_tree_runs.specs.Blocks.{lefts, left_names}
use Rattle.vlog_tree_runs.specs.Contents.{Block, params_in, decls_in, assigns_in, blocks_in, instances_in}
use Rattle.elab_flat_faults.specs.Texts.{numbers_in, event_names, decl_exprs, param_exprs, assign_exprs, inner_exprs}
use Rattle.elab_flat_drivers.specs.Pieces.{Action, Tests, Assigns, Schedules, actions}

abbrev pub expr_meant : Bor Expr → Expr
expr_meant a = a.now

-- what is tested, or the numbers of a left side and what is assigned to it
abbrev pub action_exprs : Action → List Expr
action_exprs (Tests a) = a ∷ []
action_exprs (Assigns left right) = numbers_in left ++ right ∷ []
action_exprs (Schedules left right) = numbers_in left ++ right ∷ []

abbrev pub body_exprs : Block → List Expr
body_exprs b = flat_map action_exprs (actions b.body)

-- those of the declarations, parameters, assignments and blocks
abbrev pub own_text_exprs : Module → List Expr
own_text_exprs m =
    flat_map decl_exprs (decls_in m) ++ flat_map param_exprs (params_in m) ++ flat_map assign_exprs (assigns_in m) ++ flat_map body_exprs (blocks_in m)

-- and those of the instances
abbrev pub text_exprs : Module → List Expr
text_exprs m = own_text_exprs m ++ flat_map inner_exprs (instances_in m)

-- the names that an assignment and a block assign, and those that a block waits for
abbrev pub equation_names : Assign → List Name
equation_names a = left_names a.left

abbrev pub block_names : Block → List Name
block_names b = flat_map left_names (lefts b.body)

abbrev pub waited_names : Block → List Name
waited_names b = event_names b.events

abbrev pub edge_name : Edge → Name
edge_name x = x.name
