-- The expressions of the parts of a text are among all that it reads.
use Rattle.std.proofs.Common.{List, [], ◌∷◌, ◌++◌, Option, Some, None, inl, inr, ap}
use Rattle.std.specs.List.{flat_map}
use Rattle.vlog_tree.specs.declared.expr.Expr.{Expr}
use Rattle.vlog_tree.specs.declared.item.Args.{Args}
use Rattle.vlog_tree.specs.declared.item.Args.TheVariants as g
use Rattle.vlog_tree.specs.declared.item.Assign.{Assign}
use Rattle.vlog_tree.specs.declared.item.Connection.{Connection}
use Rattle.vlog_tree.specs.declared.module.Module.{Module}
use Rattle.vlog_tree_runs.specs.Places.{Name, Among}
use Rattle.vlog_tree_runs.specs.Contents.{params_in, decls_in, assigns_in, Block, blocks_in, Inner, instances_in}
use Rattle.vlog_tree_runs.specs.Scopes.{Given, given_of, named_given, by_order, given_to}
use Rattle.elab_flat_laws.proofs.Lists.{append_left, append_right, among_flat, flat_among}
use Rattle.elab_flat_faults.specs.Texts.{expr_of, named_expr, args_in, decl_exprs, param_exprs, assign_exprs, block_exprs, inner_exprs, all_exprs}

module _ (m : Module) where
  abbrev to_params : List Expr
  to_params = flat_map decl_exprs (decls_in m) ++ flat_map param_exprs (params_in m)

  abbrev to_assigns : List Expr
  to_assigns = to_params ++ flat_map assign_exprs (assigns_in m)

  abbrev to_blocks : List Expr
  to_blocks = to_assigns ++ flat_map block_exprs (blocks_in m)

  abbrev of_inners : List Expr
  of_inners = flat_map inner_exprs (instances_in m)

  pub in_assign : (a : Assign) (x : Expr) → Among (assigns_in m) a → Among (assign_exprs a) x → Among (all_exprs m) x
  in_assign a x h k =
      append_left to_blocks of_inners x (append_left to_assigns (flat_map block_exprs (blocks_in m)) x
      (append_right to_params (flat_map assign_exprs (assigns_in m)) x (flat_among assign_exprs (assigns_in m) a x h k)))

  pub in_block : (b : Block) (x : Expr) → Among (blocks_in m) b → Among (block_exprs b) x → Among (all_exprs m) x
  in_block b x h k = append_left to_blocks of_inners x (append_right to_assigns (flat_map block_exprs (blocks_in m)) x (flat_among block_exprs (blocks_in m) b x h k))

  pub in_inner : (i : Inner) (x : Expr) → Among (instances_in m) i → Among (inner_exprs i) x → Among (all_exprs m) x
  in_inner i x h k = append_right to_blocks of_inners x (flat_among inner_exprs (instances_in m) i x h k)

-- ---- what names are given

ordered_value : (xs : List Name) (as' : List Expr) (d : Given) → Among (by_order xs as') d → Among as' d.value
ordered_value [] as' d h = absurd h
ordered_value (x ∷ xs) [] d h = absurd h
ordered_value (x ∷ xs) (a ∷ as') d (inl e) = inl (ap (λ (z : Given). z.value) e)
ordered_value (x ∷ xs) (a ∷ as') d (inr m) = inr (ordered_value xs as' d m)

one_value : (x : Name) (o : Option Expr) (d : Given) → Among (given_of x o) d → Among (expr_of o) d.value
one_value x None d h = absurd h
one_value x (Some a) d (inl e) = inl (ap (λ (z : Given). z.value) e)
one_value x (Some a) d (inr z) = absurd z

named_value : (ns : List Connection) (d : Given) → Among (flat_map named_given ns) d → Among (flat_map named_expr ns) d.value
named_value ns d h =
    let r = among_flat named_given ns d h in
    flat_among named_expr ns r.0 d.value r.1 (one_value r.0.port r.0.value d r.2)

pub given_value : (xs : List Name) (o : Option Args) (d : Given) → Among (given_to xs o) d → Among (args_in o) d.value
given_value xs None d h = absurd h
given_value xs (Some (g.Exprs as')) d h = ordered_value xs as' d h
given_value xs (Some (g.Named ns)) d h = named_value ns d h
