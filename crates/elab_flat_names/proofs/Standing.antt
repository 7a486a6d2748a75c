-- The expressions of a text, in the order of its statements, are all of them.
use Rattle.std.proofs.Common.{◌≡◌, inl, inr, ⊎_elim, List, ◌++◌, map, subst, sym}
use Rattle.std.specs.Prelude.{◌↔◌}
use Rattle.std.specs.List.{flat_map}
use Rattle.vlog_tree.specs.declared.expr.Expr.{Expr}
use Rattle.vlog_tree.specs.declared.item.Assign.{Assign}
use Rattle.vlog_tree.specs.declared.module.Module.{Module}
use Rattle.vlog_tree_runs.specs.Places.{Among}
use Rattle.vlog_tree_runs.specs.Contents.{Block, params_in, decls_in, assigns_in, blocks_in, instances_in}
use Rattle.elab_flat_laws.proofs.Lists.{among_append, append_left, append_right, among_flat, flat_among}
use Rattle.elab_flat_faults.specs.Texts.{alone_in, compared_in, stores_in, compared_exprs, decl_exprs, param_exprs, assign_exprs, block_exprs, inner_exprs, own_exprs, all_exprs}
use Rattle.elab_flat_drivers.proofs.Texts.{Stands, actions_stand, stand_actions}
use Rattle.elab_flat_names.specs.Exprs.{body_exprs, own_text_exprs, text_exprs}

module _ (c : Expr) where
  abbrev rights : Block → List Expr
  rights b = map (λ (a : Assign). a.right) (stores_in b.body)

  abbrev tests : Block → List Expr
  tests b = flat_map compared_exprs (compared_in b.body)

  to_block : (b : Block) → Among (body_exprs b) c → Among (block_exprs b) c
  to_block b h = by (actions_stand c b.body h)
    where
      by : Stands (alone_in b.body) (compared_in b.body) (stores_in b.body) c → Among (block_exprs b) c
      by (inl k) = append_left (alone_in b.body ++ tests b) (rights b) c (append_left (alone_in b.body) (tests b) c k)
      by (inr (inl k)) = append_left (alone_in b.body ++ tests b) (rights b) c (append_right (alone_in b.body) (tests b) c k)
      by (inr (inr k)) = append_right (alone_in b.body ++ tests b) (rights b) c k

  from_block : (b : Block) → Among (block_exprs b) c → Among (body_exprs b) c
  from_block b h = stand_actions c b.body (⊎_elim (λ k. ⊎_elim (λ g. inl g) (λ g. inr (inl g)) (among_append (alone_in b.body) (tests b) c k)) (λ k. inr (inr k)) (among_append (alone_in b.body ++ tests b) (rights b) c h))

  -- one end of a list in another's place
  with_end : (xs as' bs : List Expr) → (Among as' c → Among bs c) → Among (xs ++ as') c → Among (xs ++ bs) c
  with_end xs as' bs f h = ⊎_elim (λ k. append_left xs bs c k) (λ k. append_right xs bs c (f k)) (among_append xs as' c h)

  -- and one front
  with_front : (xs as' bs : List Expr) → (Among as' c → Among bs c) → Among (as' ++ xs) c → Among (bs ++ xs) c
  with_front xs as' bs f h = ⊎_elim (λ k. append_left bs xs c (f k)) (λ k. append_right bs xs c k) (among_append as' xs c h)

  module _ (m : Module) where
    blocks_to : Among (flat_map body_exprs (blocks_in m)) c → Among (flat_map block_exprs (blocks_in m)) c
    blocks_to h = let r = among_flat body_exprs (blocks_in m) c h in flat_among block_exprs (blocks_in m) r.0 c r.1 (to_block r.0 r.2)

    blocks_from : Among (flat_map block_exprs (blocks_in m)) c → Among (flat_map body_exprs (blocks_in m)) c
    blocks_from h = let r = among_flat block_exprs (blocks_in m) c h in flat_among body_exprs (blocks_in m) r.0 c r.1 (from_block r.0 r.2)

    abbrev before_blocks : List Expr
    before_blocks = flat_map decl_exprs (decls_in m) ++ flat_map param_exprs (params_in m) ++ flat_map assign_exprs (assigns_in m)

    pub own_text_is : Among (own_text_exprs m) c ↔ Among (own_exprs m) c
    own_text_is = (
      with_end before_blocks (flat_map body_exprs (blocks_in m)) (flat_map block_exprs (blocks_in m)) blocks_to,
      with_end before_blocks (flat_map block_exprs (blocks_in m)) (flat_map body_exprs (blocks_in m)) blocks_from,
    )

    pub text_is : Among (text_exprs m) c ↔ Among (all_exprs m) c
    text_is = (
      with_front (flat_map inner_exprs (instances_in m)) (own_text_exprs m) (own_exprs m) own_text_is.0,
      with_front (flat_map inner_exprs (instances_in m)) (own_exprs m) (own_text_exprs m) own_text_is.1,
    )

pub same_own_exprs : (m : Module) (xs : List Expr) → xs ≡ own_text_exprs m → (a : Expr) → Among xs a ↔ Among (own_exprs m) a
same_own_exprs m xs e a = subst (λ ys. Among ys a ↔ Among (own_exprs m) a) (sym e) (own_text_is a m)

pub same_exprs : (m : Module) (xs : List Expr) → xs ≡ text_exprs m → (a : Expr) → Among xs a ↔ Among (all_exprs m) a
same_exprs m xs e a = subst (λ ys. Among ys a ↔ Among (all_exprs m) a) (sym e) (text_is a m)
