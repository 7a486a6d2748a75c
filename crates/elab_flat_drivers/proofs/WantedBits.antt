-- Bits that are wanted and not driven stand as a fault.
use Rattle.std.proofs.Common.{◌≡◌, ℕ, ◌⊎◌, inl, inr, true, List, [], ◌∷◌, ◌++◌, map, refl, sym, subst}
use Rattle.std.specs.List.{flat_map}
use Rattle.vlog_tree.specs.declared.expr.Expr.{Expr}
use Rattle.vlog_tree.specs.declared.item.Assign.{Assign}
use Rattle.vlog_tree.specs.declared.stmt.Lval.{Lval}
use Rattle.vlog_tree.specs.declared.stmt.Lval.TheVariants as l
use Rattle.vlog_tree_runs.specs.declared.flat.Always.{Always}
use Rattle.vlog_tree_runs.specs.declared.flat.Flat.{Flat}
use Rattle.vlog_tree_runs.specs.declared.flat.TopPort.{TopPort}
use Rattle.vlog_tree_runs.specs.Places.{Name, Among}
use Rattle.vlog_tree_runs.specs.Blocks.{Drives}
use Rattle.elab_flat_laws.proofs.Lists.{among_append, append_left, append_right, among_flat, flat_among}
use Rattle.elab_flat_faults.specs.Texts.{assign_exprs, alone_in, compared_in, stores_in, compared_exprs}
use Rattle.elab_flat_faults.specs.Drivers.{ReadsBit, block_exprs, IsWanted}
use Rattle.elab_flat_drivers.specs.Pieces.{actions}
use Rattle.elab_flat_drivers.specs.Wanting.{action_reads, assign_reads, block_reads, output_parts, wanted_parts}
use Rattle.elab_flat_drivers.proofs.Parting.{AnyPart}
use Rattle.elab_flat_drivers.proofs.Spots.{bare}
use Rattle.elab_flat_drivers.proofs.Kinding.{in_chosen, chosen_in}
use Rattle.elab_flat_drivers.proofs.Texts.{action_exprs, actions_stand, stand_actions}
use Rattle.elab_flat_drivers.proofs.DrivenBits.{store_reads, reads_store, action_told, told_action}

module _ (m : Flat) (x : Name) (b : ℕ) where
  abbrev Any : List Lval → Type 0
  Any qs = AnyPart (bare m.signals) x b qs

  abbrev Read : List Expr → Type 0
  Read as' = (a : Expr) × Among as' a × ReadsBit (bare m.signals) a x b

  -- ---- from parts to expressions

  of_output : Any (flat_map output_parts m.ports) → IsWanted m x b
  of_output (q, h, d) =
      let r = among_flat output_parts m.ports q h in
      let c = in_chosen (l.Name r.0.name ∷ []) q r.0.output r.2 in
      inr (r.0, r.1, c.0, only r.0.name c.1 d)
    where
      only : (y : Name) → Among (l.Name y ∷ []) q → Drives (bare m.signals) q x b → y ≡ x
      only y (inl k) d = subst (λ z. Drives (bare m.signals) z x b) (sym k) d
      only y (inr k) d = absurd k

  of_assign : Any (flat_map assign_reads m.assigns) → IsWanted m x b
  of_assign (q, h, d) =
      let r = among_flat assign_reads m.assigns q h in
      let k = store_reads (bare m.signals) x b r.0.left r.0.right (q, r.2, d) in
      inl (k.0, append_left (flat_map assign_exprs m.assigns) (flat_map block_exprs m.blocks) k.0 (flat_among assign_exprs m.assigns r.0 k.0 r.1 k.1), k.2)

  of_block : Any (flat_map block_reads m.blocks) → IsWanted m x b
  of_block (q, h, d) =
      let r = among_flat block_reads m.blocks q h in
      let u = among_flat action_reads (actions r.0.body) q r.2 in
      let k = action_told (bare m.signals) x b u.0 (q, u.2, d) in
      let w = actions_stand k.0 r.0.body (flat_among action_exprs (actions r.0.body) u.0 k.0 u.1 k.1) in
      inl (k.0, append_right (flat_map assign_exprs m.assigns) (flat_map block_exprs m.blocks) k.0 (flat_among block_exprs m.blocks r.0 k.0 r.1 (placed r.0 k.0 w)), k.2)
    where
      placed : (k : Always) (a : Expr) → Among (alone_in k.body) a ⊎ (Among (flat_map compared_exprs (compared_in k.body)) a ⊎ Among (map (λ (w : Assign). w.right) (stores_in k.body)) a) → Among (block_exprs k) a
      placed k a (inl h) =
          append_left (alone_in k.body ++ flat_map compared_exprs (compared_in k.body)) (map (λ (w : Assign). w.right) (stores_in k.body)) a (append_left (alone_in k.body) (flat_map compared_exprs (compared_in k.body)) a h)
      placed k a (inr (inl h)) =
          append_left (alone_in k.body ++ flat_map compared_exprs (compared_in k.body)) (map (λ (w : Assign). w.right) (stores_in k.body)) a (append_right (alone_in k.body) (flat_map compared_exprs (compared_in k.body)) a h)
      placed k a (inr (inr h)) = append_right (alone_in k.body ++ flat_map compared_exprs (compared_in k.body)) (map (λ (w : Assign). w.right) (stores_in k.body)) a h

  pub parts_wanted : Any (wanted_parts m) → IsWanted m x b
  parts_wanted (q, h, d) =
      elim (among_append (flat_map output_parts m.ports ++ flat_map assign_reads m.assigns) (flat_map block_reads m.blocks) q h) [
        | inl k ↦ elim (among_append (flat_map output_parts m.ports) (flat_map assign_reads m.assigns) q k) [ inl g ↦ of_output (q, g, d) | inr g ↦ of_assign (q, g, d) ]
        | inr k ↦ of_block (q, k, d)
      ]

  -- ---- and back

  abbrev outputs : List Lval
  outputs = flat_map output_parts m.ports

  abbrev stores : List Lval
  stores = flat_map assign_reads m.assigns

  abbrev blocks : List Lval
  blocks = flat_map block_reads m.blocks

  output_wanted : (p : TopPort) → Among m.ports p → p.output ≡ true → p.name ≡ x → Any (wanted_parts m)
  output_wanted p a e n = (
    l.Name p.name,
    append_left (outputs ++ stores) blocks (l.Name p.name) (append_left outputs stores (l.Name p.name) (flat_among output_parts m.ports p (l.Name p.name) a (chosen_in (l.Name p.name ∷ []) (l.Name p.name) p.output e (inl refl)))),
    n,
  )

  assign_wanted : (c : Expr) → Among (flat_map assign_exprs m.assigns) c → ReadsBit (bare m.signals) c x b → Any (wanted_parts m)
  assign_wanted c h r =
      let u = among_flat assign_exprs m.assigns c h in
      let k = reads_store (bare m.signals) x b u.0.left u.0.right (c, u.2, r) in
      (k.0, append_left (outputs ++ stores) blocks k.0 (append_right outputs stores k.0 (flat_among assign_reads m.assigns u.0 k.0 u.1 k.1)), k.2)

  block_wanted : (c : Expr) → Among (flat_map block_exprs m.blocks) c → ReadsBit (bare m.signals) c x b → Any (wanted_parts m)
  block_wanted c h r =
      let u = among_flat block_exprs m.blocks c h in
      let s = stand_actions c u.0.body (parted u.0 u.2) in
      let w = among_flat action_exprs (actions u.0.body) c s in
      let k = told_action (bare m.signals) x b w.0 (c, w.2, r) in
      (k.0, append_right (outputs ++ stores) blocks k.0 (flat_among block_reads m.blocks u.0 k.0 u.1 (flat_among action_reads (actions u.0.body) w.0 k.0 w.1 k.1)), k.2)
    where
      parted : (k : Always) → Among (block_exprs k) c → Among (alone_in k.body) c ⊎ (Among (flat_map compared_exprs (compared_in k.body)) c ⊎ Among (map (λ (w : Assign). w.right) (stores_in k.body)) c)
      parted k h =
          elim (among_append (alone_in k.body ++ flat_map compared_exprs (compared_in k.body)) (map (λ (w : Assign). w.right) (stores_in k.body)) c h) [
            | inl g ↦ elim (among_append (alone_in k.body) (flat_map compared_exprs (compared_in k.body)) c g) [ inl i ↦ inl i | inr i ↦ inr (inl i) ]
            | inr g ↦ inr (inr g)
          ]

  pub wanted_in_parts : IsWanted m x b → Any (wanted_parts m)
  wanted_in_parts (inl (c, h, r)) =
      elim (among_append (flat_map assign_exprs m.assigns) (flat_map block_exprs m.blocks) c h) [ inl k ↦ assign_wanted c k r | inr k ↦ block_wanted c k r ]
  wanted_in_parts (inr (p, a, e, n)) = output_wanted p a e n
