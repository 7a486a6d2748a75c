-- A design whose nets are solved has the runs of its module.
use Rattle.std.proofs.Common.{◌≡◌, ℕ, ◌^◌, ◌<◌, true, false, List, refl, sym, ap, ◌∙◌, subst, ⊎_elim}
use Rattle.word_core.specs.Words.{Bits}
use Rattle.vlog_tree_runs.specs.declared.flat.Flat.{Flat}
use Rattle.vlog_tree_runs.specs.declared.flat.Signal.{Signal}
use Rattle.vlog_tree_runs.specs.Places.{Name, Cycle, Among}
use Rattle.vlog_tree_runs.specs.Contents.{is_among}
use Rattle.vlog_tree_runs.specs.Cycles.{flat_place, IsCycle}
use Rattle.elab_step_design.specs.declared.design.Register.{Register}
use Rattle.elab_step_design.specs.Designs.{Parts, naming_of, IsCycleOf, HasRunsOf}
use Rattle.elab_step_expr.specs.Nodes.{number_at}
use Rattle.elab_step_expr.proofs.Kept.{word_is, number_fits}
use Rattle.elab_step_laws.specs.Laws.{AreFit}
use Rattle.elab_step_nets.specs.Solving.{clocked, processes, after_edge, solved, joined, AreGroups, IsNet, IsNetOrder}
use Rattle.elab_step_nets.specs.Boards.{unset, IsSolved}
use Rattle.elab_step_nets.proofs.Solving.{bool_cases, among_or, among_false, solved_other}
use Rattle.elab_step_nets.proofs.Fitting.{positive}
use Rattle.elab_step_nets.proofs.Cycles.{IsSolvable, AreClocked, holds_itself, cycle_solved, solved_cycle, follows_edge, edge_follows}

unset_other : (xs : List Name) (c : Cycle) (z : Name) → (Among xs z → ⊥) → unset xs c z ≡ c z
unset_other xs c z n = rw (among_false xs z n) refl

unset_fits : (gs : List Signal) (xs : List Name) (c : Cycle) → AreFit gs c → AreFit gs (unset xs c)
unset_fits gs xs c h g m =
    ⊎_elim (λ (e : is_among xs g.name ≡ true). rw e (positive g.width)) (λ (e : is_among xs g.name ≡ false). rw e (h g m)) (bool_cases (is_among xs g.name))

module _ (f : Flat) (depends : Name → Name → Type 0) (width : Name → ℕ) (can : IsSolvable f depends width) (edge : AreClocked f) (xss : List (List Name)) (order : IsNetOrder f depends (joined xss)) (groups : AreGroups (processes f) depends xss) (d : Parts) (is : IsSolved f xss d) where
  abbrev all_solved : Cycle → Cycle
  all_solved c = solved (flat_place f) (processes f) xss (unset (joined xss) c)

  cycle_fits : (c : Cycle) → IsCycle f c → AreFit f.signals c
  cycle_fits c h g m = h.fits g g m (holds_itself f.signals g can.plain m)

  -- in a cycle the nets are solved to it
  settles : (c : Cycle) → IsCycle f c → (z : Name) → all_solved c z ≡ c z
  settles c h = cycle_solved f depends width can xss (unset (joined xss) c) c order groups (unset_fits f.signals (joined xss) c (cycle_fits c h)) (unset_other (joined xss) c) h

  to_cycle : (c : Cycle) → IsCycle f c → IsCycleOf d c
  to_cycle c h n m =
      let r = is.net n m in
      word_is (naming_of c) d.nodes n.node n.width is.fit r.4
      ∙ ap (λ v. record { width = n.width; value = v }) (r.5 c (cycle_fits c h) ∙ settles c h r.0.name ∙ ap c (sym r.2))

  of_fits : (c : Cycle) → IsCycleOf d c → AreFit f.signals c
  of_fits c h g m =
      let r = is.each_net g m in
      let n = is.net r.0 r.1 in
      let e : number_at (naming_of c) d.nodes r.0.node ≡ c r.0.name = ap (λ (v : Bits). v.value) (h r.0 r.1) in
      let l : number_at (naming_of c) d.nodes r.0.node < 2 ^ r.0.width = number_fits (naming_of c) d.nodes r.0.node r.0.width is.fit n.4 in
      subst (λ y. c y < 2 ^ g.width) r.2 (subst (λ w. c r.0.name < 2 ^ w) r.3 (subst (λ k. k < 2 ^ r.0.width) e l))

  of_solved : (c : Cycle) → IsCycleOf d c → (z : Name) → all_solved c z ≡ c z
  of_solved c h z =
      ⊎_elim (λ m. let s = order.nets z m in subst (λ y. all_solved c y ≡ c y) s.named (one s.signal s.is_declared))
      (λ n. solved_other (flat_place f) f.signals (processes f) (IsNet f) depends width can.laws xss (unset (joined xss) c) z n ∙ unset_other (joined xss) c z n) (among_or (joined xss) z)
    where
      one : (g : Signal) → Among f.signals g → all_solved c g.name ≡ c g.name
      one g m =
          let r = is.each_net g m in
          let n = is.net r.0 r.1 in
          let e : number_at (naming_of c) d.nodes r.0.node ≡ c r.0.name = ap (λ (v : Bits). v.value) (h r.0 r.1) in
          ap (all_solved c) (sym r.2 ∙ n.2) ∙ sym (n.5 c (of_fits c h)) ∙ e ∙ ap c r.2

  from_cycle : (c : Cycle) → IsCycleOf d c → IsCycle f c
  from_cycle c h = solved_cycle f depends width can xss (unset (joined xss) c) c order groups (unset_fits f.signals (joined xss) c (of_fits c h)) (of_fits c h) (of_solved c h)

  next_is : (c : Cycle) → IsCycle f c → (r : Register) → Among d.registers r → number_at (naming_of c) d.nodes r.next ≡ after_edge (flat_place f) (clocked f.blocks) c c r.name
  next_is c h r m =
      let s : all_solved c ≡ c = λ i z. settles c h z i in
      (is.register r m).2 c (cycle_fits c h) ∙ ap (λ z. after_edge (flat_place f) (clocked f.blocks) z z r.name) s

  pub has_runs : HasRunsOf f d
  has_runs = record {
    cycle = λ c. (to_cycle c, from_cycle c);
    follows = λ c e h k. (
      λ u r m.
          let n = is.register r m in
          word_is (naming_of c) d.nodes r.next r.width is.fit n.1
          ∙ ap (λ v. record { width = r.width; value = v }) (next_is c h r m ∙ sym (follows_edge f edge c e (cycle_fits c h) (cycle_fits e k) u r.name n.0)),
      λ u. edge_follows f edge c e (cycle_fits c h) (cycle_fits e k) (λ x r.
          let s = is.each_register x r in
          let v : number_at (naming_of c) d.nodes s.0.next ≡ e s.0.name = ap (λ (w : Bits). w.value) (u s.0 s.1) in
          ap e (sym s.2) ∙ sym v ∙ next_is c h s.0 s.1 ∙ ap (after_edge (flat_place f) (clocked f.blocks) c c) s.2),
    );
  }
