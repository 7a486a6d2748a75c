-- An order of all signals after those that they depend on, without registers and inputs, is one of the nets.
use Rattle.std.proofs.Common.{◌≡◌, ℕ, zero, suc, ◌+◌, ◌<◌, Bool, true, false, List, [], ◌∷◌, ◌++◌, length, drop, get_or, append_assoc, arith, refl, sym, ap, ◌∙◌, subst, ◌⊎◌, inl, inr, ⊎_elim}
use Rattle.std.specs.Prelude.{if◌then◌else◌}
use Rattle.std.specs.List.{flat_map}
use Rattle.vlog_tree_runs.specs.declared.flat.Flat.{Flat}
use Rattle.vlog_tree_runs.specs.declared.flat.Signal.{Signal}
use Rattle.vlog_tree_runs.specs.Places.{Name, Among}
use Rattle.vlog_tree_runs.specs.Contents.{is_among}
use Rattle.vlog_tree_runs.specs.Cycles.{IsRegister, IsInput}
use Rattle.elab_flat_laws.proofs.Lists.{among_append, append_left, append_right, among_flat, flat_among, among_map, map_among}
use Rattle.elab_flat_faults.specs.Drivers.{DependsOn, IsChain}
use Rattle.elab_flat_drivers.proofs.Naming.{among_of, of_among}
use Rattle.elab_flat_graphs.specs.Graphs.{successors, IsGraph, IsOrder, IsCycle, IsPathTo, AreAfter, Among as Lists, AreDistinct as AreApart}
use Rattle.elab_step_flow.specs.Edges.{AreDependences}
use Rattle.elab_step_flow.specs.Shows.{IsAt}
use Rattle.elab_step_nets.specs.Asked.{CanElaborate}
use Rattle.elab_step_nets.specs.Boards.{name_of, names_of}
use Rattle.elab_step_nets.specs.Solving.{AreDistinct, IsNetOrder, IsOrder as Ordered}
use Rattle.elab_step_nets.proofs.Solving.{bool_cases}
use Rattle.elab_step.specs.Parts.{input_name}
use Rattle.elab_step.specs.Sources.{signal_names, clocked_names, flags_among}
use Rattle.elab_step.specs.Ordering.{source_names, unflagged}
use Rattle.elab_step.proofs.Tracks.{clocked_register, register_clocked}

-- ---- places and names

pub at_name : (gs : List Signal) (i : ℕ) → i < length gs → IsAt gs i (name_of gs i)
at_name [] i l = absurd (omega arith)
at_name (g ∷ gs) zero l = refl
at_name (g ∷ gs) (suc i) l = at_name gs i (omega arith)

name_among : (gs : List Signal) (i : ℕ) → i < length gs → Among (signal_names gs) (name_of gs i)
name_among [] i l = absurd (omega arith)
name_among (g ∷ gs) zero l = inl refl
name_among (g ∷ gs) (suc i) l = inr (name_among gs i (omega arith))

same_place : (gs : List Signal) (i j : ℕ) → AreDistinct (signal_names gs) → i < length gs → j < length gs → name_of gs i ≡ name_of gs j → i ≡ j
same_place [] i j d l m e = absurd (omega arith)
same_place (g ∷ gs) zero zero d l m e = refl
same_place (g ∷ gs) zero (suc j) d l m e = absurd (d.0 (subst (λ x. Among (signal_names gs) x) (sym e) (name_among gs j (omega arith))))
same_place (g ∷ gs) (suc i) zero d l m e = absurd (d.0 (subst (λ x. Among (signal_names gs) x) e (name_among gs i (omega arith))))
same_place (g ∷ gs) (suc i) (suc j) d l m e = ap suc (same_place gs i j d.1 (omega arith) (omega arith) e)

flag_at : (xs : List Name) (gs : List Signal) (i : ℕ) → i < length gs → get_or (flags_among xs gs) i true ≡ is_among xs (name_of gs i)
flag_at xs [] i l = absurd (omega arith)
flag_at xs (g ∷ gs) zero l = refl
flag_at xs (g ∷ gs) (suc i) l = flag_at xs gs i (omega arith)

place_for : (gs : List Signal) (g : Signal) → Among gs g → (i : ℕ) × (i < length gs) × (name_of gs i ≡ g.name)
place_for [] g m = absurd m
place_for (h ∷ gs) g m = ⊎_elim (λ e. (0, omega arith, ap (λ (z : Signal). z.name) e)) (λ n. let r = place_for gs g n in (suc r.0, let l = r.1 in omega (arith, l), r.2)) m

-- ---- places without a flag

kept_among : (ts : List Bool) (vs : List ℕ) (v : ℕ) → Among (unflagged ts vs) v → Lists vs v × (get_or ts v true ≡ false)
kept_among ts [] v m = absurd m
kept_among ts (w ∷ vs) v m =
    ⊎_elim
    (λ (e : get_or ts w true ≡ true).
    let n : Among (unflagged ts vs) v = subst (λ (b : Bool). Among (if b then unflagged ts vs else w ∷ unflagged ts vs) v) e m in
    let r = kept_among ts vs v n in (inr r.0, r.1))
    (λ (e : get_or ts w true ≡ false).
    let n : Among (w ∷ unflagged ts vs) v = subst (λ (b : Bool). Among (if b then unflagged ts vs else w ∷ unflagged ts vs) v) e m in
    ⊎_elim (λ (q : w ≡ v). (inl q, subst (λ z. get_or ts z true ≡ false) q e)) (λ u. let r = kept_among ts vs v u in (inr r.0, r.1)) n)
    (bool_cases (get_or ts w true))

among_kept : (ts : List Bool) (vs : List ℕ) (v : ℕ) → Lists vs v → get_or ts v true ≡ false → Among (unflagged ts vs) v
among_kept ts [] v m e = absurd m
among_kept ts (w ∷ vs) v m e =
    ⊎_elim
    (λ (q : w ≡ v). subst (λ (b : Bool). Among (if b then unflagged ts vs else w ∷ unflagged ts vs) v) (sym (ap (λ z. get_or ts z true) q ∙ e)) (inl q))
    (λ n. put (get_or ts w true) (among_kept ts vs v n e)) m
  where
    put : (b : Bool) → Among (unflagged ts vs) v → Among (if b then unflagged ts vs else w ∷ unflagged ts vs) v
    put true n = n
    put false n = inr n

pub unflagged_next : (ts : List Bool) (vs : List ℕ) (i v : ℕ) (old new whole : List ℕ) → drop i vs ≡ v ∷ drop (i + 1) vs → new ≡ old ++ (if get_or ts v true then [] else v ∷ []) → old ++ unflagged ts (drop i vs) ≡ whole → new ++ unflagged ts (drop (i + 1) vs) ≡ whole
unflagged_next ts vs i v old new whole cut made h =
    ap (λ ys. ys ++ unflagged ts (drop (i + 1) vs)) made ∙ append_assoc old (if get_or ts v true then [] else v ∷ []) (unflagged ts (drop (i + 1) vs)) ∙ ap (λ z. old ++ z) (by (get_or ts v true)) ∙ ap (λ ys. old ++ unflagged ts ys) (sym cut) ∙ h
  where
    by : (b : Bool) → (if b then [] else v ∷ []) ++ unflagged ts (drop (i + 1) vs) ≡ (if b then unflagged ts (drop (i + 1) vs) else v ∷ unflagged ts (drop (i + 1) vs))
    by true = refl
    by false = refl

pub contains_at : (vs : List ℕ) (i u : ℕ) → i < length vs → Lists vs (get_or vs i u)
contains_at [] i u l = absurd (omega arith)
contains_at (v ∷ vs) zero u l = inl refl
contains_at (v ∷ vs) (suc i) u l = inr (contains_at vs i u (omega arith))

pub cut_at : (vs : List ℕ) (i u : ℕ) → i < length vs → drop i vs ≡ get_or vs i u ∷ drop (i + 1) vs
cut_at vs i u l = let z : suc i ≡ i + 1 = omega arith in next vs i l ∙ ap (λ j. get_or vs i u ∷ drop j vs) z
  where
    next : (vs : List ℕ) (i : ℕ) → i < length vs → drop i vs ≡ get_or vs i u ∷ drop (suc i) vs
    next [] i l = absurd (omega arith)
    next (v ∷ vs) zero l = refl
    next (v ∷ vs) (suc i) l = next vs i (omega arith)

-- ---- inputs

pub inputs_in : (f : Flat) (x : Name) → IsInput f x → Among (flat_map input_name f.ports) x
inputs_in f x h =
    let here : Among (input_name h.0) h.0.name = subst (λ (b : Bool). Among (if b then [] else h.0.name ∷ []) h.0.name) (sym h.2) (inl refl) in
    subst (λ z. Among (flat_map input_name f.ports) z) h.3 (flat_among input_name f.ports h.0 h.0.name h.1 here)

pub in_inputs : (f : Flat) (x : Name) → Among (flat_map input_name f.ports) x → IsInput f x
in_inputs f x m =
    let p = among_flat input_name f.ports x m in
    ⊎_elim
    (λ (e : p.0.output ≡ true). let n : Among [] x = subst (λ (b : Bool). Among (if b then [] else p.0.name ∷ []) x) e p.2 in absurd n)
    (λ (e : p.0.output ≡ false). let n : Among (p.0.name ∷ []) x = subst (λ (b : Bool). Among (if b then [] else p.0.name ∷ []) x) e p.2 in (p.0, p.1, e, ⊎_elim (λ q. q) (λ u. absurd u) n))
    (bool_cases p.0.output)

module _ (f : Flat) (can : CanElaborate f) (g : List (List ℕ)) (long : length g ≡ length f.signals) (graph : IsGraph g) (depends : AreDependences f g) where
  abbrev gs : List Signal
  gs = f.signals

  abbrev ts : List Bool
  ts = flags_among (source_names f) gs

  edge : (v w : ℕ) → v < length gs → w < length gs → DependsOn f (name_of gs v) (name_of gs w) → Lists (successors g v) w
  edge v w l m h = (depends v w (name_of gs v) (name_of gs w) (at_name gs v l) (at_name gs w m)).1 h

  is_edge : (v w : ℕ) → v < length gs → w < length gs → Lists (successors g v) w → DependsOn f (name_of gs v) (name_of gs w)
  is_edge v w l m h = (depends v w (name_of gs v) (name_of gs w) (at_name gs v l) (at_name gs w m)).0 h

  -- ---- the order

  names_kept : (vs : List ℕ) (z : Name) → Among (names_of gs (unflagged ts vs)) z → (w : ℕ) × Lists vs w × (name_of gs w ≡ z)
  names_kept vs z m = let r = among_map (name_of gs) (unflagged ts vs) z m in (r.0, (kept_among ts vs r.0 r.1).0, r.2)

  ordered : (earlier vs : List ℕ) → ((w : ℕ) → Lists vs w → w < length gs) → AreApart vs → ((w : ℕ) → Lists earlier w → Lists vs w → ⊥) → AreAfter g earlier vs → Ordered (DependsOn f) (names_of gs (unflagged ts vs))
  ordered earlier [] within once apart after = tt
  ordered earlier (v ∷ vs) within once apart after =
      let rest = ordered (v ∷ earlier) vs (λ w m. within w (inr m)) once.1 (λ w m n. ⊎_elim (λ (e : v ≡ w). once.0 (subst (λ z. Lists vs z) (sym e) n)) (λ k. apart w k (inr n)) m) after.1 in
      let l = within v (inl refl) in
      put (get_or ts v true) rest (
        λ z h m.
            let w : (w : ℕ) × Lists (v ∷ vs) w × (name_of gs w ≡ z) = ⊎_elim (λ (e : name_of gs v ≡ z). (v, inl refl, e)) (λ n. let r = names_kept vs z n in (r.0, inr r.1, r.2)) m in
            apart w.0 (after.0 w.0 (edge v w.0 l (within w.0 w.1) (subst (λ y. DependsOn f (name_of gs v) y) (sym w.2) h))) w.1,
        λ m.
            let r = names_kept vs (name_of gs v) m in
            let same : r.0 ≡ v = same_place gs r.0 v can.distinct (within r.0 (inr r.1)) l r.2 in
            once.0 (subst (λ z. Lists vs z) same r.1),
      )
    where
      put : (b : Bool) → Ordered (DependsOn f) (names_of gs (unflagged ts vs)) → (((z : Name) → DependsOn f (name_of gs v) z → Among (name_of gs v ∷ names_of gs (unflagged ts vs)) z → ⊥) × (Among (names_of gs (unflagged ts vs)) (name_of gs v) → ⊥))
          → Ordered (DependsOn f) (names_of gs (if b then unflagged ts vs else v ∷ unflagged ts vs))
      put true r h = r
      put false r h = (h.0, h.1, r)

  -- ---- nets, and the others

  no_source : (x : Name) → is_among (source_names f) x ≡ false → (IsRegister f x ⊎ IsInput f x) → ⊥
  no_source x e h =
      let m : Among (source_names f) x = ⊎_elim (λ r. append_left (clocked_names f) (flat_map input_name f.ports) x (register_clocked f can.plain x r)) (λ i. append_right (clocked_names f) (flat_map input_name f.ports) x (inputs_in f x i)) h in
      let t : true ≡ false = sym (of_among (source_names f) x m) ∙ e in cc

  is_source : (s : Signal) → Among gs s → is_among (source_names f) s.name ≡ true → IsRegister f s.name ⊎ IsInput f s.name
  is_source s m e =
      ⊎_elim (λ n. inl (clocked_register f can.plain s m n)) (λ n. inr (in_inputs f s.name n)) (among_append (clocked_names f) (flat_map input_name f.ports) s.name (among_of (source_names f) s.name e))

  signal_of : (i : ℕ) → i < length gs → (s : Signal) × Among gs s × (s.name ≡ name_of gs i)
  signal_of i l = let r = among_map (λ (s : Signal). s.name) gs (name_of gs i) (name_among gs i l) in (r.0, r.1, r.2)

  pub net_order : (vs : List ℕ) → IsOrder g vs → IsNetOrder f (DependsOn f) (names_of gs (unflagged ts vs))
  net_order vs is = record {
    order = ordered [] vs within is.once (λ w m n. m) is.after;
    nets = λ x m.
        let r = among_map (name_of gs) (unflagged ts vs) x m in
        let k = kept_among ts vs r.0 r.1 in
        let l = within r.0 k.0 in
        let s = signal_of r.0 l in
        let none : is_among (source_names f) x ≡ false = ap (is_among (source_names f)) (sym r.2) ∙ sym (flag_at (source_names f) gs r.0 l) ∙ k.1 in
        record { signal = s.0; is_declared = s.1; named = s.2 ∙ r.2; no_register = λ h. no_source x none (inl h); no_input = λ h. no_source x none (inr h) };
    others = λ s m.
        let p = place_for gs s m in
        ⊎_elim
        (λ (e : is_among (source_names f) s.name ≡ true). inr (is_source s m e))
        (λ (e : is_among (source_names f) s.name ≡ false).
        let flag : get_or ts p.0 true ≡ false = flag_at (source_names f) gs p.0 p.1 ∙ ap (is_among (source_names f)) p.2 ∙ e in
        let l : p.0 < length g = let q = p.1 in omega (arith, q, long) in
        inl (subst (λ x. Among (names_of gs (unflagged ts vs)) x) p.2 (map_among (name_of gs) (unflagged ts vs) p.0 (among_kept ts vs p.0 (is.each p.0 l) flag))))
        (bool_cases (is_among (source_names f) s.name));
  }
    where
      within : (w : ℕ) → Lists vs w → w < length gs
      within w m = let l = is.vertices w m in omega (arith, l, long)

  pub nets_within : (vs : List ℕ) → IsOrder g vs → (i : ℕ) → Among (unflagged ts vs) i → i < length gs
  nets_within vs is i m = let l = is.vertices i (kept_among ts vs i m).0 in omega (arith, l, long)

  -- ---- a cycle

  has_edge : (h : List (List ℕ)) (v w : ℕ) → Lists (successors h v) w → v < length h
  has_edge [] v w m = absurd m
  has_edge (xs ∷ h) zero w m = omega arith
  has_edge (xs ∷ h) (suc v) w m = let r = has_edge h v w m in omega (arith, r)

  depends_at : (v w : ℕ) → Lists (successors g v) w → DependsOn f (name_of gs v) (name_of gs w)
  depends_at v w m = let l = has_edge g v w m in let r = graph v w m in is_edge v w (omega (arith, l, long)) (omega (arith, r, long)) m

  chain : (v : ℕ) (vs : List ℕ) (t : ℕ) → IsPathTo g (v ∷ vs) t → IsChain f (name_of gs v) (names_of gs vs) (name_of gs t)
  chain v [] t h = depends_at v t h
  chain v (w ∷ vs) t h = (depends_at v w h.0, chain w vs t h.1)

  pub loop_stands : (v : ℕ) (vs : List ℕ) → IsCycle g (v ∷ vs) → (xs : List Name) × IsChain f (name_of gs v) xs (name_of gs v)
  loop_stands v vs h = (names_of gs vs, chain v vs v h)

  path_from : (v : ℕ) (vs : List ℕ) (t : ℕ) → IsPathTo g (v ∷ vs) t → v < length gs
  path_from v [] t h = let l = has_edge g v t h in omega (arith, l, long)
  path_from v (w ∷ vs) t h = let l = has_edge g v w h.0 in omega (arith, l, long)

  pub loop_within : (v : ℕ) (vs : List ℕ) → IsCycle g (v ∷ vs) → v < length gs
  loop_within v vs h = path_from v vs v h

  pub loop_at : (xs : List ℕ) (v u : ℕ) → IsCycle g xs → v ≡ get_or xs 0 u → (v < length gs) × ((ys : List Name) × IsChain f (name_of gs v) ys (name_of gs v))
  loop_at [] v u h e = absurd h
  loop_at (w ∷ ws) v u h e =
      let P : ℕ → Type 0 = λ z. (z < length gs) × ((ys : List Name) × IsChain f (name_of gs z) ys (name_of gs z)) in
      subst P (sym e) (loop_within w ws h, loop_stands w ws h)
