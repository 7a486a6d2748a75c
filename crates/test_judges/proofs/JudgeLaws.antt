-- A module's tests say of values what the definitions say of their cycle.
use Rattle.std.proofs.Common.{◌≡◌, ℕ, ◌^◌, ◌<◌, ◌≤◌, ◌⊎◌, inl, inr, ⊎_elim, Bool, true, false, not, ◌&&◌, ◌||◌, List, [], ◌∷◌, ◌++◌, map, nat_eq, arith, sym, ap, ◌∙◌, subst, refl}
use Rattle.std.specs.Prelude.{bit_and, bit_or}
use Rattle.std.specs.Int.{bit_at}
use Rattle.std.specs.List.{list_all}
use Rattle.std.specs.Str.{bytes_eq}
use Rattle.std.proofs.lemmas.Bool.{eq-eqb, eqb-true}
use Rattle.std.proofs.lemmas.Slice.Eq.{bytes_eq-Decides}
use Rattle.std.proofs.lemmas.Nat.Bits.{bit_at_above, same_from_bits, same_from_bits_below}
use Rattle.vlog_tree.specs.declared.item.Assign.{Assign}
use Rattle.vlog_tree.specs.declared.stmt.Lval.{Lval}
use Rattle.vlog_tree.specs.declared.stmt.Stmt.{Stmt}
use Rattle.vlog_tree.specs.declared.stmt.Stmt.TheVariants as s
use Rattle.vlog_tree_runs.specs.declared.flat.Always.{Always}
use Rattle.vlog_tree_runs.specs.declared.flat.Flat.{Flat}
use Rattle.vlog_tree_runs.specs.declared.flat.Signal.{Signal}
use Rattle.vlog_tree_runs.specs.declared.flat.TopPort.{TopPort}
use Rattle.vlog_tree_runs.specs.Places.{Name, Cycle, Place, Among}
use Rattle.vlog_tree_runs.specs.Blocks.{run, lefts, left_names, Drives}
use Rattle.vlog_tree_runs.specs.Cycles.{flat_place, IsCycle, Follows, IsRegister, IsInput, IsDriven, IsClocked}
use Rattle.elab_flat_laws.proofs.Lists.{among_map}
use Rattle.elab_flat_drivers.specs.Claims.{ones}
use Rattle.elab_flat_drivers.proofs.Bits.{set_ones}
use Rattle.elab_step_laws.specs.Laws.{BitsStay, AreFit}
use Rattle.elab_step_nets.specs.Solving.{assigned_by}
use Rattle.elab_step_nets.specs.Asked.{CanElaborate}
use Rattle.elab_step_nets.proofs.Solving.{bool_cases, among_or}
use Rattle.elab_step_nets.proofs.Fitting.{less_or, among_names, run_fits}
use Rattle.elab_step_nets.proofs.Cycles.{drives_assigned, own_holder, holds_itself}
use Rattle.elab_step_nets.proofs.Elaborating.{IsText, vectors}
use Rattle.elab_step_nets.proofs.Texts.{text_is}
use Rattle.test_judges.specs.Values.{AreValues, held}
use Rattle.test_judges.specs.Driving.{bits_in, names, body_parts, net_parts, clocked_parts}
use Rattle.test_judges.specs.Judging.{each_same, whole, assign_holds, block_holds, is_input, only_driven, each_driven, is_cycle, block_gives, keeps_rest, each_keeps, follows}
use Rattle.test_judges.proofs.Driven.{bits_drive, drive_bits, bodies_are, clocked_are, nets_are, body_drives, drives_body, full_drives, drives_full, nets_drive, drive_nets, clocked_drive, drive_clocked, any_of, of_any, names_register, register_names}
use Rattle.test_judges.proofs.Deciding.{differ, and_left, and_right, and_both, or_cases, or_second, or_first, not_false, false_not, all_are, are_all, one_or, beside, same_beside, covered, uncovered, has_held, has_fits, each_bits, bits_each, driven_each, each_is_driven, keeps_each, each_is_kept, Has}

module _ (f : Flat) (can : CanElaborate f) where
  abbrev gs : List Signal
  gs = f.signals

  abbrev p : Place
  p = flat_place f

  abbrev signal_names : List Name
  signal_names = map (λ (g : Signal). g.name) gs

  text : IsText f
  text = text_is f can

  some : (g : Signal) → Among gs g → 1 ≤ g.width
  some g m = (can.wide g m).0

  -- a name that no signal has keeps its value
  off : BitsStay → (o : Bool) (k : Stmt) (c d : Cycle) (x : Name) → ((y : Name) → Among (assigned_by k) y → (g : Signal) × Among gs g × (g.name ≡ y)) → (Among signal_names x → ⊥) → run o p k c d x ≡ d x
  off stay o k c d x known n =
      same_from_bits (run o p k c d x) (d x) (λ b. stay o gs k c d x b (vectors gs can.plain) (λ left m h.
      let r = known x (drives_assigned p k x b (left, m, h)) in n (subst (λ y. Among signal_names y) r.2 (among_names gs r.0 r.1))))

  -- a statement, run at once on the cycle of some values
  gives_back : BitsStay → (k : Stmt) (vs : List ℕ) → AreValues gs vs → ((y : Name) → Among (assigned_by k) y → (g : Signal) × Among gs g × (g.name ≡ y))
      → each_same (run true p k (held gs vs) (held gs vs)) (whole gs) gs vs ≡ true → (x : Name) → run true p k (held gs vs) (held gs vs) x ≡ held gs vs x
  gives_back stay k vs h known t x = ⊎_elim (λ m. let r = among_map (λ (g : Signal). g.name) gs x m in subst (λ y. d y ≡ c y) r.2 (at r.0 r.1)) (λ n. off stay true k c c x known n) (among_or signal_names x)
    where
      c : Cycle
      c = held gs vs

      d : Cycle
      d = run true p k c c

      has : Has c gs vs
      has = has_held gs vs can.distinct h

      fits : AreFit gs c
      fits = has_fits c gs vs has h

      at : (g : Signal) → Among gs g → d g.name ≡ c g.name
      at g m = same_from_bits_below g.width (d g.name) (c g.name) (run_fits gs can.distinct can.plain true k c c fits g m) (fits g m)
          (λ b lt. each_bits (λ (z : Signal). ones 0 z.width) d c gs vs has t g m b (set_ones 0 g.width b (record { low = omega arith; high = lt })))

  back_gives : (k : Stmt) (vs : List ℕ) → AreValues gs vs → ((x : Name) → run true p k (held gs vs) (held gs vs) x ≡ held gs vs x) → each_same (run true p k (held gs vs) (held gs vs)) (whole gs) gs vs ≡ true
  back_gives k vs h same =
      bits_each (λ (z : Signal). ones 0 z.width) (run true p k (held gs vs) (held gs vs)) (held gs vs) gs vs (has_held gs vs can.distinct h) (λ g m b e. ap (λ n. bit_at n b) (same g.name))

  no_more : (xs : List Name) (x : Name) → Among (xs ++ []) x → Among xs x
  no_more [] x h = absurd h
  no_more (y ∷ xs) x h = ⊎_elim (λ i. inl i) (λ v. inr (no_more xs x v)) h

  known_assign : (a : Assign) → Among f.assigns a → (y : Name) → Among (assigned_by (s.Blocking a.left a.right)) y → (g : Signal) × Among gs g × (g.name ≡ y)
  known_assign a m y n = text.assigned a y m (no_more (left_names a.left) y n)

  -- ---- inputs and bits without a driver

  input_of : (x : Name) → is_input f.ports x ≡ true → IsInput f x
  input_of x t =
      let r = any_of (λ (q : TopPort). not q.output && bytes_eq q.name x) f.ports t in
      (r.0, r.1, not_false r.0.output (and_left (not r.0.output) (bytes_eq r.0.name x) r.2), (bytes_eq-Decides r.0.name x).0 (and_right (not r.0.output) (bytes_eq r.0.name x) r.2))

  of_input : (x : Name) → IsInput f x → is_input f.ports x ≡ true
  of_input x (q, m, o, n) = of_any (λ (z : TopPort). not z.output && bytes_eq z.name x) f.ports q m (and_both (not q.output) (bytes_eq q.name x) (false_not q.output o) ((bytes_eq-Decides q.name x).1 n))

  module _ (g : Signal) (m : Among gs g) where
    set_drives : (b : ℕ) → bit_at (bits_in (net_parts f) g) b ≡ 1 → IsDriven f g.name b
    set_drives b e = nets_drive f can.plain g.name b (g, m, refl) (bits_drive gs can.distinct g m (some g m) (net_parts f) b (nets_are f) e).1

    drives_set : (b : ℕ) → b < g.width → IsDriven f g.name b → bit_at (bits_in (net_parts f) g) b ≡ 1
    drives_set b lt d = drive_bits gs can.distinct g m (some g m) (net_parts f) b (nets_are f) lt (drive_nets f can.plain g.name b d)

    set_clocks : (b : ℕ) → bit_at (bits_in (clocked_parts f) g) b ≡ 1 → IsClocked f g.name b
    set_clocks b e = clocked_drive f can.plain g.name b (g, m, refl) (bits_drive gs can.distinct g m (some g m) (clocked_parts f) b (clocked_are f) e).1

    clocks_set : (b : ℕ) → b < g.width → IsClocked f g.name b → bit_at (bits_in (clocked_parts f) g) b ≡ 1
    clocks_set b lt d = drive_bits gs can.distinct g m (some g m) (clocked_parts f) b (clocked_are f) lt (drive_clocked f can.plain g.name b d)

    zero_not : (n : ℕ) → n ≡ 0 → n ≡ 1 → ⊥
    zero_not n e h = omega arith

    only_unset : (v b : ℕ) → only_driven f.ports (net_parts f) (clocked_parts f) g v ≡ true → (IsDriven f g.name b → ⊥) → (IsRegister f g.name → ⊥) → (IsInput f g.name → ⊥) → bit_at v b ≡ 0
    only_unset v b t nd nr ni =
        ⊎_elim (λ e. absurd (nr (names_register f can.plain g m e)))
        (λ u. ⊎_elim (λ e. absurd (ni (input_of g.name e)))
        (λ e. uncovered v bits b (eqb-true (bit_and v bits) v e) (⊎_elim (λ i. absurd (nd (set_drives b i))) (λ i. i) (one_or bits b)))
        (or_cases (is_input f.ports g.name) (nat_eq (bit_and v bits) v) u))
        (or_cases (names (clocked_parts f) g.name) (is_input f.ports g.name || nat_eq (bit_and v bits) v) t)
      where
        bits : ℕ
        bits = bits_in (net_parts f) g

    unset_only : (v : ℕ) → v < 2 ^ g.width → ((b : ℕ) → (IsDriven f g.name b → ⊥) → (IsRegister f g.name → ⊥) → (IsInput f g.name → ⊥) → bit_at v b ≡ 0) → only_driven f.ports (net_parts f) (clocked_parts f) g v ≡ true
    unset_only v fit h =
        ⊎_elim (λ e. or_first register rest e)
        (λ nr. or_second register rest (⊎_elim (λ e. or_first input (nat_eq (bit_and v bits) v) e)
        (λ ni. or_second input (nat_eq (bit_and v bits) v) (eq-eqb (bit_and v bits) v (covered v bits (λ b e. at nr ni b e (less_or b g.width)))))
        (bool_cases input)))
        (bool_cases register)
      where
        bits : ℕ
        bits = bits_in (net_parts f) g

        register : Bool
        register = names (clocked_parts f) g.name

        input : Bool
        input = is_input f.ports g.name

        rest : Bool
        rest = input || nat_eq (bit_and v bits) v

        at : register ≡ false → input ≡ false → (b : ℕ) → bit_at bits b ≡ 0 → (b < g.width) ⊎ (g.width ≤ b) → bit_at v b ≡ 0
        at nr ni b e (inl lt) = h b (λ d. zero_not (bit_at bits b) e (drives_set b lt d)) (λ r. differ (register_names f can.plain g.name r) nr) (λ i. differ (of_input g.name i) ni)
        at nr ni b e (inr le) = bit_at_above v g.width b fit le

    rest_kept : (v w b : ℕ) → keeps_rest (clocked_parts f) g v w ≡ true → IsRegister f g.name → (IsClocked f g.name b → ⊥) → bit_at w b ≡ bit_at v b
    rest_kept v w b t r n =
        ⊎_elim (λ e. absurd (differ (register_names f can.plain g.name r) (not_false (names (clocked_parts f) g.name) e)))
        (λ e. sym (beside v w bits b (eqb-true (bit_or v bits) (bit_or w bits) e) (⊎_elim (λ i. absurd (n (set_clocks b i))) (λ i. i) (one_or bits b))))
        (or_cases (not (names (clocked_parts f) g.name)) (nat_eq (bit_or v bits) (bit_or w bits)) t)
      where
        bits : ℕ
        bits = bits_in (clocked_parts f) g

    kept_rest : (v w : ℕ) → v < 2 ^ g.width → w < 2 ^ g.width → ((b : ℕ) → IsRegister f g.name → (IsClocked f g.name b → ⊥) → bit_at w b ≡ bit_at v b) → keeps_rest (clocked_parts f) g v w ≡ true
    kept_rest v w fv fw h =
        ⊎_elim (λ e. or_second (not register) (nat_eq (bit_or v bits) (bit_or w bits)) (eq-eqb (bit_or v bits) (bit_or w bits) (same_beside v w bits (λ b i. at e b i (less_or b g.width)))))
        (λ e. or_first (not register) (nat_eq (bit_or v bits) (bit_or w bits)) (false_not register e)) (bool_cases register)
      where
        bits : ℕ
        bits = bits_in (clocked_parts f) g

        register : Bool
        register = names (clocked_parts f) g.name

        at : register ≡ true → (b : ℕ) → bit_at bits b ≡ 0 → (b < g.width) ⊎ (g.width ≤ b) → bit_at v b ≡ bit_at w b
        at e b i (inl lt) = sym (h b (names_register f can.plain g m e) (λ d. zero_not (bit_at bits b) i (clocks_set b lt d)))
        at e b i (inr le) = bit_at_above v g.width b fv le ∙ sym (bit_at_above w g.width b fw le)

  -- ---- cycles

  pub cycle_if : BitsStay → (vs : List ℕ) → AreValues gs vs → is_cycle f vs ≡ true → IsCycle f (held gs vs)
  cycle_if stay vs h t =
      let assigns = and_left (list_all (assign_holds gs vs) f.assigns) rest t in
      let others = and_right (list_all (assign_holds gs vs) f.assigns) rest t in
      let blocks = and_left (list_all (block_holds gs vs) f.blocks) ports others in
      let driven = and_right (list_all (block_holds gs vs) f.blocks) ports others in
      record {
        fits = λ g w m n. let i = own_holder gs g w can.plain m n in subst (λ (z : Signal). held gs vs z.name < 2 ^ z.width) i (has_fits (held gs vs) gs vs has h g m);
        links = λ a m x. gives_back stay (s.Blocking a.left a.right) vs h (known_assign a m) (all_are (assign_holds gs vs) f.assigns assigns a m) x;
        blocks = λ k m e x. gives_back stay k.body vs h (λ y n. text.blocked k y m n) (unclocked k e (all_are (block_holds gs vs) f.blocks blocks k m)) x;
        unset = λ g w b m n nd nr ni.
            let i = own_holder gs g w can.plain m n in
            let P : Signal → Type 0 = λ z. (IsDriven f z.name b → ⊥) → (IsRegister f z.name → ⊥) → (IsInput f z.name → ⊥) → bit_at (held gs vs z.name) b ≡ 0 in
            subst P i (only_unset g m (held gs vs g.name) b (driven_each f.ports (net_parts f) (clocked_parts f) (held gs vs) gs vs has driven g m)) nd nr ni;
      }
    where
      ports : Bool
      ports = each_driven f.ports (net_parts f) (clocked_parts f) gs vs

      rest : Bool
      rest = list_all (block_holds gs vs) f.blocks && ports

      has : Has (held gs vs) gs vs
      has = has_held gs vs can.distinct h

      unclocked : (k : Always) → k.clocked ≡ false → block_holds gs vs k ≡ true → each_same (run true p k.body (held gs vs) (held gs vs)) (whole gs) gs vs ≡ true
      unclocked k e u = ⊎_elim (λ i. absurd (differ i e)) (λ i. i) (or_cases k.clocked (each_same (run true p k.body (held gs vs) (held gs vs)) (whole gs) gs vs) u)

  pub if_cycle : (vs : List ℕ) → AreValues gs vs → IsCycle f (held gs vs) → is_cycle f vs ≡ true
  if_cycle vs h c =
      and_both (list_all (assign_holds gs vs) f.assigns) (list_all (block_holds gs vs) f.blocks && ports) (are_all (assign_holds gs vs) f.assigns (λ a m. back_gives (s.Blocking a.left a.right) vs h (c.links a m)))
      (and_both (list_all (block_holds gs vs) f.blocks) ports (are_all (block_holds gs vs) f.blocks (λ k m. either k m (bool_cases k.clocked)))
      (each_is_driven f.ports (net_parts f) (clocked_parts f) (held gs vs) gs vs has
      (λ g m. unset_only g m (held gs vs g.name) (has_fits (held gs vs) gs vs has h g m) (λ b nd nr ni. c.unset g g b m (holds_itself gs g can.plain m) nd nr ni))))
    where
      ports : Bool
      ports = each_driven f.ports (net_parts f) (clocked_parts f) gs vs

      has : Has (held gs vs) gs vs
      has = has_held gs vs can.distinct h

      either : (k : Always) → Among f.blocks k → (k.clocked ≡ true) ⊎ (k.clocked ≡ false) → block_holds gs vs k ≡ true
      either k m (inl e) = or_first k.clocked (each_same (run true p k.body (held gs vs) (held gs vs)) (whole gs) gs vs) e
      either k m (inr e) = or_second k.clocked (each_same (run true p k.body (held gs vs) (held gs vs)) (whole gs) gs vs) (back_gives k.body vs h (c.blocks k m e))

  -- ---- cycles that follow

  module _ (vs ws : List ℕ) (hv : AreValues gs vs) (hw : AreValues gs ws) where
    abbrev now : Cycle
    now = held gs vs

    abbrev next : Cycle
    next = held gs ws

    abbrev given : Always → Bool
    given k = each_same (run false p k.body now now) (map (bits_in (body_parts k.body)) gs) gs ws

    has_now : Has now gs vs
    has_now = has_held gs vs can.distinct hv

    has_next : Has next gs ws
    has_next = has_held gs ws can.distinct hw

    fits_now : AreFit gs now
    fits_now = has_fits now gs vs has_now hv

    fits_next : AreFit gs next
    fits_next = has_fits next gs ws has_next hw

    driven_bit : (k : Always) → Among f.blocks k → given k ≡ true → (left : Lval) → Among (lefts k.body) left → (g : Signal) → Among gs g → (b : ℕ) → Drives p left g.name b → bit_at (next g.name) b ≡ bit_at (run false p k.body now now g.name) b
    driven_bit k m t left n g i b d = at (less_or b g.width)
      where
        at : (b < g.width) ⊎ (g.width ≤ b) → bit_at (next g.name) b ≡ bit_at (run false p k.body now now g.name) b
        at (inl lt) =
            sym (each_bits (bits_in (body_parts k.body)) (run false p k.body now now) next gs ws has_next t g i b
            (drive_bits gs can.distinct g i (some g i) (body_parts k.body) b (bodies_are k.body) lt (drives_body p g.name b k.body left n d)))
        at (inr le) =
            bit_at_above (next g.name) g.width b (fits_next g i) le
            ∙ sym (bit_at_above (run false p k.body now now g.name) g.width b (run_fits gs can.distinct can.plain false k.body now now fits_now g i) le)

    pub follows_if : follows f vs ws ≡ true → Follows f now next
    follows_if t = record {
      driven = λ k m e left n x b d.
          let dr = full_drives f can.plain x b left d in
          let r = text.blocked k x m (drives_assigned p k.body x b (left, n, dr)) in
          subst (λ y. bit_at (next y) b ≡ bit_at (run false p k.body now now y) b) r.2
          (driven_bit k m (gave k e (all_are (block_gives gs vs ws) f.blocks blocks k m)) left n r.0 r.1 b (subst (λ y. Drives p left y b) (sym r.2) dr));
      kept = λ x b r n.
          let i = own_holder gs r.3.2 r.3.4.1 can.plain r.3.3 r.3.4.2 in
          let e : r.3.2.name ≡ x = ap (λ (z : Signal). z.name) i ∙ sym r.3.4.3 in
          subst (λ y. IsRegister f y → (IsClocked f y b → ⊥) → bit_at (next y) b ≡ bit_at (now y) b) e
          (λ u o. rest_kept r.3.2 r.3.3 (now r.3.2.name) (next r.3.2.name) b (keeps_each (clocked_parts f) now next gs vs ws has_now has_next kept r.3.2 r.3.3) u o) r n;
    }
      where
        blocks : list_all (block_gives gs vs ws) f.blocks ≡ true
        blocks = and_left (list_all (block_gives gs vs ws) f.blocks) (each_keeps (clocked_parts f) gs vs ws) t

        kept : each_keeps (clocked_parts f) gs vs ws ≡ true
        kept = and_right (list_all (block_gives gs vs ws) f.blocks) (each_keeps (clocked_parts f) gs vs ws) t

        gave : (k : Always) → k.clocked ≡ true → block_gives gs vs ws k ≡ true → given k ≡ true
        gave k e u = ⊎_elim (λ i. absurd (differ e (not_false k.clocked i))) (λ i. i) (or_cases (not k.clocked) (given k) u)

    pub if_follows : Follows f now next → follows f vs ws ≡ true
    if_follows h =
        and_both (list_all (block_gives gs vs ws) f.blocks) (each_keeps (clocked_parts f) gs vs ws) (are_all (block_gives gs vs ws) f.blocks (λ k m. either k m (bool_cases k.clocked)))
        (each_is_kept (clocked_parts f) now next gs vs ws has_now has_next (λ g m. kept_rest g m (now g.name) (next g.name) (fits_now g m) (fits_next g m) (λ b r n. h.kept g.name b r n)))
      where
        either : (k : Always) → Among f.blocks k → (k.clocked ≡ true) ⊎ (k.clocked ≡ false) → block_gives gs vs ws k ≡ true
        either k m (inr e) = or_first (not k.clocked) (given k) (false_not k.clocked e)
        either k m (inl e) =
            or_second (not k.clocked) (given k)
            (bits_each (bits_in (body_parts k.body)) (run false p k.body now now) next gs ws has_next (λ g i b t.
            let q = bits_drive gs can.distinct g i (some g i) (body_parts k.body) b (bodies_are k.body) t in
            let r = body_drives p g.name b k.body q.1 in
            sym (h.driven k m e r.0 r.1 g.name b (drives_full f can.plain g.name b (g, i, refl) r.0 r.2))))
