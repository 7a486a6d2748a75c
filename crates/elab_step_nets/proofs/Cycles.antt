-- The cycles of a module are those that its nets are solved to, and what follows is what its clocked blocks leave.
use Rattle.std.proofs.Common.{◌≡◌, ℕ, ◌^◌, ◌<◌, ◌≤◌, Bool, true, false, List, [], ◌∷◌, ◌++◌, refl, sym, ap, ◌∙◌, subst, ◌⊎◌, inl, inr, ⊎_elim, map}
use Rattle.std.specs.Prelude.{if◌then◌else◌}
use Rattle.std.specs.Int.{bit_at}
use Rattle.std.proofs.lemmas.Bool.{eq-eqb}
use Rattle.std.proofs.lemmas.Nat.Bits.{same_from_bits, same_from_bits_below, bit_at_above}
use Rattle.vlog_tree.specs.declared.item.Assign.{Assign}
use Rattle.vlog_tree.specs.declared.stmt.Lval.{Lval, Row_of-Lval, end_of-Lval, more_of-Lval}
use Rattle.vlog_tree.specs.declared.stmt.Lval.TheVariants as l
use Rattle.vlog_tree.specs.declared.stmt.Stmt.{Stmt}
use Rattle.vlog_tree.specs.declared.stmt.Stmt.TheVariants as s
use Rattle.vlog_tree_runs.specs.declared.flat.Always.{Always}
use Rattle.vlog_tree_runs.specs.declared.flat.Flat.{Flat}
use Rattle.vlog_tree_runs.specs.declared.flat.Signal.{Signal}
use Rattle.vlog_tree_runs.specs.Places.{Name, Cycle, Among, Place, holders}
use Rattle.vlog_tree_runs.specs.Blocks.{run, lefts, left_names, row_names, Drives, AnyDrives}
use Rattle.vlog_tree_runs.specs.Cycles.{flat_place, IsRegister, IsInput, IsDriven, DrivesFull, IsCycle, Follows}
use Rattle.elab_flat_laws.proofs.Lists.{among_append, append_left, append_right, among_map, map_among, flat_among}
use Rattle.elab_step_laws.specs.Laws.{AreFit}
use Rattle.elab_step_nets.specs.Solving.{bodies, clocked, processes, assigned_by, after_edge, solved, joined, AreGroups, ArePlain, IsNet, IsNetOrder}
use Rattle.elab_step_nets.proofs.Solving.{DrivesBit, AreApart, Meets, stable, among_or, AreProcesses, solved_only, solved_meets}
use Rattle.elab_step_nets.proofs.Fitting.{less_or}

-- ---- what drives a bit of a name names it

append_names : (xs ys : List Name) (x : Name) → Among xs x ⊎ Among ys x → Among (xs ++ ys) x
append_names xs ys x h = ⊎_elim (λ m. append_left xs ys x m) (λ m. append_right xs ys x m) h

mutual
  pub drives_name : (p : Place) (left : Lval) (x : Name) (b : ℕ) → Drives p left x b → Among (left_names left) x
  drives_name p (l.Name y) x b h = inl h
  drives_name p (l.Select y a) x b h = inl h.0
  drives_name p (l.Part y span a c) x b h = inl h.0
  drives_name p (l.Concat' h row) x b d = any_name p row x b d

  any_name : {m : _} (p : Place) (row : Row_of-Lval m) (x : Name) (b : ℕ) → AnyDrives p row x b → Among (row_names row) x
  any_name p end_of-Lval x b d = d
  any_name p (more_of-Lval a rest) x b d =
      append_names (left_names a) (row_names rest) x (⊎_elim (λ h. inl (drives_name p a x b h)) (λ h. inr (any_name p rest x b h)) d)

pub drives_assigned : (p : Place) (k : Stmt) (x : Name) (b : ℕ) → DrivesBit p k x b → Among (assigned_by k) x
drives_assigned p k x b h = flat_among left_names (lefts k) h.0 x h.1 (drives_name p h.0 x b h.2)

-- ---- the statements of a module

listed_body : (t : Bool) (k : Always) (j : Stmt) (js : List Stmt) → k.clocked ≡ t → Among (if k.clocked then js else k.body ∷ js) j → ((k.clocked ≡ false) × (k.body ≡ j)) ⊎ Among js j
listed_body true k j js e m = inr (rw e at m)
listed_body false k j js e m = let u : Among (k.body ∷ js) j = rw e at m in ⊎_elim (λ i. inl (e, i)) (λ n. inr n) u

pub bodies_are : (ks : List Always) (j : Stmt) → Among (bodies ks) j → (k : Always) × Among ks k × (k.clocked ≡ false) × (k.body ≡ j)
bodies_are [] j m = absurd m
bodies_are (k ∷ ks) j m =
    ⊎_elim (λ h. (k, inl refl, h.0, h.1)) (λ n. let r = bodies_are ks j n in (r.0, inr r.1, r.2, r.3)) (listed_body k.clocked k j (bodies ks) refl m)

pub are_bodies : (ks : List Always) (k : Always) → Among ks k → k.clocked ≡ false → Among (bodies ks) k.body
are_bodies [] k m e = absurd m
are_bodies (j ∷ ks) k m e = ⊎_elim
    (λ (i : j ≡ k). let c : j.clocked ≡ false = ap (λ (z : Always). z.clocked) i ∙ e in rw c (inl (ap (λ (z : Always). z.body) i)))
    (λ n. more j.clocked j.body (bodies ks) k.body (are_bodies ks k n e)) m
  where
    more : (t : Bool) (b : Stmt) (js : List Stmt) (i : Stmt) → Among js i → Among (if t then js else b ∷ js) i
    more true b js i n = n
    more false b js i n = inr n

listed_clocked : (t : Bool) (k : Always) (j : Stmt) (js : List Stmt) → k.clocked ≡ t → Among (if k.clocked then k.body ∷ js else js) j → ((k.clocked ≡ true) × (k.body ≡ j)) ⊎ Among js j
listed_clocked true k j js e m = let u : Among (k.body ∷ js) j = rw e at m in ⊎_elim (λ i. inl (e, i)) (λ n. inr n) u
listed_clocked false k j js e m = inr (rw e at m)

pub clocked_are : (ks : List Always) (j : Stmt) → Among (clocked ks) j → (k : Always) × Among ks k × (k.clocked ≡ true) × (k.body ≡ j)
clocked_are [] j m = absurd m
clocked_are (k ∷ ks) j m =
    ⊎_elim (λ h. (k, inl refl, h.0, h.1)) (λ n. let r = clocked_are ks j n in (r.0, inr r.1, r.2, r.3)) (listed_clocked k.clocked k j (clocked ks) refl m)

pub are_clocked : (ks : List Always) (k : Always) → Among ks k → k.clocked ≡ true → Among (clocked ks) k.body
are_clocked [] k m e = absurd m
are_clocked (j ∷ ks) k m e = ⊎_elim
    (λ (i : j ≡ k). let c : j.clocked ≡ true = ap (λ (z : Always). z.clocked) i ∙ e in rw c (inl (ap (λ (z : Always). z.body) i)))
    (λ n. more j.clocked j.body (clocked ks) k.body (are_clocked ks k n e)) m
  where
    more : (t : Bool) (b : Stmt) (js : List Stmt) (i : Stmt) → Among js i → Among (if t then b ∷ js else js) i
    more true b js i n = inr n
    more false b js i n = n

abbrev assign_stmt : Assign → Stmt
assign_stmt a = s.Blocking a.left a.right

pub processes_are : (f : Flat) (j : Stmt) → Among (processes f) j → ((a : Assign) × Among f.assigns a × (assign_stmt a ≡ j)) ⊎ ((k : Always) × Among f.blocks k × (k.clocked ≡ false) × (k.body ≡ j))
processes_are f j m =
    ⊎_elim (λ h. inl (among_map assign_stmt f.assigns j h)) (λ h. inr (bodies_are f.blocks j h)) (among_append (map assign_stmt f.assigns) (bodies f.blocks) j m)

pub is_assign : (f : Flat) (a : Assign) → Among f.assigns a → Among (processes f) (assign_stmt a)
is_assign f a m = append_left (map assign_stmt f.assigns) (bodies f.blocks) (assign_stmt a) (map_among assign_stmt f.assigns a m)

pub is_body : (f : Flat) (k : Always) → Among f.blocks k → k.clocked ≡ false → Among (processes f) k.body
is_body f k m e = append_right (map assign_stmt f.assigns) (bodies f.blocks) k.body (are_bodies f.blocks k m e)

-- ---- signals that aren't memories

pub plain_signal : (gs : List Signal) (g : Signal) → ArePlain gs → Among gs g → g.depth ≡ 0
plain_signal [] g z m = absurd m
plain_signal (h ∷ gs) g z m = ⊎_elim (λ (e : h ≡ g). sym (ap (λ (k : Signal). k.depth) e) ∙ z.0) (λ n. plain_signal gs g z.1 n) m

pub own_holder : (gs : List Signal) (g w : Signal) → ArePlain gs → Among gs g → Among (holders g) w → g ≡ w
own_holder gs g w z m h = let u : Among (g ∷ []) w = rw (eq-eqb g.depth 0 (plain_signal gs g z m)) at h in ⊎_elim (λ e. e) (λ n. absurd n) u

pub holds_itself : (gs : List Signal) (g : Signal) → ArePlain gs → Among gs g → Among (holders g) g
holds_itself gs g z m = rw (eq-eqb g.depth 0 (plain_signal gs g z m)) (inl refl)

-- ---- which bits are driven

-- a name is that of a signal
abbrev pub Declares : List Signal → Name → Type 0
Declares gs x = (g : Signal) × Among gs g × (g.name ≡ x)

module _ (f : Flat) (plain : ArePlain f.signals) where
  full_drives : (left : Lval) (x : Name) (b : ℕ) → DrivesFull (flat_place f) left x b → Drives (flat_place f) left x b
  full_drives left x b h =
      ⊎_elim (λ k. subst (λ y. Drives (flat_place f) left y b) (sym k.3) k.4)
      (λ k. let t : true ≡ false = sym (eq-eqb k.0.depth 0 (plain_signal f.signals k.0 plain k.1)) ∙ k.2 in absurd (let u : true ≡ false = t in cc)) h

  drives_full : (left : Lval) (x : Name) (b : ℕ) → Declares f.signals x → Drives (flat_place f) left x b → DrivesFull (flat_place f) left x b
  drives_full left x b (g, m, e) h = inl (g, m, eq-eqb g.depth 0 (plain_signal f.signals g plain m), sym e, subst (λ y. Drives (flat_place f) left y b) (sym e) h)

  -- what drives a bit is a continuous assignment or a combinational block
  driven_by : (x : Name) (b : ℕ) → IsDriven f x b → (k : Stmt) × Among (processes f) k × DrivesBit (flat_place f) k x b
  driven_by x b h =
      ⊎_elim (λ a. (assign_stmt a.0, is_assign f a.0 a.1, (a.0.left, inl refl, full_drives a.0.left x b a.2)))
      (λ c. (c.0.body, is_body f c.0 c.1 c.2, (c.3, c.4, full_drives c.3 x b c.5))) h

  is_driven : (k : Stmt) (x : Name) (b : ℕ) → Declares f.signals x → Among (processes f) k → DrivesBit (flat_place f) k x b → IsDriven f x b
  is_driven k x b declared m d =
      ⊎_elim
      (λ a. let e : DrivesBit (flat_place f) (assign_stmt a.0) x b = subst (λ z. DrivesBit (flat_place f) z x b) (sym a.2) d in
      inl (a.0, a.1, drives_full a.0.left x b declared (⊎_elim (λ (i : a.0.left ≡ e.0). subst (λ z. Drives (flat_place f) z x b) (sym i) e.2) (λ n. absurd n) e.1)))
      (λ a. let e : DrivesBit (flat_place f) a.0.body x b = subst (λ z. DrivesBit (flat_place f) z x b) (sym a.3) d in
      inr (a.0, a.1, a.2, e.0, e.1, drives_full e.0 x b declared e.2))
      (processes_are f k m)

-- what is known of a module whose nets can be solved
pub record IsSolvable (f : Flat) (depends : Name → Name → Type 0) (width : Name → ℕ) : Type 0 where
  pub plain : ArePlain f.signals
  pub laws : AreProcesses (flat_place f) f.signals (processes f) (IsNet f) depends width
  pub declared : (k : Stmt) (x : Name) → Among (processes f) k → Among (assigned_by k) x → (g : Signal) × Among f.signals g × (g.name ≡ x)
  pub sources : (g : Signal) → Among f.signals g → IsRegister f g.name ⊎ IsInput f g.name → (k : Stmt) (b : ℕ) → Among (processes f) k → b < g.width → DrivesBit (flat_place f) k g.name b → ⊥
  pub widths : (g : Signal) → Among f.signals g → width g.name ≡ g.width

module _ (f : Flat) (depends : Name → Name → Type 0) (width : Name → ℕ) (can : IsSolvable f depends width) where
  -- in a cycle each net has what drives it
  cycle_meets : (c : Cycle) → IsCycle f c → (x : Name) → IsNet f x → Meets (flat_place f) (processes f) x (width x) c
  cycle_meets c h x is = record {
    driven_bits = λ k b m l d. ap (λ n. bit_at n b) (by k m);
    other_bits = λ b l n.
        subst (λ y. bit_at (c y) b ≡ 0) is.named
        (h.unset is.signal is.signal b is.is_declared (holds_itself f.signals is.signal can.plain is.is_declared)
        (λ d. let r = driven_by f can.plain is.signal.name b d in n r.0 r.1 (subst (λ y. DrivesBit (flat_place f) r.0 y b) is.named r.2))
        (λ r. is.no_register (subst (λ y. IsRegister f y) is.named r)) (λ r. is.no_input (subst (λ y. IsInput f y) is.named r)));
  }
    where
      assigned : (a : Assign) (k : Stmt) → Among f.assigns a → assign_stmt a ≡ k → run true (flat_place f) k c c x ≡ c x
      assigned a k m e = let P : Stmt → Type 0 = λ j. run true (flat_place f) j c c x ≡ c x in subst P e (h.links a m x)

      blocked : (a : Always) (k : Stmt) → Among f.blocks a → a.clocked ≡ false → a.body ≡ k → run true (flat_place f) k c c x ≡ c x
      blocked a k m t e = let P : Stmt → Type 0 = λ j. run true (flat_place f) j c c x ≡ c x in subst P e (h.blocks a m t x)

      by : (k : Stmt) → Among (processes f) k → run true (flat_place f) k c c x ≡ c x
      by k m = ⊎_elim (λ a. assigned a.0 k a.1 a.2) (λ a. blocked a.0 k a.1 a.2 a.3) (processes_are f k m)

  -- a cycle that they all meet is given back by each
  given_back : (c : Cycle) → AreFit f.signals c → ((x : Name) → IsNet f x → Meets (flat_place f) (processes f) x (width x) c) → ((g : Signal) → Among f.signals g → IsNet f g.name ⊎ (IsRegister f g.name ⊎ IsInput f g.name))
      → (k : Stmt) → Among (processes f) k → (x : Name) → run true (flat_place f) k c c x ≡ c x
  given_back c fits meets kinds k m x = by
    where
      stay : (Among (assigned_by k) x → ⊥) → run true (flat_place f) k c c x ≡ c x
      stay n = same_from_bits (run true (flat_place f) k c c x) (c x) (λ b. can.laws.stays k m x b c (λ d. n (drives_assigned (flat_place f) k x b d)))

      assigned : (g : Signal) → Among f.signals g → g.name ≡ x → run true (flat_place f) k c c x ≡ c x
      assigned g u e =
          subst (λ y. run true (flat_place f) k c c y ≡ c y) e
          (same_from_bits_below g.width (run true (flat_place f) k c c g.name) (c g.name) (can.laws.fits k m c fits g u) (fits g u)
          (λ b l. stable (bit_at (run true (flat_place f) k c c g.name) b) (bit_at (c g.name) b) (λ n.
          n (can.laws.stays k m g.name b c (λ d. n (⊎_elim
          (λ (is : IsNet f g.name). (meets g.name is).driven_bits k b m (subst (λ w. b < w) (sym (can.widths g u)) l) d)
          (λ z. absurd (can.sources g u z k b m l d)) (kinds g u)))))))

      by : run true (flat_place f) k c c x ≡ c x
      by = ⊎_elim (λ n. assigned (can.declared k x m n).0 (can.declared k x m n).1 (can.declared k x m n).2) stay (among_or (assigned_by k) x)

  meets_cycle : (c : Cycle) → AreFit f.signals c → ((x : Name) → IsNet f x → Meets (flat_place f) (processes f) x (width x) c) → ((g : Signal) → Among f.signals g → IsNet f g.name ⊎ (IsRegister f g.name ⊎ IsInput f g.name)) → IsCycle f c
  meets_cycle c fits meets kinds = record {
    fits = λ g w m h. subst (λ (z : Signal). c z.name < 2 ^ z.width) (own_holder f.signals g w can.plain m h) (fits g m);
    links = λ a m x. given_back c fits meets kinds (assign_stmt a) (is_assign f a m) x;
    blocks = λ k m e x. given_back c fits meets kinds k.body (is_body f k m e) x;
    unset = λ g w b m h nd nr ni. subst (λ (z : Signal). (IsDriven f z.name b → ⊥) → (IsRegister f z.name → ⊥) → (IsInput f z.name → ⊥) → bit_at (c z.name) b ≡ 0) (own_holder f.signals g w can.plain m h) (undriven g b m) nd nr ni;
  }
    where
      undriven : (g : Signal) (b : ℕ) → Among f.signals g → (IsDriven f g.name b → ⊥) → (IsRegister f g.name → ⊥) → (IsInput f g.name → ⊥) → bit_at (c g.name) b ≡ 0
      undriven g b m nd nr ni =
          ⊎_elim
          (λ (l : b < g.width). (meets g.name (record { signal = g; is_declared = m; named = refl; no_register = nr; no_input = ni })).other_bits b (subst (λ w. b < w) (sym (can.widths g m)) l)
          (λ k u d. nd (is_driven f can.plain k g.name b (g, m, refl) u d)))
          (λ l. bit_at_above (c g.name) g.width b (fits g m) l) (less_or b g.width)

  -- the cycles are those that nets are solved to
  pub cycle_solved : (xss : List (List Name)) (start c : Cycle) → IsNetOrder f depends (joined xss) → AreGroups (processes f) depends xss → AreFit f.signals start → ((z : Name) → (Among (joined xss) z → ⊥) → start z ≡ c z) → IsCycle f c
      → (z : Name) → solved (flat_place f) (processes f) xss start z ≡ c z
  cycle_solved xss start c o groups fits agree h =
      solved_only (flat_place f) f.signals (processes f) (IsNet f) depends width can.laws xss start c o.order groups o.nets fits (λ g m. h.fits g g m (holds_itself f.signals g can.plain m)) agree
      (λ x m. cycle_meets c h x (o.nets x m))

  pub solved_cycle : (xss : List (List Name)) (start c : Cycle) → IsNetOrder f depends (joined xss) → AreGroups (processes f) depends xss → AreFit f.signals start → AreFit f.signals c
      → ((z : Name) → solved (flat_place f) (processes f) xss start z ≡ c z) → IsCycle f c
  solved_cycle xss start c o groups fs fc h =
      meets_cycle c fc
      (λ x is. solved_meets (flat_place f) f.signals (processes f) (IsNet f) depends width can.laws xss start c o.order groups o.nets fs fc h x (listed_net x is))
      (λ g m. ⊎_elim (λ n. inl (o.nets g.name n)) (λ n. inr n) (o.others g m))
    where
      listed_net : (x : Name) → IsNet f x → Among (joined xss) x
      listed_net x is =
          ⊎_elim (λ m. subst (λ y. Among (joined xss) y) is.named m)
          (λ n. absurd (⊎_elim (λ r. is.no_register (subst (λ y. IsRegister f y) is.named r)) (λ r. is.no_input (subst (λ y. IsInput f y) is.named r)) n))
          (o.others is.signal is.is_declared)

-- ---- what follows

-- what is known of the clocked blocks
pub record AreClocked (f : Flat) : Type 0 where
  pub plain : ArePlain f.signals
  pub stays : (k : Stmt) → Among (clocked f.blocks) k → (x : Name) (b : ℕ) (c d : Cycle) → (DrivesBit (flat_place f) k x b → ⊥) → bit_at (run false (flat_place f) k c d x) b ≡ bit_at (d x) b
  pub alone : (k : Stmt) → Among (clocked f.blocks) k → (x : Name) (b : ℕ) (c d e : Cycle) → bit_at (d x) b ≡ bit_at (e x) b → bit_at (run false (flat_place f) k c d x) b ≡ bit_at (run false (flat_place f) k c e x) b
  pub fits : (k : Stmt) → Among (clocked f.blocks) k → (c d : Cycle) → AreFit f.signals d → AreFit f.signals (run false (flat_place f) k c d)
  pub apart : (g : Signal) (b : ℕ) → Among f.signals g → b < g.width → AreApart (flat_place f) (clocked f.blocks) g.name b
  pub declared : (k : Stmt) (x : Name) → Among (clocked f.blocks) k → Among (assigned_by k) x → (g : Signal) × Among f.signals g × (g.name ≡ x)

module _ (f : Flat) (can : AreClocked f) where
  abbrev p : Place
  p = flat_place f

  edge_fits : (ks : List Stmt) (c d : Cycle) → ((k : Stmt) → Among ks k → Among (clocked f.blocks) k) → AreFit f.signals d → AreFit f.signals (after_edge p ks c d)
  edge_fits [] c d i h = h
  edge_fits (k ∷ ks) c d i h = edge_fits ks c (run false p k c d) (λ j m. i j (inr m)) (can.fits k (i k (inl refl)) c d h)

  edge_stays : (ks : List Stmt) (x : Name) (b : ℕ) (c d : Cycle) → ((k : Stmt) → Among ks k → Among (clocked f.blocks) k) → ((k : Stmt) → Among ks k → DrivesBit p k x b → ⊥) → bit_at (after_edge p ks c d x) b ≡ bit_at (d x) b
  edge_stays [] x b c d i n = refl
  edge_stays (k ∷ ks) x b c d i n = edge_stays ks x b c (run false p k c d) (λ j m. i j (inr m)) (λ j m. n j (inr m)) ∙ can.stays k (i k (inl refl)) x b c d (n k (inl refl))

  edge_taken : (ks : List Stmt) (x : Name) (b : ℕ) (c d : Cycle) (k : Stmt) → ((j : Stmt) → Among ks j → Among (clocked f.blocks) j) → AreApart p ks x b → Among ks k → DrivesBit p k x b → bit_at (d x) b ≡ bit_at (c x) b
      → bit_at (after_edge p ks c d x) b ≡ bit_at (run false p k c c x) b
  edge_taken [] x b c d k i a m h e = absurd m
  edge_taken (j ∷ ks) x b c d k i a m h e =
      ⊎_elim
      (λ (q : j ≡ k).
      edge_stays ks x b c (run false p j c d) (λ t u. i t (inr u)) (λ t u v. a.0 (subst (λ z. DrivesBit p z x b) (sym q) h) t u v)
      ∙ can.alone j (i j (inl refl)) x b c d c e ∙ ap (λ z. bit_at (run false p z c c x) b) q)
      (λ (q : Among ks k).
      edge_taken ks x b c (run false p j c d) k (λ t u. i t (inr u)) a.1 q h (can.stays j (i j (inl refl)) x b c d (λ u. a.0 u k q h) ∙ e))
      m

  is_register : (k : Always) → Among f.blocks k → k.clocked ≡ true → (x : Name) → Among (assigned_by k.body) x → IsRegister f x
  is_register k m e x n =
      let r = can.declared k.body x (are_clocked f.blocks k m e) n in
      (k, m, e, (x, n, r.0, r.1, (r.2, r.0, holds_itself f.signals r.0 can.plain r.1, sym r.2)))

  register_declared : (x : Name) → IsRegister f x → (g : Signal) × Among f.signals g × (g.name ≡ x)
  register_declared x r =
      (r.3.2, r.3.3, ap (λ (z : Signal). z.name) (own_holder f.signals r.3.2 r.3.4.1 can.plain r.3.3 r.3.4.2) ∙ sym r.3.4.3)

  follows_at : (c e : Cycle) → AreFit f.signals c → AreFit f.signals e → Follows f c e → (g : Signal) → Among f.signals g → IsRegister f g.name → e g.name ≡ after_edge p (clocked f.blocks) c c g.name
  follows_at c e fc fe h g m r =
      same_from_bits_below g.width (e g.name) (after_edge p (clocked f.blocks) c c g.name) (fe g m) (edge_fits (clocked f.blocks) c c (λ k u. u) fc g m)
      (λ b l. stable (bit_at (e g.name) b) (bit_at (after_edge p (clocked f.blocks) c c g.name) b) (λ n.
      let none : (k : Stmt) → Among (clocked f.blocks) k → DrivesBit p k g.name b → ⊥ = λ k u d.
      let a = clocked_are f.blocks k u in
      let v : DrivesBit p a.0.body g.name b = subst (λ z. DrivesBit p z g.name b) (sym a.3) d in
      n (h.driven a.0 a.1 a.2 v.0 v.1 g.name b (drives_full f can.plain v.0 g.name b (g, m, refl) v.2)
      ∙ sym (edge_taken (clocked f.blocks) g.name b c c a.0.body (λ j z. z) (can.apart g b m l) (are_clocked f.blocks a.0 a.1 a.2) v refl)) in
      n (h.kept g.name b r (λ z. none z.0.body (are_clocked f.blocks z.0 z.1 z.2) (z.3, z.4, full_drives f can.plain z.3 g.name b z.5))
      ∙ sym (edge_stays (clocked f.blocks) g.name b c c (λ k u. u) none))))

  pub follows_edge : (c e : Cycle) → AreFit f.signals c → AreFit f.signals e → Follows f c e → (x : Name) → IsRegister f x → e x ≡ after_edge p (clocked f.blocks) c c x
  follows_edge c e fc fe h x r =
      let u = register_declared x r in
      subst (λ y. e y ≡ after_edge p (clocked f.blocks) c c y) u.2 (follows_at c e fc fe h u.0 u.1 (subst (λ y. IsRegister f y) (sym u.2) r))

  pub edge_follows : (c e : Cycle) → AreFit f.signals c → AreFit f.signals e → ((x : Name) → IsRegister f x → e x ≡ after_edge p (clocked f.blocks) c c x) → Follows f c e
  edge_follows c e fc fe h = record {
    driven = λ k m t left n x b d.
        let is : DrivesBit p k.body x b = (left, n, full_drives f can.plain left x b d) in
        let a : Among (assigned_by k.body) x = drives_assigned p k.body x b is in
        let u = can.declared k.body x (are_clocked f.blocks k m t) a in
        let same : e x ≡ after_edge p (clocked f.blocks) c c x = h x (is_register k m t x a) in
        ⊎_elim
        (λ (l : b < u.0.width). ap (λ z. bit_at z b) same ∙ edge_taken (clocked f.blocks) x b c c k.body (λ j z. z) (subst (λ y. AreApart p (clocked f.blocks) y b) u.2 (can.apart u.0 b u.1 l)) (are_clocked f.blocks k m t) is refl)
        (λ (l : u.0.width ≤ b). subst (λ y. bit_at (e y) b ≡ bit_at (run false p k.body c c y) b) u.2
        (bit_at_above (e u.0.name) u.0.width b (fe u.0 u.1) l ∙ sym (bit_at_above (run false p k.body c c u.0.name) u.0.width b (can.fits k.body (are_clocked f.blocks k m t) c c fc u.0 u.1) l)))
        (less_or b u.0.width);
    kept = λ x b r n.
        ap (λ z. bit_at z b) (h x r)
        ∙ edge_stays (clocked f.blocks) x b c c (λ k m. m)
        (λ k m d. let a = clocked_are f.blocks k m in
        let d' : DrivesBit p a.0.body x b = subst (λ z. DrivesBit p z x b) (sym a.3) d in
        n (a.0, a.1, a.2, d'.0, d'.1, drives_full f can.plain d'.0 x b (register_declared x r) d'.2));
  }
