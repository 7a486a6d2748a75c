-- The bits that parts of left sides name are those that left sides drive.
use Rattle.std.proofs.Common.{◌≡◌, ◌≢◌, ℕ, ◌<◌, ◌≤◌, max, ◌⊎◌, inl, inr, ⊎_elim, Bool, true, false, List, [], ◌∷◌, map, Option, Some, None, arith, refl, sym, ap, ◌∙◌, subst, nat_eq}
use Rattle.std.specs.Prelude.{min, bit_or, pos, ◌-ℤ◌, unwrap_or, if◌then◌else◌}
use Rattle.std.specs.Option.{option_map}
use Rattle.std.specs.Int.{bit_at}
use Rattle.std.specs.List.{list_any}
use Rattle.std.specs.Str.{bytes_eq}
use Rattle.std.proofs.lemmas.Bool.{eq-eqb}
use Rattle.std.proofs.lemmas.Bool.Decides.{eqb_tells}
use Rattle.std.proofs.lemmas.Slice.Eq.{bytes_eq-Decides}
use Rattle.std.proofs.lemmas.Nat.Bits.{bit_at_or, bit_at-lt, bit_at-zero}
use Rattle.vlog_tree.specs.declared.item.Assign.{Assign}
use Rattle.vlog_tree.specs.declared.stmt.Lval.{Lval}
use Rattle.vlog_tree.specs.declared.stmt.Lval.TheVariants as l
use Rattle.vlog_tree.specs.declared.stmt.Stmt.{Stmt}
use Rattle.vlog_tree.specs.Value.{natural}
use Rattle.vlog_tree_runs.specs.declared.flat.Always.{Always}
use Rattle.vlog_tree_runs.specs.declared.flat.Flat.{Flat}
use Rattle.vlog_tree_runs.specs.declared.flat.Signal.{Signal}
use Rattle.vlog_tree_runs.specs.Places.{Name, Place, Among}
use Rattle.vlog_tree_runs.specs.Blocks.{lefts, left_names, Drives}
use Rattle.vlog_tree_runs.specs.Cycles.{flat_place, DrivesFull, IsDriven, IsRegister, IsClocked}
use Rattle.elab_flat_laws.proofs.Lists.{among_append, append_left, append_right, among_flat, flat_among}
use Rattle.elab_flat_faults.specs.Drivers.{parts_of}
use Rattle.elab_flat_drivers.specs.declared.claims.Run.{Run}
use Rattle.elab_flat_drivers.specs.declared.claims.Spot.{Spot}
use Rattle.elab_flat_drivers.specs.Claims.{ones, claim_at, part_name, part_run, spot_in}
use Rattle.elab_flat_drivers.specs.Names.{is_same}
use Rattle.elab_flat_drivers.proofs.Naming.{parts_names}
use Rattle.elab_flat_drivers.proofs.Parting.{IsPiece, AnyPart, claimed, claims, parts_are, parts_drive, drives_parts}
use Rattle.elab_flat_drivers.proofs.Spots.{width_is, low_is, has_spot}
use Rattle.elab_step_laws.specs.Laws.{place_over}
use Rattle.elab_step_nets.specs.Solving.{AreDistinct, ArePlain}
use Rattle.elab_step_nets.proofs.Solving.{bool_cases}
use Rattle.elab_step_nets.proofs.Fitting.{found_signal}
use Rattle.elab_step_nets.proofs.Cycles.{Declares, plain_signal, own_holder, holds_itself}
use Rattle.elab_step_nets.proofs.Elaborating.{wide_as}
use Rattle.test_judges.specs.Driving.{spot_of, part_bits, bits_in, names, body_parts, chosen_parts, block_parts, assign_parts, net_parts, clocked_parts}

-- ---- bits

or_bits : (x y b : ℕ) → bit_at (bit_or x y) b ≡ 1 → (bit_at x b ≡ 1) ⊎ (bit_at y b ≡ 1)
or_bits x y b h = by_max (bit_at x b) (bit_at y b) (bit_at-lt x b) (bit_at-lt y b) (sym (bit_at_or x y b) ∙ h)
  where
    by_max : (m n : ℕ) → m < 2 → n < 2 → max m n ≡ 1 → (m ≡ 1) ⊎ (n ≡ 1)
    by_max m n f g h = elim (eqb_tells m 1) [ inl e ↦ inl e.1 | inr e ↦ (let z : m ≢ 1 = e.1 in inr (omega arith)) ]

bits_or : (x y b : ℕ) → (bit_at x b ≡ 1) ⊎ (bit_at y b ≡ 1) → bit_at (bit_or x y) b ≡ 1
bits_or x y b h = bit_at_or x y b ∙ by_max (bit_at x b) (bit_at y b) (bit_at-lt x b) (bit_at-lt y b) h
  where
    by_max : (m n : ℕ) → m < 2 → n < 2 → (m ≡ 1) ⊎ (n ≡ 1) → max m n ≡ 1
    by_max m n f g (inl h) = omega arith
    by_max m n f g (inr h) = omega arith

no_bit : (n b : ℕ) → n ≡ 0 → bit_at n b ≡ 1 → ⊥
no_bit n b e h = let z : bit_at n b ≡ 0 = ap (λ k. bit_at k b) e ∙ bit_at-zero b in omega arith

-- ---- the bits of one signal

module _ (gs : List Signal) (distinct : AreDistinct (map (λ (h : Signal). h.name) gs)) (g : Signal) (m : Among gs g) (some : 1 ≤ g.width) where
  spot : (s : Spot) × (spot_in gs g.name ≡ Some s)
  spot = has_spot gs g.name 0 (subst (λ w. 0 < w) (sym (wide_as gs distinct g m)) (omega (arith, some)))

  spot_width : spot.0.width ≡ g.width
  spot_width = sym (width_is gs g.name spot.0 spot.1) ∙ wide_as gs distinct g m

  spot_low : spot.0.low ≡ g.low
  spot_low = sym (low_is gs g.name spot.0 spot.1) ∙ ap (λ (o : Option Signal). unwrap_or (option_map (λ (k : Signal). k.low) o) 0) (found_signal gs g distinct m)

  same_claim : (r : Option Run) → (claim_at spot.0 r).bits ≡ (claim_at (spot_of g) r).bits
  same_claim None = ap (ones 0) spot_width
  same_claim (Some r) = λ i. ones (min (spot_width i) (natural (r.from -ℤ pos (spot_low i)))) (min (spot_width i) (natural (r.to -ℤ pos (spot_low i))))

  part_drives : (q : Lval) (b : ℕ) → IsPiece q → bit_at (part_bits g q) b ≡ 1 → (b < g.width) × Drives (place_over gs) q g.name b
  part_drives q b t h = ⊎_elim (λ (e : bytes_eq (part_name q) g.name ≡ true). own e (rw e at h)) (λ (e : bytes_eq (part_name q) g.name ≡ false). absurd (no_bit 0 b refl (rw e at h))) (bool_cases (bytes_eq (part_name q) g.name))
    where
      own : bytes_eq (part_name q) g.name ≡ true → bit_at (claim_at (spot_of g) (part_run q)).bits b ≡ 1 → (b < g.width) × Drives (place_over gs) q g.name b
      own e k =
          let n : part_name q ≡ g.name = (bytes_eq-Decides (part_name q) g.name).0 e in
          let r = claimed gs spot.0 b q t (ap (spot_in gs) n ∙ spot.1) (ap (λ z. bit_at z b) (same_claim (part_run q)) ∙ k) in
          (subst (λ w. b < w) spot_width r.0, subst (λ x. Drives (place_over gs) q x b) n r.1)

  drives_part : (q : Lval) (b : ℕ) → IsPiece q → b < g.width → Drives (place_over gs) q g.name b → bit_at (part_bits g q) b ≡ 1
  drives_part q b t lt d =
      let r = claims gs spot.0 b q g.name t spot.1 (subst (λ w. b < w) (sym spot_width) lt) d in
      rw ((bytes_eq-Decides (part_name q) g.name).1 r.0) (ap (λ z. bit_at z b) (sym (same_claim (part_run q))) ∙ r.1)

  pub bits_drive : (qs : List Lval) (b : ℕ) → ((q : Lval) → Among qs q → IsPiece q) → bit_at (bits_in qs g) b ≡ 1 → (b < g.width) × AnyPart (place_over gs) g.name b qs
  bits_drive [] b t h = absurd (no_bit 0 b refl h)
  bits_drive (q ∷ qs) b t h =
      ⊎_elim (λ k. let r = part_drives q b (t q (inl refl)) k in (r.0, (q, inl refl, r.1)))
      (λ k. let r = bits_drive qs b (λ z n. t z (inr n)) k in (r.0, (r.1.0, inr r.1.1, r.1.2)))
      (or_bits (part_bits g q) (bits_in qs g) b h)

  pub drive_bits : (qs : List Lval) (b : ℕ) → ((q : Lval) → Among qs q → IsPiece q) → b < g.width → AnyPart (place_over gs) g.name b qs → bit_at (bits_in qs g) b ≡ 1
  drive_bits [] b t lt h = absurd h.1
  drive_bits (q ∷ qs) b t lt h =
      bits_or (part_bits g q) (bits_in qs g) b
      (⊎_elim (λ (e : q ≡ h.0). inl (drives_part q b (t q (inl refl)) lt (subst (λ z. Drives (place_over gs) z g.name b) (sym e) h.2)))
      (λ (n : Among qs h.0). inr (drive_bits qs b (λ z k. t z (inr k)) lt (h.0, n, h.2))) h.1)

-- ---- the parts of a module

pub bodies_are : (body : Stmt) (q : Lval) → Among (body_parts body) q → IsPiece q
bodies_are body q h = let r = among_flat parts_of (lefts body) q h in parts_are r.0 q r.2

pub chosen : (clocked : Bool) (ks : List Always) (q : Lval) → Among (block_parts clocked ks) q → (k : Always) × Among ks k × (k.clocked ≡ clocked) × Among (body_parts k.body) q
chosen clocked ks q h = let r = among_flat (chosen_parts clocked) ks q h in by clocked r.0 r.0.clocked refl r.1 r.2
  where
    by : (t : Bool) (k : Always) (u : Bool) → k.clocked ≡ u → Among ks k → Among (if is_same t u then body_parts k.body else []) q → (k : Always) × Among ks k × (k.clocked ≡ t) × Among (body_parts k.body) q
    by true k true e m n = (k, m, e, n)
    by true k false e m n = absurd n
    by false k true e m n = absurd n
    by false k false e m n = (k, m, e, n)

into_chosen : (clocked : Bool) (ks : List Always) (k : Always) (q : Lval) → Among ks k → k.clocked ≡ clocked → Among (body_parts k.body) q → Among (block_parts clocked ks) q
into_chosen clocked ks k q m e n = flat_among (chosen_parts clocked) ks k q m (by clocked k.clocked e)
  where
    by : (t u : Bool) → u ≡ t → Among (if is_same t u then body_parts k.body else []) q
    by true true e = n
    by true false e = cc
    by false true e = cc
    by false false e = n

pub clocked_are : (f : Flat) (q : Lval) → Among (clocked_parts f) q → IsPiece q
clocked_are f q h = let r = chosen true f.blocks q h in bodies_are r.0.body q r.3

pub nets_are : (f : Flat) (q : Lval) → Among (net_parts f) q → IsPiece q
nets_are f q h =
    ⊎_elim (λ n. let r = among_flat (λ (a : Assign). parts_of a.left) f.assigns q n in parts_are r.0.left q r.2) (λ n. let r = chosen false f.blocks q n in bodies_are r.0.body q r.3)
    (among_append (assign_parts f.assigns) (block_parts false f.blocks) q h)

module _ (p : Place) (x : Name) (b : ℕ) where
  pub body_drives : (body : Stmt) → AnyPart p x b (body_parts body) → (left : Lval) × Among (lefts body) left × Drives p left x b
  body_drives body (q, n, d) = let r = among_flat parts_of (lefts body) q n in (r.0, r.1, drives_parts p x b r.0 (q, r.2, d))

  pub drives_body : (body : Stmt) (left : Lval) → Among (lefts body) left → Drives p left x b → AnyPart p x b (body_parts body)
  drives_body body left n d = let r = parts_drive p x b left d in (r.0, flat_among parts_of (lefts body) left r.0 n r.1, r.2)

module _ (f : Flat) (plain : ArePlain f.signals) (x : Name) (b : ℕ) where
  -- no signal has words
  pub full_drives : (left : Lval) → DrivesFull (flat_place f) left x b → Drives (flat_place f) left x b
  full_drives left (inl (g, m, plain, e, d)) = subst (λ z. Drives (flat_place f) left z b) (sym e) d
  full_drives left (inr h) = let z : nat_eq h.0.depth 0 ≡ true = eq-eqb h.0.depth 0 (plain_signal f.signals h.0 plain h.1) in let w : true ≡ false = sym z ∙ h.2 in cc

  pub drives_full : Declares f.signals x → (left : Lval) → Drives (flat_place f) left x b → DrivesFull (flat_place f) left x b
  drives_full (g, m, e) left d = inl (g, m, eq-eqb g.depth 0 (plain_signal f.signals g plain m), sym e, subst (λ z. Drives (flat_place f) left z b) (sym e) d)

  pub nets_drive : Declares f.signals x → AnyPart (flat_place f) x b (net_parts f) → IsDriven f x b
  nets_drive declared (q, h, d) =
      ⊎_elim
      (λ n. let r = among_flat (λ (a : Assign). parts_of a.left) f.assigns q n in inl (r.0, r.1, drives_full declared r.0.left (drives_parts (flat_place f) x b r.0.left (q, r.2, d))))
      (λ n. let r = chosen false f.blocks q n in let u = body_drives (flat_place f) x b r.0.body (q, r.3, d) in inr (r.0, r.1, r.2, u.0, u.1, drives_full declared u.0 u.2))
      (among_append (assign_parts f.assigns) (block_parts false f.blocks) q h)

  pub drive_nets : IsDriven f x b → AnyPart (flat_place f) x b (net_parts f)
  drive_nets (inl (a, m, d)) =
      let r = parts_drive (flat_place f) x b a.left (full_drives a.left d) in
      (r.0, append_left (assign_parts f.assigns) (block_parts false f.blocks) r.0 (flat_among (λ (k : Assign). parts_of k.left) f.assigns a r.0 m r.1), r.2)
  drive_nets (inr (k, m, t, left, n, d)) =
      let r = drives_body (flat_place f) x b k.body left n (full_drives left d) in
      (r.0, append_right (assign_parts f.assigns) (block_parts false f.blocks) r.0 (into_chosen false f.blocks k r.0 m t r.1), r.2)

  pub clocked_drive : Declares f.signals x → AnyPart (flat_place f) x b (clocked_parts f) → IsClocked f x b
  clocked_drive declared (q, h, d) = let r = chosen true f.blocks q h in let u = body_drives (flat_place f) x b r.0.body (q, r.3, d) in (r.0, r.1, r.2, u.0, u.1, drives_full declared u.0 u.2)

  pub drive_clocked : IsClocked f x b → AnyPart (flat_place f) x b (clocked_parts f)
  drive_clocked (k, m, t, left, n, d) = let r = drives_body (flat_place f) x b k.body left n (full_drives left d) in (r.0, into_chosen true f.blocks k r.0 m t r.1, r.2)

-- ---- registers

pub any_of : {X : Type 0} (test : X → Bool) (xs : List X) → list_any test xs ≡ true → (x : X) × Among xs x × (test x ≡ true)
any_of test [] h = cc
any_of test (x ∷ xs) h = ⊎_elim (λ (e : test x ≡ true). (x, inl refl, e)) (λ (e : test x ≡ false). let r = any_of test xs (rw e at h) in (r.0, inr r.1, r.2)) (bool_cases (test x))

pub of_any : {X : Type 0} (test : X → Bool) (xs : List X) (x : X) → Among xs x → test x ≡ true → list_any test xs ≡ true
of_any test [] x m e = absurd m
of_any test (y ∷ xs) x (inl i) e = rw (ap test i ∙ e) refl
of_any test (y ∷ xs) x (inr m) e = ⊎_elim (λ (t : test y ≡ true). rw t refl) (λ (t : test y ≡ false). rw t (of_any test xs x m e)) (bool_cases (test y))

piece_name : (q : Lval) → IsPiece q → left_names q ≡ part_name q ∷ []
piece_name (l.Name x) t = refl
piece_name (l.Select x a) t = refl
piece_name (l.Part x span a c) t = refl
piece_name (l.Concat' h row) t = absurd t

only : (x y : Name) → Among (x ∷ []) y → x ≡ y
only x y (inl e) = e
only x y (inr n) = absurd n

part_names : (left q : Lval) → Among (parts_of left) q → Among (left_names left) (part_name q)
part_names left q h =
    subst (λ xs. Among xs (part_name q)) (parts_names left)
    (flat_among left_names (parts_of left) q (part_name q) h (subst (λ xs. Among xs (part_name q)) (sym (piece_name q (parts_are left q h))) (inl refl)))

names_part : (left : Lval) (x : Name) → Among (left_names left) x → (q : Lval) × Among (parts_of left) q × (part_name q ≡ x)
names_part left x h =
    let r = among_flat left_names (parts_of left) x (subst (λ xs. Among xs x) (sym (parts_names left)) h) in
    (r.0, r.1, only (part_name r.0) x (subst (λ xs. Among xs x) (piece_name r.0 (parts_are left r.0 r.1)) r.2))

pub names_register : (f : Flat) → ArePlain f.signals → (g : Signal) → Among f.signals g → names (clocked_parts f) g.name ≡ true → IsRegister f g.name
names_register f plain g m h =
    let u = any_of (λ q. bytes_eq (part_name q) g.name) (clocked_parts f) h in
    let r = chosen true f.blocks u.0 u.1 in
    let v = among_flat parts_of (lefts r.0.body) u.0 r.3 in
    let n : part_name u.0 ≡ g.name = (bytes_eq-Decides (part_name u.0) g.name).0 u.2 in
    (r.0, r.1, r.2, (g.name, flat_among left_names (lefts r.0.body) v.0 g.name v.1 (subst (λ y. Among (left_names v.0) y) n (part_names v.0 u.0 v.2)), g, m, (refl, g, holds_itself f.signals g plain m, refl)))

pub register_names : (f : Flat) → ArePlain f.signals → (x : Name) → IsRegister f x → names (clocked_parts f) x ≡ true
register_names f plain x (k, m, t, (y, n, g, j, (e, w, holds, is))) =
    let same : y ≡ x = sym e ∙ ap (λ (z : Signal). z.name) (own_holder f.signals g w plain j holds) ∙ sym is in
    let v = among_flat left_names (lefts k.body) y n in
    let u = names_part v.0 y v.2 in
    of_any (λ q. bytes_eq (part_name q) x) (clocked_parts f) u.0 (into_chosen true f.blocks k u.0 m t (flat_among parts_of (lefts k.body) v.0 u.0 v.1 u.1))
    ((bytes_eq-Decides (part_name u.0) x).1 (u.2 ∙ same))
