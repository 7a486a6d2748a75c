-- Where no bit has two drivers, no two statements of a module drive it.
use Rattle.std.proofs.Common.{arith, ◌≡◌, ℕ, zero, suc, ◌<◌, Bool, true, false, List, [], ◌∷◌, ◌++◌, Some, refl, sym, ap, ◌∙◌, subst, ◌⊎◌, inl, inr, ⊎_elim, map}
use Rattle.std.specs.Prelude.{slice_get, if◌then◌else◌}
use Rattle.std.specs.List.{flat_map}
use Rattle.vlog_tree.specs.declared.item.Assign.{Assign}
use Rattle.vlog_tree.specs.declared.stmt.Lval.{Lval, Row_of-Lval, end_of-Lval, more_of-Lval}
use Rattle.vlog_tree.specs.declared.stmt.Lval.TheVariants as l
use Rattle.vlog_tree.specs.declared.stmt.Stmt.{Stmt}
use Rattle.vlog_tree.specs.declared.stmt.Stmt.TheVariants as s
use Rattle.vlog_tree_runs.specs.declared.flat.Always.{Always}
use Rattle.vlog_tree_runs.specs.declared.flat.Flat.{Flat}
use Rattle.vlog_tree_runs.specs.declared.flat.TopPort.{TopPort}
use Rattle.vlog_tree_runs.specs.Places.{Name, Among, Place}
use Rattle.vlog_tree_runs.specs.Blocks.{lefts, Drives, AnyDrives}
use Rattle.vlog_tree_runs.specs.Cycles.{flat_place, IsInput}
use Rattle.elab_flat_laws.proofs.Lists.{append_left, append_right, map_among}
use Rattle.elab_flat_faults.specs.Drivers.{Driver, Input, Part, Block, parts_of, row_parts_of, input_drivers, DrivesIn, HasTwoDrivers}
use Rattle.elab_step_nets.specs.Solving.{bodies, clocked, processes}
use Rattle.elab_step_nets.proofs.Solving.{DrivesBit, AreApart}

-- no two drivers of a list drive bit b of x
abbrev AreAlone : Place → List Driver → Name → ℕ → Type 0
AreAlone p [] x b = Unit {0}
AreAlone p (d ∷ ds) x b = (DrivesIn p d x b → (e : Driver) → Among ds e → DrivesIn p e x b → ⊥) × AreAlone p ds x b

module _ (p : Place) (x : Name) (b : ℕ) where
  place_among : (ds : List Driver) (e : Driver) → Among ds e → (j : ℕ) × (slice_get ds j ≡ Some e)
  place_among [] e m = absurd m
  place_among (d ∷ ds) e m = ⊎_elim (λ (i : d ≡ e). (zero, ap Some i)) (λ n. let r = place_among ds e n in (suc r.0, r.1)) m

  alone_by : (ds : List Driver) → ((i j : ℕ) (d e : Driver) → i < j → slice_get ds i ≡ Some d → slice_get ds j ≡ Some e → DrivesIn p d x b → DrivesIn p e x b → ⊥) → AreAlone p ds x b
  alone_by [] h = tt
  alone_by (d ∷ ds) h = (
    λ k e m n. let r = place_among ds e m in h zero (suc r.0) d e (omega arith) refl r.1 k n,
    alone_by ds (λ i j d e l. h (suc i) (suc j) d e (omega (arith, l))),
  )

  alone_left : (ds es : List Driver) → AreAlone p (ds ++ es) x b → AreAlone p ds x b
  alone_left [] es h = tt
  alone_left (d ∷ ds) es h = (λ k e m n. h.0 k e (append_left ds es e m) n, alone_left ds es h.1)

  alone_right : (ds es : List Driver) → AreAlone p (ds ++ es) x b → AreAlone p es x b
  alone_right [] es h = h
  alone_right (d ∷ ds) es h = alone_right ds es h.1

  alone_cross : (ds es : List Driver) → AreAlone p (ds ++ es) x b → (d e : Driver) → Among ds d → Among es e → DrivesIn p d x b → DrivesIn p e x b → ⊥
  alone_cross [] es h d e m n u v = m
  alone_cross (c ∷ ds) es h d e m n u v =
      ⊎_elim (λ (i : c ≡ d). h.0 (subst (λ z. DrivesIn p z x b) (sym i) u) e (append_right ds es e n) v) (λ k. alone_cross ds es h.1 d e k n u v) m

  -- ---- the parts of left sides

  parts_append : (xs ys : List Lval) → ((k : Lval) × Among xs k × Drives p k x b) ⊎ ((k : Lval) × Among ys k × Drives p k x b) → (k : Lval) × Among (xs ++ ys) k × Drives p k x b
  parts_append xs ys h = ⊎_elim (λ k. (k.0, append_left xs ys k.0 k.1, k.2)) (λ k. (k.0, append_right xs ys k.0 k.1, k.2)) h

  mutual
    part_drives : (left : Lval) → Drives p left x b → (k : Lval) × Among (parts_of left) k × Drives p k x b
    part_drives (l.Name y) d = (l.Name y, inl refl, d)
    part_drives (l.Select y a) d = (l.Select y a, inl refl, d)
    part_drives (l.Part y span a c) d = (l.Part y span a c, inl refl, d)
    part_drives (l.Concat' h row) d = row_drives row d

    row_drives : {m : _} (row : Row_of-Lval m) → AnyDrives p row x b → (k : Lval) × Among (row_parts_of row) k × Drives p k x b
    row_drives end_of-Lval d = absurd d
    row_drives (more_of-Lval a rest) d = parts_append (parts_of a) (row_parts_of rest) (⊎_elim (λ u. inl (part_drives a u)) (λ u. inr (row_drives rest u)) d)

  abbrev parts : Assign → List Driver
  parts a = map Part (parts_of a.left)

  abbrev block : Always → Driver
  block k = Block (lefts k.body)

  abbrev assign_stmt : Assign → Stmt
  assign_stmt a = s.Blocking a.left a.right

  assign_driver : (a : Assign) → DrivesBit p (assign_stmt a) x b → (d : Driver) × Among (parts a) d × DrivesIn p d x b
  assign_driver a h =
      let u : Drives p a.left x b = ⊎_elim (λ (i : a.left ≡ h.0). subst (λ z. Drives p z x b) (sym i) h.2) (λ n. absurd n) h.1 in
      let k = part_drives a.left u in
      (Part k.0, map_among Part (parts_of a.left) k.0 k.1, k.2)

  assign_among : (as' : List Assign) (k : Stmt) → Among (map assign_stmt as') k → DrivesBit p k x b → (d : Driver) × Among (flat_map parts as') d × DrivesIn p d x b
  assign_among [] k m h = absurd m
  assign_among (a ∷ as') k m h =
      ⊎_elim
      (λ (i : assign_stmt a ≡ k). let r = assign_driver a (subst (λ z. DrivesBit p z x b) (sym i) h) in (r.0, append_left (parts a) (flat_map parts as') r.0 r.1, r.2))
      (λ n. let r = assign_among as' k n h in (r.0, append_right (parts a) (flat_map parts as') r.0 r.1, r.2)) m

  assigns_apart : (as' : List Assign) → AreAlone p (flat_map parts as') x b → AreApart p (map assign_stmt as') x b
  assigns_apart [] h = tt
  assigns_apart (a ∷ as') h = (
    λ d j m e.
        let one = assign_driver a d in
        let other = assign_among as' j m e in
        alone_cross (parts a) (flat_map parts as') h one.0 other.0 one.1 other.1 one.2 other.2,
    assigns_apart as' (alone_right (parts a) (flat_map parts as') h),
  )

  -- ---- blocks

  body_among : (ks : List Always) (j : Stmt) → Among (bodies ks) j → DrivesBit p j x b → (d : Driver) × Among (map block ks) d × DrivesIn p d x b
  body_among [] j m h = absurd m
  body_among (k ∷ ks) j m h =
      ⊎_elim (λ (i : k.body ≡ j). (block k, inl refl, subst (λ z. DrivesBit p z x b) (sym i) h)) (λ n. let r = body_among ks j n h in (r.0, inr r.1, r.2)) (listed k.clocked m)
    where
      listed : (t : Bool) → Among (if t then bodies ks else k.body ∷ bodies ks) j → (k.body ≡ j) ⊎ Among (bodies ks) j
      listed true n = inr n
      listed false n = n

  clocked_among : (ks : List Always) (j : Stmt) → Among (clocked ks) j → DrivesBit p j x b → (d : Driver) × Among (map block ks) d × DrivesIn p d x b
  clocked_among [] j m h = absurd m
  clocked_among (k ∷ ks) j m h =
      ⊎_elim (λ (i : k.body ≡ j). (block k, inl refl, subst (λ z. DrivesBit p z x b) (sym i) h)) (λ n. let r = clocked_among ks j n h in (r.0, inr r.1, r.2)) (listed k.clocked m)
    where
      listed : (t : Bool) → Among (if t then k.body ∷ clocked ks else clocked ks) j → (k.body ≡ j) ⊎ Among (clocked ks) j
      listed true n = n
      listed false n = inr n

  more_apart : (t : Bool) (k : Stmt) (js : List Stmt) → (DrivesBit p k x b → (j : Stmt) → Among js j → DrivesBit p j x b → ⊥) → AreApart p js x b → AreApart p (if t then js else k ∷ js) x b
  more_apart true k js h a = a
  more_apart false k js h a = (h, a)

  more_apart' : (t : Bool) (k : Stmt) (js : List Stmt) → (DrivesBit p k x b → (j : Stmt) → Among js j → DrivesBit p j x b → ⊥) → AreApart p js x b → AreApart p (if t then k ∷ js else js) x b
  more_apart' true k js h a = (h, a)
  more_apart' false k js h a = a

  bodies_apart : (ks : List Always) → AreAlone p (map block ks) x b → AreApart p (bodies ks) x b
  bodies_apart [] h = tt
  bodies_apart (k ∷ ks) h = more_apart k.clocked k.body (bodies ks) (λ d j m e. let r = body_among ks j m e in h.0 d r.0 r.1 r.2) (bodies_apart ks h.1)

  pub clocked_apart : (ks : List Always) → AreAlone p (map block ks) x b → AreApart p (clocked ks) x b
  clocked_apart [] h = tt
  clocked_apart (k ∷ ks) h = more_apart' k.clocked k.body (clocked ks) (λ d j m e. let r = clocked_among ks j m e in h.0 d r.0 r.1 r.2) (clocked_apart ks h.1)

  both_apart : (ks js : List Stmt) → AreApart p ks x b → AreApart p js x b → ((k j : Stmt) → Among ks k → Among js j → DrivesBit p k x b → DrivesBit p j x b → ⊥) → AreApart p (ks ++ js) x b
  both_apart [] js a c h = c
  both_apart (k ∷ ks) js a c h = (
    λ d j m e. ⊎_elim (λ n. a.0 d j n e) (λ n. h k j (inl refl) n d e) (split ks js j m),
    both_apart ks js a.1 c (λ i j m n. h i j (inr m) n),
  )
    where
      split : (ks js : List Stmt) (j : Stmt) → Among (ks ++ js) j → Among ks j ⊎ Among js j
      split [] js j m = inr m
      split (k ∷ ks) js j m = ⊎_elim (λ e. inl (inl e)) (λ n. ⊎_elim (λ u. inl (inr u)) (λ u. inr u) (split ks js j n)) m

-- ---- a module

module _ (f : Flat) (x : Name) (b : ℕ) (none : HasTwoDrivers f x b → ⊥) where
  abbrev p : Place
  p = flat_place f

  abbrev ins : List Driver
  ins = input_drivers f.ports

  abbrev asg : List Driver
  asg = flat_map (λ (a : Assign). map Part (parts_of a.left)) f.assigns

  abbrev blk : List Driver
  blk = map (λ (k : Always). Block (lefts k.body)) f.blocks

  all_alone : AreAlone p ((ins ++ asg) ++ blk) x b
  all_alone = alone_by p x b ((ins ++ asg) ++ blk) (λ i j d e l u v m n. none (record { first = i; second = j; apart = l; one = d; other = e; one_is = u; other_is = v; drives_one = m; drives_other = n }))

  pub processes_apart : AreApart p (processes f) x b
  processes_apart =
      both_apart p x b (map (λ (a : Assign). s.Blocking a.left a.right) f.assigns) (bodies f.blocks)
      (assigns_apart p x b f.assigns (alone_right p x b ins asg (alone_left p x b (ins ++ asg) blk all_alone)))
      (bodies_apart p x b f.blocks (alone_right p x b (ins ++ asg) blk all_alone))
      (λ k j m n d e.
      let one = assign_among p x b f.assigns k m d in
      let other = body_among p x b f.blocks j n e in
      alone_cross p x b (ins ++ asg) blk all_alone one.0 other.0 (append_right ins asg one.0 one.1) other.1 one.2 other.2)

  pub blocks_apart : AreApart p (clocked f.blocks) x b
  blocks_apart = clocked_apart p x b f.blocks (alone_right p x b (ins ++ asg) blk all_alone)

  input_among : (ps : List TopPort) (q : TopPort) → Among ps q → q.output ≡ false → Among (input_drivers ps) (Input q.name)
  input_among [] q m e = absurd m
  input_among (r ∷ ps) q m e =
      ⊎_elim (λ (i : r ≡ q). let o : r.output ≡ false = ap (λ (z : TopPort). z.output) i ∙ e in rw o (inl (ap (λ (z : TopPort). Input z.name) i)))
      (λ n. more r.output (Input r.name) (input_drivers ps) (Input q.name) (input_among ps q n e)) m
    where
      more : (t : Bool) (d : Driver) (ds : List Driver) (i : Driver) → Among ds i → Among (if t then ds else d ∷ ds) i
      more true d ds i n = n
      more false d ds i n = inr n

  -- nothing drives an input
  pub input_apart : IsInput f x → (k : Stmt) → Among (processes f) k → DrivesBit p k x b → ⊥
  input_apart i k m d =
      ⊎_elim
      (λ n. let other = assign_among p x b f.assigns k n d in alone_cross p x b ins asg (alone_left p x b (ins ++ asg) blk all_alone) (Input i.0.name) other.0 (input_among f.ports i.0 i.1 i.2) other.1 i.3 other.2)
      (λ n. let other = body_among p x b f.blocks k n d in
      alone_cross p x b (ins ++ asg) blk all_alone (Input i.0.name) other.0 (append_left ins asg (Input i.0.name) (input_among f.ports i.0 i.1 i.2)) other.1 i.3 other.2)
      (split (map (λ (a : Assign). s.Blocking a.left a.right) f.assigns) (bodies f.blocks) m)
    where
      split : (ks js : List Stmt) → Among (ks ++ js) k → Among ks k ⊎ Among js k
      split [] js m = inr m
      split (j ∷ ks) js m = ⊎_elim (λ e. inl (inl e)) (λ n. ⊎_elim (λ u. inl (inr u)) (λ u. inr u) (split ks js n)) m
