-- A faultless module can be solved.
use Rattle.std.proofs.Common.{◌≡◌, ℕ, ◌+◌, ◌^◌, ◌<◌, Bool, true, false, List, [], ◌∷◌, ◌++◌, Option, refl, sym, ap, ◌∙◌, subst, inl, inr, ⊎_elim, map}
use Rattle.std.specs.Prelude.{unwrap_or}
use Rattle.std.specs.Option.{option_map}
use Rattle.std.specs.Int.{bit_at}
use Rattle.vlog_tree.specs.declared.expr.Expr.{Expr}
use Rattle.vlog_tree.specs.declared.item.Assign.{Assign}
use Rattle.vlog_tree.specs.declared.stmt.Lval.{Lval, Row_of-Lval, end_of-Lval, more_of-Lval}
use Rattle.vlog_tree.specs.declared.stmt.Lval.TheVariants as l
use Rattle.vlog_tree.specs.declared.stmt.Stmt.{Stmt}
use Rattle.vlog_tree.specs.declared.stmt.Stmt.TheVariants as s
use Rattle.vlog_tree_runs.specs.declared.flat.Always.{Always}
use Rattle.vlog_tree_runs.specs.declared.flat.Flat.{Flat}
use Rattle.vlog_tree_runs.specs.declared.flat.Signal.{Signal}
use Rattle.vlog_tree_runs.specs.Places.{Name, Cycle, Among, Place}
use Rattle.vlog_tree_runs.specs.Blocks.{run, left_names, Drives, AnyDrives, low_in}
use Rattle.vlog_tree_runs.specs.Cycles.{flat_place, IsRegister}
use Rattle.elab_flat_laws.proofs.Lists.{append_left, append_right}
use Rattle.elab_flat_faults.specs.Texts.{numbers_in, row_numbers_in}
use Rattle.elab_flat_faults.specs.declared.elaborating.ElabFault.{ElabFault}
use Rattle.elab_flat_faults.specs.declared.elaborating.ElabFault.TheVariants as e
use Rattle.elab_flat_faults.specs.Paths.{IsConstant, Sets, AnySets, width_in}
use Rattle.elab_flat_faults.specs.Drivers.{DependsOn, HasTwoDrivers}
use Rattle.elab_flat_faults.specs.ElabStands.{Stands}
use Rattle.elab_step_laws.specs.Laws.{AreVectors, BitsStay, BitsApart, StoreFollows, BitsFollow, HaveConstantParts, AreFit, place_over}
use Rattle.elab_step_nets.specs.Solving.{processes, assigned_by, AreDistinct, ArePlain, IsNet}
use Rattle.elab_step_nets.proofs.Solving.{DrivesBit, bool_cases, AreProcesses}
use Rattle.elab_step_nets.proofs.Fitting.{positive, found_signal, run_fits}
use Rattle.elab_step_nets.proofs.Cycles.{drives_assigned, drives_name, processes_are, clocked_are, plain_signal, own_holder, IsSolvable, AreClocked}
use Rattle.elab_step_nets.proofs.Drivers.{processes_apart, blocks_apart, input_apart}

-- what the proofs ask of a text
pub record IsText (f : Flat) : Type 0 where
  pub distinct : AreDistinct (map (λ (g : Signal). g.name) f.signals)
  pub plain : ArePlain f.signals
  pub constant : (a : Assign) (n : Expr) → Among f.assigns a → Among (numbers_in a.left) n → IsConstant (flat_place f) n
  pub subjects : (k : Always) → Among f.blocks k → HaveConstantParts (flat_place f) k.body
  pub assigned : (a : Assign) (x : Name) → Among f.assigns a → Among (left_names a.left) x → (g : Signal) × Among f.signals g × (g.name ≡ x)
  pub blocked : (k : Always) (x : Name) → Among f.blocks k → Among (assigned_by k.body) x → (g : Signal) × Among f.signals g × (g.name ≡ x)

-- a left side of constant numbers sets the bits that it drives
mutual
  sets : (p : Place) (left : Lval) (x : Name) (b : ℕ) → ((n : Expr) → Among (numbers_in left) n → IsConstant p n) → Drives p left x b → Sets p left x b
  sets p (l.Name y) x b c d = d
  sets p (l.Select y a) x b c d = let k = c a (inl refl) in (d.0, k, d.1 k)
  sets p (l.Part y span a a') x b c d = let k = c a (inl refl) in let j = c a' (inr (inl refl)) in (d.0, k, j, d.1 k j)
  sets p (l.Concat' h row) x b c d = any_sets p row x b c d

  any_sets : {m : _} (p : Place) (row : Row_of-Lval m) (x : Name) (b : ℕ) → ((n : Expr) → Among (row_numbers_in row) n → IsConstant p n) → AnyDrives p row x b → AnySets p row x b
  any_sets p end_of-Lval x b c d = d
  any_sets p (more_of-Lval a rest) x b c d =
      ⊎_elim (λ u. inl (sets p a x b (λ n m. c n (append_left (numbers_in a) (row_numbers_in rest) n m)) u))
      (λ u. inr (any_sets p rest x b (λ n m. c n (append_right (numbers_in a) (row_numbers_in rest) n m)) u)) d

pub vectors : (gs : List Signal) → ArePlain gs → AreVectors gs
vectors gs z g m = plain_signal gs g z m

pub wide_as : (gs : List Signal) → AreDistinct (map (λ (h : Signal). h.name) gs) → (g : Signal) → Among gs g → width_in (place_over gs) g.name ≡ g.width
wide_as gs d g m = ap (λ (o : Option Signal). unwrap_or (option_map (λ (h : Signal). h.width) o) 0) (found_signal gs g d m)

module _ (f : Flat) (text : IsText f) (faultless : (x : ElabFault) → Stands f x → ⊥) (stay : BitsStay) (apart : BitsApart) (store : StoreFollows) (follow : BitsFollow) where
  abbrev p : Place
  p = flat_place f

  abbrev assign_stmt : Assign → Stmt
  assign_stmt a = s.Blocking a.left a.right

  two_drivers : (x : Name) (b : ℕ) → b < width_in p x → HasTwoDrivers f x b → ⊥
  two_drivers x b l h = faultless (e.Drivers x (low_in p x + b)) (b, (l, refl), h)

  assign_drives : (a : Assign) (x : Name) (b : ℕ) → DrivesBit p (assign_stmt a) x b → Drives p a.left x b
  assign_drives a x b h = ⊎_elim (λ (i : a.left ≡ h.0). subst (λ z. Drives p z x b) (sym i) h.2) (λ n. absurd n) h.1

  assign_follows : (a : Assign) → Among f.assigns a → (x : Name) (b : ℕ) (c d : Cycle) → IsNet f x → b < width_in p x → DrivesBit p (assign_stmt a) x b → ((z : Name) → DependsOn f x z → c z ≡ d z)
      → bit_at (run true p (assign_stmt a) c c x) b ≡ bit_at (run true p (assign_stmt a) d d x) b
  assign_follows a m x b c d is l h agree =
      let u = assign_drives a x b h in
      store f.signals a.left a.right c d c d x b (vectors f.signals text.plain) l (sets p a.left x b (λ n k. text.constant a n m k) u)
      (λ z k. agree z (is.no_register, inl (a, m, drives_name p a.left x b u, k)))

  block_follows : (k : Always) → Among f.blocks k → k.clocked ≡ false → (x : Name) (b : ℕ) (c d : Cycle) → IsNet f x → b < width_in p x → DrivesBit p k.body x b → AreFit f.signals c → AreFit f.signals d → ((z : Name) → DependsOn f x z → c z ≡ d z)
      → bit_at (run true p k.body c c x) b ≡ bit_at (run true p k.body d d x) b
  block_follows k m t x b c d is l h fc fd agree =
      follow f.signals k.body c d x b (vectors f.signals text.plain) (text.subjects k m) fc fd l
      (λ steps path unset. faultless (e.Latch x) (record { block = k; combinational = (m, t); bit = b; left = h.0; within = l; is_left = h.1; drives = h.2; steps = steps; path = path; unset = unset }))
      (λ z u. agree z (is.no_register, inr (k, m, t, u)))

  body_stays : (o : Bool) (k : Stmt) (x : Name) (b : ℕ) (c d : Cycle) → (DrivesBit p k x b → ⊥) → bit_at (run o p k c d x) b ≡ bit_at (d x) b
  body_stays o k x b c d n = stay o f.signals k c d x b (vectors f.signals text.plain) (λ left m h. n (left, m, h))

  laws : AreProcesses p f.signals (processes f) (IsNet f) (DependsOn f) (width_in p)
  laws = record {
    follows = λ k m x b c d is l h fc fd agree.
        ⊎_elim (λ a. by_assign a.0 a.1 k a.2 x b c d is l h agree) (λ a. by_block a.0 a.1 a.2 k a.3 x b c d is l h fc fd agree) (processes_are f k m);
    stays = λ k m x b c n. body_stays true k x b c c n;
    fits = λ k m c h. run_fits f.signals text.distinct text.plain true k c c h;
    apart = λ x b is l. processes_apart f x b (two_drivers x b l);
    names = λ k x b m h. drives_assigned p k x b h;
    long = λ x is c h. subst (λ y. c y < 2 ^ width_in p y) is.named (subst (λ w. c is.signal.name < 2 ^ w) (sym (wide_as f.signals text.distinct is.signal is.is_declared)) (h is.signal is.is_declared));
    positive = λ g m. positive g.width;
  }
    where
      by_assign : (a : Assign) → Among f.assigns a → (k : Stmt) → assign_stmt a ≡ k → (x : Name) (b : ℕ) (c d : Cycle) → IsNet f x → b < width_in p x → DrivesBit p k x b → ((z : Name) → DependsOn f x z → c z ≡ d z)
          → bit_at (run true p k c c x) b ≡ bit_at (run true p k d d x) b
      by_assign a m k e x b c d is l h agree =
          let P : Stmt → Type 0 = λ j. bit_at (run true p j c c x) b ≡ bit_at (run true p j d d x) b in
          let Q : Stmt → Type 0 = λ j. DrivesBit p j x b in
          subst P e (assign_follows a m x b c d is l (subst Q (sym e) h) agree)

      by_block : (a : Always) → Among f.blocks a → a.clocked ≡ false → (k : Stmt) → a.body ≡ k → (x : Name) (b : ℕ) (c d : Cycle) → IsNet f x → b < width_in p x → DrivesBit p k x b → AreFit f.signals c → AreFit f.signals d → ((z : Name) → DependsOn f x z → c z ≡ d z)
          → bit_at (run true p k c c x) b ≡ bit_at (run true p k d d x) b
      by_block a m t k e x b c d is l h fc fd agree =
          let P : Stmt → Type 0 = λ j. bit_at (run true p j c c x) b ≡ bit_at (run true p j d d x) b in
          let Q : Stmt → Type 0 = λ j. DrivesBit p j x b in
          subst P e (block_follows a m t x b c d is l (subst Q (sym e) h) fc fd agree)

  no_more : (xs : List Name) (x : Name) → Among (xs ++ []) x → Among xs x
  no_more [] x h = absurd h
  no_more (y ∷ xs) x h = ⊎_elim (λ i. inl i) (λ v. inr (no_more xs x v)) h

  assigned_left : (a : Assign) (k : Stmt) (x : Name) → assign_stmt a ≡ k → Among (assigned_by k) x → Among (left_names a.left) x
  assigned_left a k x i h = no_more (left_names a.left) x (subst (λ z. Among (assigned_by z) x) (sym i) h)

  process_names : (k : Stmt) (x : Name) → Among (processes f) k → Among (assigned_by k) x → (g : Signal) × Among f.signals g × (g.name ≡ x)
  process_names k x m n =
      ⊎_elim (λ a. text.assigned a.0 x a.1 (assigned_left a.0 k x a.2 n)) (λ a. text.blocked a.0 x a.1 (subst (λ z. Among (assigned_by z) x) (sym a.3) n)) (processes_are f k m)

  register_name : (x : Name) (r : IsRegister f x) → Among (assigned_by r.0.body) x
  register_name x r =
      subst (λ y. Among (assigned_by r.0.body) y)
      (sym r.3.4.0 ∙ ap (λ (z : Signal). z.name) (own_holder f.signals r.3.2 r.3.4.1 text.plain r.3.3 r.3.4.2) ∙ sym r.3.4.3) r.3.1

  -- a register is assigned by no process
  register_apart : (g : Signal) → Among f.signals g → IsRegister f g.name → (k : Stmt) → Among (processes f) k → Among (assigned_by k) g.name → ⊥
  register_apart g m r k u n =
      ⊎_elim (λ a. by_assign a.0 a.1 (assigned_left a.0 k g.name a.2 n)) (λ a. by_block a.0 a.1 a.2 (subst (λ z. Among (assigned_by z) g.name) (sym a.3) n)) (processes_are f k u)
    where
      by_assign : (a : Assign) → Among f.assigns a → Among (left_names a.left) g.name → ⊥
      by_assign a v h =
          ⊎_elim (λ (t : g.reg ≡ true). faultless (e.Kind g.name) (inl (a, v, h, (g, m, refl, t))))
          (λ (t : g.reg ≡ false). faultless (e.Kind g.name) (inr (inl (r.0, r.1, register_name g.name r, (g, m, refl, t))))) (bool_cases g.reg)

      by_block : (a : Always) → Among f.blocks a → a.clocked ≡ false → Among (assigned_by a.body) g.name → ⊥
      by_block a v t h = faultless (e.Kind g.name) (inr (inr (inr (inr (r.0, a, r.1, v, r.2, t, register_name g.name r, h)))))

  pub solvable : IsSolvable f (DependsOn f) (width_in p)
  solvable = record {
    plain = text.plain;
    laws = laws;
    declared = process_names;
    sources = λ g m s k b u l d.
        ⊎_elim (λ r. register_apart g m r k u (drives_assigned p k g.name b d))
        (λ i. input_apart f g.name b (two_drivers g.name b (subst (λ w. b < w) (sym (wide_as f.signals text.distinct g m)) l)) i k u d) s;
    widths = wide_as f.signals text.distinct;
  }

  pub are_clocked_blocks : AreClocked f
  are_clocked_blocks = record {
    plain = text.plain;
    stays = λ k m x b c d n. body_stays false k x b c d n;
    alone = λ k m x b c d e h. apart p k c d e x b h;
    fits = λ k m c d h. run_fits f.signals text.distinct text.plain false k c d h;
    apart = λ g b m l. blocks_apart f g.name b (two_drivers g.name b (subst (λ w. b < w) (sym (wide_as f.signals text.distinct g m)) l));
    declared = λ k x m n. let r = clocked_are f.blocks k m in text.blocked r.0 x r.1 (subst (λ z. Among (assigned_by z) x) (sym r.3) n);
  }
