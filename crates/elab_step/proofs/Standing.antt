-- The lists of places are those of the statements that assign each signal.
use Rattle.std.proofs.Common.{◌≡◌, ◌≢◌, ℕ, zero, suc, ◌+◌, ◌<◌, ◌≤◌, Bool, true, false, List, [], ◌∷◌, ◌++◌, map, length, get_or, Option, Some, None, Vec, Global, eq-eqb, eqb→eq, not, append_assoc, length-append, arith, refl, sym, ap, ◌∙◌, subst, inl, inr, ⊎_elim}
use Rattle.std.specs.Prelude.{nat_eq, replicate, if◌then◌else◌, ◌||◌}
use Rattle.std.specs.List.{flat_map}
use Rattle.std.specs.Str.{bytes_eq}
use Rattle.std.proofs.lemmas.Slice.Eq.{bytes_eq-Decides}
use Rattle.vlog_tree.specs.declared.item.Assign.{Assign}
use Rattle.vlog_tree.specs.declared.stmt.Stmt.{Stmt}
use Rattle.vlog_tree.specs.declared.stmt.Stmt.TheVariants as s
use Rattle.vlog_tree_runs.specs.declared.flat.Always.{Always}
use Rattle.vlog_tree_runs.specs.Blocks.{lefts, left_names}
use Rattle.elab_flat_drivers.specs.declared.names.Form.TheVariants as m
use Rattle.elab_flat_drivers.specs.Names.{chosen_names}
use Rattle.vlog_tree_runs.specs.declared.flat.Flat.{Flat}
use Rattle.vlog_tree_runs.specs.declared.flat.Signal.{Signal}
use Rattle.vlog_tree_runs.specs.Places.{Name, Among}
use Rattle.vlog_tree_runs.specs.Contents.{is_among}
use Rattle.std.proofs.lemmas.List.{append-nil, length-map}
use Rattle.elab_flat_laws.proofs.Lists.{map_append, map_among, among_append}
use Rattle.elab_flat_scopes.specs.Finding.{place_from, place_in}
use Rattle.elab_flat_graphs.specs.Graphs.{graph_of}
use Rattle.elab_step_nets.specs.Solving.{AreDistinct, assigned_by, bodies, drivers_of, processes}
use Rattle.elab_step_nets.proofs.Boards.{statements_long}
use Rattle.elab_step_nets.specs.Boards.{statements, statement_at, picked, IsUnclocked, ArePlacesOf}
use Rattle.elab_step_nets.proofs.Solving.{bool_cases}
use Rattle.elab_step.specs.Placing.{last_of, is_number, ending_in, placed_at, all_placed, assigns_placed, blocks_placed, places_in}
use Rattle.elab_step.specs.Sources.{signal_names}

-- ---- the end of a list

abbrev pub AllBelow : ℕ → List ℕ → Type 0
AllBelow k ks = (i : ℕ) → Among ks i → i < k

-- each is below k, and not that of a clocked block
abbrev pub ArePassed : Flat → ℕ → List ℕ → Type 0
ArePassed f k ks = (i : ℕ) → Among ks i → (i < k) × IsUnclocked f i

fresh : (k : ℕ) (ks : List ℕ) → AllBelow k ks → is_number (last_of ks) k ≡ false
fresh k [] h = refl
fresh k (i ∷ []) h = let lt : i < k = h i (inl refl) in ⊎_elim (λ (e : nat_eq i k ≡ true). let q : i ≡ k = eqb→eq i k (rw e tt) in absurd (omega (arith, lt, q))) (λ e. e) (bool_cases (nat_eq i k))
fresh k (i ∷ j ∷ ks) h = fresh k (j ∷ ks) (λ n m. h n (inr m))

last_push : (ks : List ℕ) (k : ℕ) → last_of (ks ++ k ∷ []) ≡ Some k
last_push [] k = refl
last_push (i ∷ []) k = refl
last_push (i ∷ j ∷ ks) k = last_push (j ∷ ks) k

ending_new : (k : ℕ) (ks : List ℕ) → AllBelow k ks → ending_in k ks ≡ ks ++ k ∷ []
ending_new k ks h = ap (λ (b : Bool). if b then ks else ks ++ k ∷ []) (fresh k ks h)

ending_again : (k : ℕ) (ks : List ℕ) → ending_in k (ks ++ k ∷ []) ≡ ks ++ k ∷ []
ending_again k ks =
    let is : is_number (last_of (ks ++ k ∷ [])) k ≡ true = ap (λ o. is_number o k) (last_push ks k) ∙ eq-eqb k k refl in
    ap (λ (b : Bool). if b then ks ++ k ∷ [] else (ks ++ k ∷ []) ++ k ∷ []) is

-- ---- places of names

place_above : (xs : List Name) (x : Name) (j m : ℕ) → place_from j xs x ≡ Some m → j ≤ m
place_above [] x j m h = cc
place_above (y ∷ xs) x j m h =
    ⊎_elim (λ (e : bytes_eq y x ≡ true). let s : Some j ≡ Some m = rw e at h in let q : j ≡ m = cc in omega (arith, q))
    (λ (e : bytes_eq y x ≡ false). let s : place_from (suc j) xs x ≡ Some m = rw e at h in let r = place_above xs x (suc j) m s in omega (arith, r)) (bool_cases (bytes_eq y x))

none_others : (gs : List Signal) (x : Name) (j : ℕ) → place_from j (signal_names gs) x ≡ None → (g : Signal) → Among gs g → x ≢ g.name
none_others [] x j h g m = absurd m
none_others (k ∷ gs) x j h g m =
    ⊎_elim (λ (e : bytes_eq k.name x ≡ true). let s : Some j ≡ None = rw e at h in cc)
    (λ (e : bytes_eq k.name x ≡ false).
    let s : place_from (suc j) (signal_names gs) x ≡ None = rw e at h in
    ⊎_elim (λ (q : k ≡ g). λ (u : x ≡ g.name). let t : bytes_eq k.name x ≡ true = (bytes_eq-Decides k.name x).1 (ap (λ (z : Signal). z.name) q ∙ sym u) in let v : true ≡ false = sym t ∙ e in cc)
    (λ n. none_others gs x (suc j) s g n) m) (bool_cases (bytes_eq k.name x))

-- ---- one statement's place, name after name

abbrev marked : Name → (Name → Bool) → Name → Bool
marked x p n = if bytes_eq x n then true else p n

abbrev marks : List Name → (Name → Bool) → Name → Bool
marks [] p = p
marks (x ∷ xs) p = marks xs (marked x p)

marks_among : (xs : List Name) (p : Name → Bool) (n : Name) → marks xs p n ≡ (if is_among xs n then true else p n)
marks_among [] p n = refl
marks_among (x ∷ xs) p n = marks_among xs (marked x p) n ∙ by (is_among xs n) (bytes_eq x n) (p n)
  where
    by : (a b c : Bool) → (if a then true else (if b then true else c)) ≡ (if (b || a) then true else c)
    by true true c = refl
    by true false c = refl
    by false true c = refl
    by false false c = refl

module _ (f : Flat) (k : ℕ) (js : List Stmt) where
  -- a list has the places of some statements, and at its end k where the flag says so
  abbrev pub At : Bool → Name → List ℕ → Type 0
  At b x ks = (old : List ℕ) × ArePassed f k old × (picked (statements f) old ≡ drivers_of js x) × (ks ≡ (if b then old ++ k ∷ [] else old))

  abbrev pub Mid : (Name → Bool) → List Signal → List (List ℕ) → Type 0
  Mid p [] [] = Unit {0}
  Mid p [] (ks ∷ ls) = ⊥
  Mid p (g ∷ gs) [] = ⊥
  Mid p (g ∷ gs) (ks ∷ ls) = At (p g.name) g.name ks × Mid p gs ls

  at_marked : (b : Bool) (x : Name) (ks : List ℕ) → At b x ks → At true x (ending_in k ks)
  at_marked true x ks h = (h.0, h.1, h.2, ap (ending_in k) h.3 ∙ ending_again k h.0)
  at_marked false x ks h = (h.0, h.1, h.2, ap (ending_in k) h.3 ∙ ending_new k h.0 (λ i m. (h.1 i m).0))

  mid_others : (p : Name → Bool) (x : Name) (gs : List Signal) (ls : List (List ℕ)) → ((g : Signal) → Among gs g → x ≢ g.name) → Mid p gs ls → Mid (marked x p) gs ls
  mid_others p x [] [] n h = tt
  mid_others p x [] (ks ∷ ls) n h = absurd h
  mid_others p x (g ∷ gs) [] n h = absurd h
  mid_others p x (g ∷ gs) (ks ∷ ls) n h =
      let same : p g.name ≡ marked x p g.name =
      ⊎_elim (λ (e : bytes_eq x g.name ≡ true). absurd (n g (inl refl) ((bytes_eq-Decides x g.name).0 e))) (λ (e : bytes_eq x g.name ≡ false). ap (λ (b : Bool). if b then true else p g.name) (sym e)) (bool_cases (bytes_eq x g.name)) in
      (subst (λ b. At b g.name ks) same h.0, mid_others p x gs ls (λ z m. n z (inr m)) h.1)

  mid_step : (p : Name → Bool) (x : Name) (gs : List Signal) (ls : List (List ℕ)) (j s : ℕ) → AreDistinct (signal_names gs) → Mid p gs ls → place_from j (signal_names gs) x ≡ Some (j + s) → Mid (marked x p) gs (placed_at (Some s) k ls)
  mid_step p x [] ls j s d h e = cc
  mid_step p x (g ∷ gs) [] j s d h e = absurd h
  mid_step p x (g ∷ gs) (ks ∷ ls) j zero d h e =
      ⊎_elim
      (λ (t : bytes_eq g.name x ≡ true).
      let named : g.name ≡ x = (bytes_eq-Decides g.name x).0 t in
      let is : true ≡ marked x p g.name = ap (λ (b : Bool). if b then true else p g.name) (sym ((bytes_eq-Decides x g.name).1 (sym named))) in (
        subst (λ b. At b g.name (ending_in k ks)) is (at_marked (p g.name) g.name ks h.0),
        mid_others p x gs ls (λ z m u. d.0 (subst (λ y. Among (signal_names gs) y) (sym u ∙ sym named) (map_among (λ (w : Signal). w.name) gs z m))) h.1,
      ))
      (λ (t : bytes_eq g.name x ≡ false).
      let r : place_from (suc j) (signal_names gs) x ≡ Some (j + 0) = rw t at e in
      let l = place_above (signal_names gs) x (suc j) (j + 0) r in
      absurd (omega (arith, l)))
      (bool_cases (bytes_eq g.name x))
  mid_step p x (g ∷ gs) (ks ∷ ls) j (suc s) d h e =
      ⊎_elim
      (λ (t : bytes_eq g.name x ≡ true).
      let r : Some j ≡ Some (j + suc s) = rw t at e in
      let q : j ≡ j + suc s = cc in
      absurd (omega (arith, q)))
      (λ (t : bytes_eq g.name x ≡ false).
      let r : place_from (suc j) (signal_names gs) x ≡ Some (j + suc s) = rw t at e in
      let z : j + suc s ≡ suc j + s = omega arith in
      let same : p g.name ≡ marked x p g.name =
      ⊎_elim (λ (u : bytes_eq x g.name ≡ true). let v : true ≡ false = sym ((bytes_eq-Decides g.name x).1 (sym ((bytes_eq-Decides x g.name).0 u))) ∙ t in cc) (λ (u : bytes_eq x g.name ≡ false). ap (λ (b : Bool). if b then true else p g.name) (sym u)) (bool_cases (bytes_eq x g.name)) in
      (subst (λ b. At b g.name ks) same h.0, mid_step p x gs ls (suc j) s d.1 h.1 (r ∙ ap Some z)))
      (bool_cases (bytes_eq g.name x))

  mid_name : (p : Name → Bool) (x : Name) (gs : List Signal) (ls : List (List ℕ)) → AreDistinct (signal_names gs) → Mid p gs ls → Mid (marked x p) gs (placed_at (place_in (signal_names gs) x) k ls)
  mid_name p x gs ls d h = by (place_in (signal_names gs) x) refl
    where
      by : (o : Option ℕ) → place_in (signal_names gs) x ≡ o → Mid (marked x p) gs (placed_at o k ls)
      by None e = mid_others p x gs ls (none_others gs x 0 e) h
      by (Some s) e = let z : s ≡ 0 + s = omega arith in mid_step p x gs ls 0 s d h (e ∙ ap Some z)

  mid_all : (xs : List Name) (p : Name → Bool) (gs : List Signal) (ls : List (List ℕ)) → AreDistinct (signal_names gs) → Mid p gs ls → Mid (marks xs p) gs (all_placed (signal_names gs) k xs ls)
  mid_all [] p gs ls d h = h
  mid_all (x ∷ xs) p gs ls d h = mid_all xs (marked x p) gs (placed_at (place_in (signal_names gs) x) k ls) d (mid_name p x gs ls d h)

-- ---- statement after statement

-- each list has the places below k of those of some statements that assign its signal, none of a clocked block
abbrev pub Stand : Flat → ℕ → List Stmt → List Signal → List (List ℕ) → Type 0
Stand f k js [] [] = Unit {0}
Stand f k js [] (ks ∷ ls) = ⊥
Stand f k js (g ∷ gs) [] = ⊥
Stand f k js (g ∷ gs) (ks ∷ ls) = (ArePassed f k ks × (picked (statements f) ks ≡ drivers_of js g.name)) × Stand f k js gs ls

drivers_push : (js : List Stmt) (j : Stmt) (x : Name) → drivers_of (js ++ j ∷ []) x ≡ drivers_of js x ++ (if is_among (assigned_by j) x then j ∷ [] else [])
drivers_push [] j x = refl
drivers_push (i ∷ js) j x = by (is_among (assigned_by i) x) (drivers_push js j x)
  where
    by : (b : Bool) → drivers_of (js ++ j ∷ []) x ≡ drivers_of js x ++ (if is_among (assigned_by j) x then j ∷ [] else [])
        → (if b then i ∷ drivers_of (js ++ j ∷ []) x else drivers_of (js ++ j ∷ []) x) ≡ (if b then i ∷ drivers_of js x else drivers_of js x) ++ (if is_among (assigned_by j) x then j ∷ [] else [])
    by true e = ap (λ z. i ∷ z) e
    by false e = e

module _ (f : Flat) where
  mid_start : (k : ℕ) (js : List Stmt) (gs : List Signal) (ls : List (List ℕ)) → Stand f k js gs ls → Mid f k js (λ n. false) gs ls
  mid_start k js [] [] h = tt
  mid_start k js [] (ks ∷ ls) h = absurd h
  mid_start k js (g ∷ gs) [] h = absurd h
  mid_start k js (g ∷ gs) (ks ∷ ls) h = ((ks, h.0.0, h.0.1, refl), mid_start k js gs ls h.1)

  at_end : (k : ℕ) (js : List Stmt) (j : Stmt) (b : Bool) (x : Name) (ks : List ℕ) → IsUnclocked f k → statement_at (statements f) k ≡ j → b ≡ is_among (assigned_by j) x → At f k js b x ks → ArePassed f (suc k) ks × (picked (statements f) ks ≡ drivers_of (js ++ j ∷ []) x)
  at_end k js j true x ks off s e h = (
    λ i m. ⊎_elim (λ n. let l = (h.1 i n).0 in (omega (arith, l), (h.1 i n).1)) (λ n. ⊎_elim (λ (q : k ≡ i). (omega (arith, q), subst (IsUnclocked f) q off)) (λ u. absurd u) n) (among_append h.0 (k ∷ []) i (subst (λ z. Among z i) h.3 m)),
    ap (picked (statements f)) h.3 ∙ map_append (statement_at (statements f)) h.0 (k ∷ []) ∙ (λ r. h.2 r ++ s r ∷ []) ∙ ap (λ (b : Bool). drivers_of js x ++ (if b then j ∷ [] else [])) e ∙ sym (drivers_push js j x),
  )
  at_end k js j false x ks off s e h = (
    λ i m. let l = h.1 i (subst (λ z. Among z i) h.3 m) in let lt = l.0 in (omega (arith, lt), l.1),
    ap (picked (statements f)) h.3 ∙ h.2 ∙ sym (append-nil (drivers_of js x)) ∙ ap (λ (b : Bool). drivers_of js x ++ (if b then j ∷ [] else [])) e ∙ sym (drivers_push js j x),
  )

  mid_end : (k : ℕ) (js : List Stmt) (j : Stmt) (p : Name → Bool) (gs : List Signal) (ls : List (List ℕ)) → IsUnclocked f k → statement_at (statements f) k ≡ j → ((n : Name) → p n ≡ is_among (assigned_by j) n) → Mid f k js p gs ls → Stand f (suc k) (js ++ j ∷ []) gs ls
  mid_end k js j p [] [] off s e h = tt
  mid_end k js j p [] (ks ∷ ls) off s e h = absurd h
  mid_end k js j p (g ∷ gs) [] off s e h = absurd h
  mid_end k js j p (g ∷ gs) (ks ∷ ls) off s e h = (at_end k js j (p g.name) g.name ks off s (e g.name) h.0, mid_end k js j p gs ls off s e h.1)

  -- a statement that assigns these names
  stand_next : (k : ℕ) (js : List Stmt) (j : Stmt) (gs : List Signal) (ls : List (List ℕ)) → AreDistinct (signal_names gs) → IsUnclocked f k → statement_at (statements f) k ≡ j → Stand f k js gs ls → Stand f (suc k) (js ++ j ∷ []) gs (all_placed (signal_names gs) k (assigned_by j) ls)
  stand_next k js j gs ls d off s h =
      mid_end k js j (marks (assigned_by j) (λ n. false)) gs (all_placed (signal_names gs) k (assigned_by j) ls) off s (λ n. marks_among (assigned_by j) (λ z. false) n ∙ or_false (is_among (assigned_by j) n))
      (mid_all f k js (assigned_by j) (λ n. false) gs ls d (mid_start k js gs ls h))
    where
      or_false : (b : Bool) → (if b then true else false) ≡ b
      or_false true = refl
      or_false false = refl

  -- a statement that is passed over
  stand_past : (k : ℕ) (js : List Stmt) (gs : List Signal) (ls : List (List ℕ)) → Stand f k js gs ls → Stand f (suc k) js gs ls
  stand_past k js [] [] h = tt
  stand_past k js [] (ks ∷ ls) h = absurd h
  stand_past k js (g ∷ gs) [] h = absurd h
  stand_past k js (g ∷ gs) (ks ∷ ls) h = ((λ i m. let l = (h.0.0 i m).0 in (omega (arith, l), (h.0.0 i m).1), h.0.1), stand_past k js gs ls h.1)

-- ---- all statements

statement_there : (xs : List Stmt) (j : Stmt) (ys : List Stmt) → statement_at (xs ++ j ∷ ys) (length xs) ≡ j
statement_there [] j ys = refl
statement_there (x ∷ xs) j ys = statement_there xs j ys

module _ (f : Flat) (d : AreDistinct (signal_names f.signals)) where
  abbrev gs : List Signal
  gs = f.signals

  abbrev names : List Name
  names = signal_names f.signals

  abbrev assign_stmt : Assign → Stmt
  assign_stmt a = s.Blocking a.left a.right

  abbrev body_of : Always → Stmt
  body_of k = k.body

  there : (k : ℕ) (done : List Stmt) (j : Stmt) (rest : List Stmt) → statements f ≡ done ++ j ∷ rest → k ≡ length done → statement_at (statements f) k ≡ j
  there k done j rest e n = (λ i. statement_at (e i) (n i)) ∙ statement_there done j rest

  more : (done : List Stmt) (j : Stmt) (rest : List Stmt) (k : ℕ) → statements f ≡ done ++ j ∷ rest → k ≡ length done → (statements f ≡ (done ++ j ∷ []) ++ rest) × (suc k ≡ length (done ++ j ∷ []))
  more done j rest k e n = (e ∙ sym (append_assoc done (j ∷ []) rest), omega (arith, n, length-append done (j ∷ [])))

  -- the place of a continuous assignment, and that of a combinational block
  assign_unclocked : (k : ℕ) → k < length f.assigns → IsUnclocked f k
  assign_unclocked k lt j x e l q = absurd (omega (arith, lt, e))

  block_there : (before : List Always) (b x : Always) (rest : List Always) → get_or (before ++ b ∷ rest) (length before) x ≡ b
  block_there [] b x rest = refl
  block_there (y ∷ before) b x rest = block_there before b x rest

  block_unclocked : (k : ℕ) (before : List Always) (b : Always) (rest : List Always) → f.blocks ≡ before ++ b ∷ rest → k ≡ length f.assigns + length before → b.clocked ≡ false → IsUnclocked f k
  block_unclocked k before b rest e n off j x at l q =
      let same : j ≡ length before = omega (arith, n, at) in
      let own : get_or f.blocks j x ≡ b = (λ r. get_or (e r) (same r) x) ∙ block_there before b x rest in
      ap (λ (z : Always). z.clocked) (q ∙ own) ∙ off

  assigns_stand : (k : ℕ) (done : List Stmt) (rest : List Assign) (blocks : List Stmt) (ls : List (List ℕ)) → statements f ≡ done ++ (map assign_stmt rest ++ blocks) → k ≡ length done → k + length rest ≡ length f.assigns → Stand f k done gs ls
      → Stand f (k + length rest) (done ++ map assign_stmt rest) gs (assigns_placed names k rest ls)
  assigns_stand k done [] blocks ls e n w h =
      let z : k ≡ k + 0 = omega arith in
      subst (λ m. Stand f m (done ++ []) gs ls) z (subst (λ js. Stand f k js gs ls) (sym (append-nil done)) h)
  assigns_stand k done (a ∷ rest) blocks ls e n w h =
      let j = assign_stmt a in
      let next = stand_next f k done j gs ls d (assign_unclocked k (omega (arith, w))) (there k done j (map assign_stmt rest ++ blocks) e n) h in
      let own : Stand f (suc k) (done ++ j ∷ []) gs (all_placed names k (left_names a.left) ls) = subst (λ xs. Stand f (suc k) (done ++ j ∷ []) gs (all_placed names k xs ls)) (append-nil (left_names a.left)) next in
      let m = more done j (map assign_stmt rest ++ blocks) k e n in
      let all = assigns_stand (suc k) (done ++ j ∷ []) rest blocks (all_placed names k (left_names a.left) ls) m.0 m.1 (omega (arith, w)) own in
      let z : suc k + length rest ≡ k + length (a ∷ rest) = omega arith in
      subst (λ m. Stand f m (done ++ map assign_stmt (a ∷ rest)) gs (assigns_placed names k (a ∷ rest) ls)) z
      (subst (λ js. Stand f (suc k + length rest) js gs (assigns_placed names k (a ∷ rest) ls)) (append_assoc done (j ∷ []) (map assign_stmt rest)) all)

  block_names : Always → List Name
  block_names b = chosen_names false m.Any b

  blocks_stand : (k : ℕ) (done js : List Stmt) (before rest : List Always) (ls : List (List ℕ)) → statements f ≡ done ++ map body_of rest → k ≡ length done → f.blocks ≡ before ++ rest → k ≡ length f.assigns + length before → Stand f k js gs ls → Stand f (k + length rest) (js ++ bodies rest) gs (blocks_placed names k rest ls)
  blocks_stand k done js before [] ls e n q w h =
      let z : k ≡ k + 0 = omega arith in
      subst (λ m. Stand f m (js ++ []) gs ls) z (subst (λ xs. Stand f k xs gs ls) (sym (append-nil js)) h)
  blocks_stand k done js before (b ∷ rest) ls e n q w h =
      let r : f.blocks ≡ (before ++ b ∷ []) ++ rest = q ∙ sym (append_assoc before (b ∷ []) rest) in
      let v : suc k ≡ length f.assigns + length (before ++ b ∷ []) = omega (arith, w, length-append before (b ∷ [])) in
      let m = more done b.body (map body_of rest) k e n in
      let z : suc k + length rest ≡ k + length (b ∷ rest) = omega arith in
      subst (λ m. Stand f m (js ++ bodies (b ∷ rest)) gs (blocks_placed names k (b ∷ rest) ls)) z
      (⊎_elim
      (λ (t : b.clocked ≡ true).
      let all = blocks_stand (suc k) (done ++ b.body ∷ []) js (before ++ b ∷ []) rest ls m.0 m.1 r v (stand_past f k js gs ls h) in
      subst (λ (c : Bool). Stand f (suc k + length rest) (js ++ (if c then bodies rest else b.body ∷ bodies rest)) gs (blocks_placed names (suc k) rest (all_placed names k (if not c then flat_map left_names (lefts b.body) else []) ls))) (sym t) all)
      (λ (t : b.clocked ≡ false).
      let next = stand_next f k js b.body gs ls d (block_unclocked k before b rest q w t) (there k done b.body (map body_of rest) e n) h in
      let all = blocks_stand (suc k) (done ++ b.body ∷ []) (js ++ b.body ∷ []) (before ++ b ∷ []) rest (all_placed names k (assigned_by b.body) ls) m.0 m.1 r v next in
      let whole = subst (λ xs. Stand f (suc k + length rest) xs gs (blocks_placed names (suc k) rest (all_placed names k (assigned_by b.body) ls))) (append_assoc js (b.body ∷ []) (bodies rest)) all in
      subst (λ (c : Bool). Stand f (suc k + length rest) (js ++ (if c then bodies rest else b.body ∷ bodies rest)) gs (blocks_placed names (suc k) rest (all_placed names k (if not c then flat_map left_names (lefts b.body) else []) ls))) (sym t) whole)
      (bool_cases b.clocked))

  none_stand : (hs : List Signal) → Stand f 0 [] hs (replicate (length hs) [])
  none_stand [] = tt
  none_stand (g ∷ hs) = ((λ i m. absurd m, refl), none_stand hs)

  all_stand : Stand f (length f.assigns + length f.blocks) (processes f) gs (places_in f)
  all_stand =
      let one = assigns_stand 0 [] f.assigns (map body_of f.blocks) (replicate (length gs) []) refl refl (omega arith) (none_stand gs) in
      let n : 0 + length f.assigns ≡ length f.assigns = omega arith in
      let first = subst (λ k. Stand f k (map assign_stmt f.assigns) gs (assigns_placed names 0 f.assigns (replicate (length gs) []))) n one in
      blocks_stand (length f.assigns) (map assign_stmt f.assigns) (map assign_stmt f.assigns) [] f.blocks (assigns_placed names 0 f.assigns (replicate (length gs) [])) refl (sym (length-map f.assigns assign_stmt)) refl (omega arith) first

  are_places : (k : ℕ) (hs : List Signal) (vs : List (Vec ℕ Global)) → k ≡ length (statements f) → Stand f k (processes f) hs (graph_of vs) → ArePlacesOf f hs vs
  are_places k [] [] n h = tt
  are_places k [] (v ∷ vs) n h = absurd h
  are_places k (g ∷ hs) [] n h = absurd h
  are_places k (g ∷ hs) (v ∷ vs) n h = (λ i m. let l = (h.0.0 i m).0 in (omega (arith, l, n), (h.0.0 i m).1), h.0.1, are_places k hs vs n h.1)

  pub places_are : (vs : List (Vec ℕ Global)) → graph_of vs ≡ places_in f → ArePlacesOf f gs vs
  places_are vs e = are_places (length f.assigns + length f.blocks) gs vs (sym (statements_long f)) (subst (λ ls. Stand f (length f.assigns + length f.blocks) (processes f) gs ls) (sym e) all_stand)
