-- Two lists of signals that declare the names of a statement alike: its paths do the same.
use Rattle.std.proofs.Common.{◌≡◌, ℕ, zero, suc, ◌<◌, ◌^◌, ◌⊎◌, inl, inr, max, Bool, List, [], ◌∷◌, ◌++◌, map, Some, None, refl, sym, ap, ◌∙◌, subst}
use Rattle.std.specs.Prelude.{◌&&◌, if◌then◌else◌, unwrap_or, IsTrue, pos, ◌-ℤ◌}
use Rattle.std.specs.Option.{option_map}
use Rattle.std.specs.List.{flat_map}
use Rattle.std.specs.Str.{bytes_eq}
use Rattle.std.proofs.Math.Dec.{eqb-zero-suc}
use Rattle.vlog_tree.specs.declared.expr.Expr.{Expr}
use Rattle.vlog_tree.specs.declared.stmt.CaseKind.{CaseKind}
use Rattle.vlog_tree.specs.declared.stmt.CaseKind.TheVariants as k
use Rattle.vlog_tree.specs.declared.stmt.Lval.{Lval, Row_of-Lval, end_of-Lval, more_of-Lval}
use Rattle.vlog_tree.specs.declared.stmt.Lval.TheVariants as l
use Rattle.vlog_tree.specs.declared.stmt.Stmt.{Stmt, Row_of-Stmt, end_of-Stmt, more_of-Stmt, Row_of-CaseItem, end_of-CaseItem, more_of-CaseItem}
use Rattle.vlog_tree.specs.declared.stmt.Stmt.TheVariants as s
use Rattle.vlog_tree.specs.Valuation.{entry_at}
use Rattle.vlog_tree.specs.Value.{operand_of, part_low, part_width, own_integer, extend, NamesOnly}
use Rattle.vlog_tree_runs.specs.declared.flat.Signal.{Signal}
use Rattle.vlog_tree_runs.specs.Places.{Name, Among, Place, entries_of, held_entry}
use Rattle.vlog_tree_runs.specs.Blocks.{signal_at, low_in, is_parameter, IsWithin, labels_in, exprs_in, case_width, case_sign, left_names, row_names, lefts, Drives, AnyDrives}
use Rattle.elab_flat_faults.specs.Texts.{names_in, numbers_in}
use Rattle.elab_flat_laws.proofs.Lists.{among_append, append_left, append_right, among_flat, flat_among}
use Rattle.elab_flat_faults.specs.Paths.{Sets, AnySets, IsConstant, constant, AllConstant, IsLabel, IsSimple, CoversAll, IsFull, HasDefault, IsPath, IsSetBy, Step, width_in}
use Rattle.elab_flat_faults.specs.Drivers.{BlockDepends}
use Rattle.elab_step_laws.specs.Flows.{Flow, at_start, either, only_if, IsUnset, Uses, after_reads, after_assignment, within, flow, row_flow, items_flow, block_flow}
use Rattle.elab_step_laws.specs.Laws.{place_over, AreVectors, ReadsOutside}
use Rattle.elab_step_laws.proofs.Reading.{ReadAlike, entry_is, no_depth, fewer, first_of_two, second_of_two, same_operand}
use Rattle.elab_step_laws.proofs.Cases.{same_widest, same_signs}
use Rattle.elab_step_laws.proofs.Walking.{passes_are_paths}
use Rattle.elab_flat_drivers.specs.Pieces.{Action, Tests, Assigns, Schedules, actions, row_actions, case_actions}
use Rattle.elab_step_flow.specs.Cases.{at_rest, IsComparable}
use Rattle.elab_step_flow.specs.Own.{action_names, names_of, DeclareAlike}
use Rattle.elab_step_flow.proofs.Naming.{one_expr, label_tested, left_assigned, driven_name}
use Rattle.elab_step_flow.proofs.Forming.{formed_same}

-- ---- what names stand for at rest

pub same : (A B : Type 0) → A ≡ B → A → B
same A B p a = subst (λ (X : Type 0). X) p a

rest_step : (g : Signal) (gs : List Signal) → g.depth ≡ 0 → at_rest (g ∷ gs) ≡ held_entry [] (λ x. 0) g ∷ at_rest gs
rest_step g gs h = ap (λ es. es ++ at_rest gs) (one g h)
  where
    one : (g : Signal) → g.depth ≡ 0 → entries_of [] (λ x. 0) g ≡ held_entry [] (λ x. 0) g ∷ []
    one g h = rw h refl

-- in another cycle they stand for nothing
never : (gs : List Signal) (x : Name) (j : ℕ) → AreVectors gs → entry_at (at_rest gs) x (suc j) ≡ None
never [] x j h = refl
never (g ∷ gs) x j h =
    ap (λ es. entry_at es x (suc j)) (rest_step g gs (h g (inl refl)))
    ∙ (ap (λ (t : Bool). if t && bytes_eq g.name x then Some (held_entry [] (λ x. 0) g) else entry_at (at_rest gs) x (suc j)) (eqb-zero-suc j) ∙ never gs x j (λ k m. h k (inr m)))

-- ---- flows

module _ (gs hs : List Signal) (vectors : AreVectors gs) (vectors' : AreVectors hs) where
  abbrev p : Place
  p = place_over gs

  abbrev q : Place
  q = place_over hs

  -- each of some actions has names that are declared alike
  abbrev pub ActAlike : List Action → Type 0
  ActAlike cs = (c : Action) → Among cs c → DeclareAlike gs hs (action_names c)

  pub acts : (body : Stmt) → DeclareAlike gs hs (names_of body) → ActAlike (actions body)
  acts body h c m x k = h x (flat_among action_names (actions body) c x m k)

  pub first_acts : (cs ds : List Action) → ActAlike (cs ++ ds) → ActAlike cs
  first_acts cs ds h c m = h c (append_left cs ds c m)

  pub other_acts : (cs ds : List Action) → ActAlike (cs ++ ds) → ActAlike ds
  other_acts cs ds h c m = h c (append_right cs ds c m)

  pub later_acts : (c : Action) (cs : List Action) → ActAlike (c ∷ cs) → ActAlike cs
  later_acts c cs h d m = h d (inr m)

  pub tested : (a : Expr) (cs : List Action) → ActAlike (Tests a ∷ cs) → DeclareAlike gs hs (flat_map names_in (a ∷ []))
  tested a cs h x m = h (Tests a) (inl refl) x (one_expr a x m)

  pub compared : {n : _} (a : Expr) (row : Row_of-CaseItem n) → ActAlike (Tests a ∷ case_actions row) → DeclareAlike gs hs (flat_map names_in (a ∷ labels_in row))
  compared a row h x m = elim (among_append (names_in a) (flat_map names_in (labels_in row)) x m) [
    | inl f ↦ h (Tests a) (inl refl) x f
    | inr f ↦ (let r = among_flat names_in (labels_in row) x f in h (Tests r.0) (inr (label_tested row r.0 r.1)) x r.2)
  ]

  left_side : (left : Lval) (right : Expr) → DeclareAlike gs hs (left_names left ++ flat_map names_in (right ∷ numbers_in left)) → DeclareAlike gs hs (left_names left)
  left_side left right h x m = h x (append_left (left_names left) (flat_map names_in (right ∷ numbers_in left)) x m)

  right_side : (left : Lval) (right : Expr) → DeclareAlike gs hs (left_names left ++ flat_map names_in (right ∷ numbers_in left)) → DeclareAlike gs hs (flat_map names_in (right ∷ numbers_in left))
  right_side left right h x m = h x (append_right (left_names left) (flat_map names_in (right ∷ numbers_in left)) x m)

  same_entry : (x : Name) (j : ℕ) → signal_at gs x ≡ signal_at hs x → entry_at (at_rest gs) x j ≡ entry_at (at_rest hs) x j
  same_entry x zero i = entry_is gs (λ y. 0) x vectors ∙ (ap (λ o. option_map (held_entry [] (λ y. 0)) o) i ∙ sym (entry_is hs (λ y. 0) x vectors'))
  same_entry x (suc j) i = never gs x j vectors ∙ sym (never hs x j vectors')

  read_alike : (xs : List Name) → DeclareAlike gs hs xs → ReadAlike (at_rest gs) (at_rest hs) xs
  read_alike xs h = record { entries = λ x j m. same_entry x j (h x m); plain = λ r. no_depth gs (λ y. 0) r vectors; plain_too = λ r. no_depth hs (λ y. 0) r vectors' }

  width_same : (x : Name) → signal_at gs x ≡ signal_at hs x → width_in p x ≡ width_in q x
  width_same x i = ap (λ o. unwrap_or (option_map (λ (g : Signal). g.width) o) 0) i

  low_same : (x : Name) → signal_at gs x ≡ signal_at hs x → low_in p x ≡ low_in q x
  low_same x i = ap (λ o. unwrap_or (option_map (λ (g : Signal). g.low) o) 0) i

  mutual
    sets_same : (left : Lval) → DeclareAlike gs hs (left_names left) → (x : Name) (b : ℕ) → Sets p left x b ≡ Sets q left x b
    sets_same (l.Name y) m x b = refl
    sets_same (l.Select y a) m x b = let low = low_same y (m y (inl refl)) in λ r. (y ≡ x) × IsConstant p a × (constant p a -ℤ pos (low r) ≡ pos b)
    sets_same (l.Part y span a c) m x b =
        let low = low_same y (m y (inl refl)) in
        λ r. (y ≡ x) × IsConstant p a × IsConstant p c × IsWithin (part_low span (constant p a) (constant p c) -ℤ pos (low r)) (part_width span (constant p a) (constant p c)) b
    sets_same (l.Concat' h row) m x b = row_sets_same row m x b

    row_sets_same : {n : _} (row : Row_of-Lval n) → DeclareAlike gs hs (row_names row) → (x : Name) (b : ℕ) → AnySets p row x b ≡ AnySets q row x b
    row_sets_same end_of-Lval m x b = refl
    row_sets_same (more_of-Lval a rest) m x b =
        let f = sets_same a (λ y n. m y (append_left (left_names a) (row_names rest) y n)) x b in
        let f' = row_sets_same rest (λ y n. m y (append_right (left_names a) (row_names rest) y n)) x b in
        λ r. f r ⊎ f' r

  mutual
    drives_same : (left : Lval) → DeclareAlike gs hs (left_names left) → (x : Name) (b : ℕ) → Drives p left x b ≡ Drives q left x b
    drives_same (l.Name y) m x b = refl
    drives_same (l.Select y a) m x b =
        let low = low_same y (m y (inl refl)) in
        λ r. (y ≡ x) × (NamesOnly (is_parameter p) a → own_integer (operand_of [] a) -ℤ pos (low r) ≡ pos b)
    drives_same (l.Part y span a c) m x b =
        let low = low_same y (m y (inl refl)) in
        λ r. (y ≡ x) × (NamesOnly (is_parameter p) a → NamesOnly (is_parameter p) c → IsWithin (part_low span (constant p a) (constant p c) -ℤ pos (low r)) (part_width span (constant p a) (constant p c)) b)
    drives_same (l.Concat' h row) m x b = row_drives_same row m x b

    row_drives_same : {n : _} (row : Row_of-Lval n) → DeclareAlike gs hs (row_names row) → (x : Name) (b : ℕ) → AnyDrives p row x b ≡ AnyDrives q row x b
    row_drives_same end_of-Lval m x b = refl
    row_drives_same (more_of-Lval a rest) m x b =
        let f = drives_same a (λ y n. m y (append_left (left_names a) (row_names rest) y n)) x b in
        let f' = row_drives_same rest (λ y n. m y (append_right (left_names a) (row_names rest) y n)) x b in
        λ r. f r ⊎ f' r

  -- ---- full cases

  module _ (a : Expr) (labels : List Expr) (m : DeclareAlike gs hs (flat_map names_in (a ∷ labels))) where
    subject_alike : ReadAlike (at_rest gs) (at_rest hs) (names_in a)
    subject_alike = first_of_two (at_rest gs) (at_rest hs) (names_in a) (flat_map names_in labels) (read_alike (flat_map names_in (a ∷ labels)) m)

    labels_alike : ReadAlike (at_rest gs) (at_rest hs) (flat_map names_in labels)
    labels_alike = second_of_two (at_rest gs) (at_rest hs) (names_in a) (flat_map names_in labels) (read_alike (flat_map names_in (a ∷ labels)) m)

    label_alike : (b : Expr) → Among labels b → ReadAlike (at_rest gs) (at_rest hs) (names_in b)
    label_alike b n = fewer (at_rest gs) (at_rest hs) (names_in b) (flat_map names_in labels) labels_alike (λ x i. flat_among names_in labels b x n i)

    case_width_same : case_width (at_rest gs) a labels ≡ case_width (at_rest hs) a labels
    case_width_same =
        let o = same_operand (at_rest gs) (at_rest hs) a subject_alike in
        let n = same_widest (at_rest gs) (at_rest hs) labels labels_alike in
        λ r. max (o r).width (n r)

    case_sign_same : case_sign (at_rest gs) a labels ≡ case_sign (at_rest hs) a labels
    case_sign_same =
        let o = same_operand (at_rest gs) (at_rest hs) a subject_alike in
        let n = same_signs (at_rest gs) (at_rest hs) labels labels_alike in
        λ r. (o r).signed && n r

    label_same : (n n' : ℕ) (t t' : Bool) (x x' : ℕ) → n ≡ n' → t ≡ t' → x ≡ x' → IsLabel (at_rest gs) n t labels x ≡ IsLabel (at_rest hs) n' t' labels x'
    label_same n n' t t' x x' i j k = λ r. (b : Expr) × (c : Among labels b) × ((same_operand (at_rest gs) (at_rest hs) b (label_alike b c) r).value (i r) (j r) ≡ k r)

    covers_same : CoversAll (at_rest gs) a labels ≡ CoversAll (at_rest hs) a labels
    covers_same =
        let o = same_operand (at_rest gs) (at_rest hs) a subject_alike in
        let n = case_width_same in
        let t = case_sign_same in
        λ r.
        ((x : ℕ) → x < 2 ^ n r → label_same _ _ _ _ x x n t refl r)
        ⊎ (IsSimple a × ((x : ℕ) → x < 2 ^ (o r).width → label_same _ _ _ _ _ _ n t (λ k. extend (t k) (o k).width (n k) x) r))

    full_same : (kind : CaseKind) → IsFull p kind a labels ≡ IsFull q kind a labels
    full_same k.Case = λ r. AllConstant p labels × covers_same r
    full_same k.Casez = refl

    pub comparable_moves : IsComparable (at_rest gs) a labels → IsComparable (at_rest hs) a labels
    comparable_moves h = record {
      subject = same _ _ (formed_same (at_rest gs) (at_rest hs) a subject_alike) h.subject;
      formed = λ b n. same _ _ (formed_same (at_rest gs) (at_rest hs) b (label_alike b n)) (h.formed b n);
      defined = λ b n.
          let o = same_operand (at_rest gs) (at_rest hs) b (label_alike b n) in
          let defined_same : IsTrue ((operand_of (at_rest gs) b).defined (case_width (at_rest gs) a labels) (case_sign (at_rest gs) a labels)) ≡ IsTrue ((operand_of (at_rest hs) b).defined (case_width (at_rest hs) a labels) (case_sign (at_rest hs) a labels)) =
          λ r. IsTrue ((o r).defined (case_width_same r) (case_sign_same r)) in
          same _ _ defined_same (h.defined b n);
    }

  -- ---- reads and assignments

  unset_same : (u v : Flow) → u ≡ v → (x : Name) → signal_at gs x ≡ signal_at hs x → IsUnset p u x ≡ IsUnset q v x
  unset_same u v f x i = λ r. (b : ℕ) × (b < width_same x i r) × (f r).unset x b

  uses_same : (u v : Flow) → u ≡ v → (as' : List Expr) → DeclareAlike gs hs (flat_map names_in as') → (z : Name) → Uses p u as' z ≡ Uses q v as' z
  uses_same u v f as' m z = λ r. (y : Name) × (n : Among (flat_map names_in as') y) × (((z ≡ y) × unset_same u v f y (m y n) r) ⊎ (f r).through y z)

  within_same : (A B : Name → Type 0) → A ≡ B → (u v : Flow) → u ≡ v → (as' : List Expr) → DeclareAlike gs hs (flat_map names_in as') → within p A u as' ≡ within q B v as'
  within_same A B around u v f as' m = λ r z. uses_same u v f as' m z r ⊎ around r z

  reads_same : (u v : Flow) → u ≡ v → (as' : List Expr) → DeclareAlike gs hs (flat_map names_in as') → after_reads p as' u ≡ after_reads q as' v
  reads_same u v f as' m = λ r.
      record {
        unset = (f r).unset;
        through = (f r).through;
        outside = λ x. ((n : Among (flat_map names_in as') x) × unset_same u v f x (m x n) r) ⊎ (f r).outside x;
      }

  assignment_same : (A B : Name → Type 0) → A ≡ B → (u v : Flow) → u ≡ v → (left : Lval) (right : Expr) → DeclareAlike gs hs (left_names left ++ flat_map names_in (right ∷ numbers_in left)) →
      after_assignment p A left right u ≡ after_assignment q B left right v
  assignment_same A B around u v f left right m =
      let sets = sets_same left (left_side left right m) in
      let uses = uses_same u v f (right ∷ numbers_in left) (right_side left right m) in
      let reads = reads_same u v f (right ∷ numbers_in left) (right_side left right m) in
      λ r.
      record {
        unset = λ x b. (f r).unset x b × (sets x b r → ⊥);
        through = λ y z. (Among (left_names left) y × (uses z r ⊎ around r z)) ⊎ (f r).through y z;
        outside = (reads r).outside;
      }

  -- ---- statements

  mutual
    flow_same : (body : Stmt) → ActAlike (actions body) → (A B : Name → Type 0) → A ≡ B → (u v : Flow) → u ≡ v → flow p A body u ≡ flow q B body v
    flow_same s.Empty m A B around u v f = f
    flow_same (s.Block' n h row) m A B around u v f = row_same row m A B around u v f
    flow_same (s.If' a h (more_of-Stmt body end_of-Stmt)) m A B around u v f =
        let t = tested a (actions body) m in
        let reads = reads_same u v f (a ∷ []) t in
        let inner = flow_same body (later_acts (Tests a) (actions body) m) _ _ (within_same A B around u v f (a ∷ []) t) _ _ reads in
        λ r. either (inner r) (reads r)
    flow_same (s.IfElse' a h (more_of-Stmt body end_of-Stmt) g (more_of-Stmt other end_of-Stmt)) m A B around u v f =
        let t = tested a (actions body ++ actions other) m in
        let rest = later_acts (Tests a) (actions body ++ actions other) m in
        let reads = reads_same u v f (a ∷ []) t in
        let within' = within_same A B around u v f (a ∷ []) t in
        let one = flow_same body (first_acts (actions body) (actions other) rest) _ _ within' _ _ reads in
        let two = flow_same other (other_acts (actions body) (actions other) rest) _ _ within' _ _ reads in
        λ r. either (one r) (two r)
    flow_same (s.Case' kind a h row) m A B around u v f =
        let t = compared a row m in
        let reads = reads_same u v f (a ∷ labels_in row) t in
        let full = full_same a (labels_in row) t kind in
        let items = items_same row (later_acts (Tests a) (case_actions row) m) _ _ (within_same A B around u v f (a ∷ labels_in row) t) _ _ reads in
        λ r. either (items r) (only_if ((HasDefault row → ⊥) × (full r → ⊥)) (reads r))
    flow_same (s.Blocking left right) m A B around u v f = assignment_same A B around u v f left right (m (Assigns left right) (inl refl))
    flow_same (s.Nonblocking left right) m A B around u v f = assignment_same A B around u v f left right (m (Schedules left right) (inl refl))

    row_same : {n : _} (row : Row_of-Stmt n) → ActAlike (row_actions row) → (A B : Name → Type 0) → A ≡ B → (u v : Flow) → u ≡ v → row_flow p A row u ≡ row_flow q B row v
    row_same end_of-Stmt m A B around u v f = f
    row_same (more_of-Stmt a rest) m A B around u v f =
        row_same rest (other_acts (actions a) (row_actions rest) m) A B around _ _ (flow_same a (first_acts (actions a) (row_actions rest) m) A B around u v f)

    items_same : {n : _} (row : Row_of-CaseItem n) → ActAlike (case_actions row) → (A B : Name → Type 0) → A ≡ B → (u v : Flow) → u ≡ v → items_flow p A row u ≡ items_flow q B row v
    items_same end_of-CaseItem m A B around u v f = refl
    items_same (more_of-CaseItem labels body rest) m A B around u v f =
        let tests = map Tests (exprs_in labels) in
        let here = other_acts tests (actions body) (first_acts (tests ++ actions body) (case_actions rest) m) in
        let one = flow_same body here A B around u v f in
        let two = items_same rest (other_acts (tests ++ actions body) (case_actions rest) m) A B around u v f in
        λ r. either (one r) (two r)

  module _ (body : Stmt) (alike : DeclareAlike gs hs (names_of body)) where
    pub block_same : block_flow p body ≡ block_flow q body
    block_same = flow_same body (acts body alike) (λ z. ⊥) (λ z. ⊥) refl at_start at_start refl

    driven_alike : (left : Lval) (x : Name) → Among (lefts body) left → Among (left_names left) x → signal_at gs x ≡ signal_at hs x
    driven_alike left x m n = let c = left_assigned body left m in alike x (flat_among action_names (actions body) c.0 x c.1 (c.2 x n))

    pub unset_moves : (x : Name) (b : ℕ) → (steps : List Step) × IsPath p body steps × (IsSetBy p steps x b → ⊥) → (steps : List Step) × IsPath q body steps × (IsSetBy q steps x b → ⊥)
    unset_moves x b u = ((passes_are_paths q body).unset x b).0 (same _ _ (λ r. (block_same r).unset x b) (((passes_are_paths p body).unset x b).1 u))

    pub depends_moves : (y z : Name) → BlockDepends p body y z → BlockDepends q body y z
    depends_moves y z d = ((passes_are_paths q body).through y z).0 (same _ _ (λ r. (block_same r).through y z) (((passes_are_paths p body).through y z).1 d))

    pub outside_moves : (x : Name) → ReadsOutside p body x → ReadsOutside q body x
    outside_moves x d = ((passes_are_paths q body).outside x).0 (same _ _ (λ r. (block_same r).outside x) (((passes_are_paths p body).outside x).1 d))

    abbrev pub DrivesBit : Place → Name → ℕ → Type 0
    DrivesBit place x b = (left : Lval) × Among (lefts body) left × Drives place left x b

    pub misses_moves : (x : Name) (b : ℕ) → b < width_in p x → DrivesBit p x b → (b < width_in q x) × DrivesBit q x b
    misses_moves x b lt (left, m, d) =
        let n = driven_name p left x b d in
        (subst (λ k. b < k) (width_same x (driven_alike left x m n)) lt, (left, m, same _ _ (drives_same left (λ y k. driven_alike left y m k) x b) d))
