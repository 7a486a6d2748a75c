-- The names in a statement: those of its left sides, and of what depends on what.
use Rattle.std.proofs.Common.{ℕ, inl, inr, List, [], ◌∷◌, ◌++◌, map, refl, sym, subst, ⊎_elim}
use Rattle.std.specs.List.{flat_map}
use Rattle.vlog_tree.specs.declared.expr.Expr.{Expr}
use Rattle.vlog_tree.specs.declared.stmt.Lval.{Lval, Row_of-Lval, end_of-Lval, more_of-Lval}
use Rattle.vlog_tree.specs.declared.stmt.Lval.TheVariants as l
use Rattle.vlog_tree.specs.declared.stmt.Stmt.{Stmt, Row_of-Stmt, end_of-Stmt, more_of-Stmt, Row_of-CaseItem, end_of-CaseItem, more_of-CaseItem}
use Rattle.vlog_tree.specs.declared.stmt.Stmt.TheVariants as s
use Rattle.vlog_tree_runs.specs.Places.{Name, Among, Place}
use Rattle.vlog_tree_runs.specs.Blocks.{labels_in, exprs_in, left_names, row_names, lefts, row_lefts, case_lefts, Drives, AnyDrives}
use Rattle.elab_flat_faults.specs.Texts.{names_in, numbers_in}
use Rattle.elab_flat_laws.proofs.Lists.{among_append, append_left, append_right, among_flat, flat_among, map_among}
use Rattle.elab_flat_faults.specs.Drivers.{BlockDepends}
use Rattle.elab_step_laws.specs.Flows.{Flow, at_start, Uses, after_reads, after_assignment, within, flow, row_flow, items_flow}
use Rattle.elab_step_laws.proofs.Walking.{passes_are_paths}
use Rattle.elab_flat_drivers.specs.Pieces.{Action, Tests, Assigns, Schedules, actions, row_actions, case_actions}
use Rattle.elab_step_flow.specs.Own.{action_names, names_of}

-- ---- names of expressions, one by one and together

pub one_expr : (a : Expr) (x : Name) → Among (flat_map names_in (a ∷ [])) x → Among (names_in a) x
one_expr a x m = elim (among_append (names_in a) [] x m) [ inl f ↦ f | inr f ↦ absurd f ]

pub label_tested : {n : _} (row : Row_of-CaseItem n) (a : Expr) → Among (labels_in row) a → Among (case_actions row) (Tests a)
label_tested end_of-CaseItem a m = absurd m
label_tested (more_of-CaseItem labels body rest) a m = elim (among_append (exprs_in labels) (labels_in rest) a m) [
  | inl f ↦ append_left (map Tests (exprs_in labels) ++ actions body) (case_actions rest) (Tests a) (append_left (map Tests (exprs_in labels)) (actions body) (Tests a) (map_among Tests (exprs_in labels) a f))
  | inr f ↦ append_right (map Tests (exprs_in labels) ++ actions body) (case_actions rest) (Tests a) (label_tested rest a f)
]

-- a left side of a statement is that of one of its assignments
abbrev pub Assigning : List Action → Lval → Type 0
Assigning cs left = (c : Action) × Among cs c × ((x : Name) → Among (left_names left) x → Among (action_names c) x)

front : (cs ds : List Action) (left : Lval) → Assigning cs left → Assigning (cs ++ ds) left
front cs ds left h = (h.0, append_left cs ds h.0 h.1, h.2)

back : (cs ds : List Action) (left : Lval) → Assigning ds left → Assigning (cs ++ ds) left
back cs ds left h = (h.0, append_right cs ds h.0 h.1, h.2)

sole : (y left : Lval) → Among (y ∷ []) left → (x : Name) → Among (left_names left) x → Among (left_names y) x
sole y left (inl f) x n = subst (λ z. Among (left_names z) x) (sym f) n
sole y left (inr f) x n = absurd f

mutual
  pub left_assigned : (body : Stmt) (left : Lval) → Among (lefts body) left → Assigning (actions body) left
  left_assigned s.Empty left m = absurd m
  left_assigned (s.Block' n h row) left m = row_assigned row left m
  left_assigned (s.If' a h (more_of-Stmt body end_of-Stmt)) left m = back (Tests a ∷ []) (actions body) left (left_assigned body left m)
  left_assigned (s.IfElse' a h (more_of-Stmt body end_of-Stmt) g (more_of-Stmt other end_of-Stmt)) left m =
      back (Tests a ∷ []) (actions body ++ actions other) left (elim (among_append (lefts body) (lefts other) left m) [
        | inl f ↦ front (actions body) (actions other) left (left_assigned body left f)
        | inr f ↦ back (actions body) (actions other) left (left_assigned other left f)
      ])
  left_assigned (s.Case' kind a h row) left m = back (Tests a ∷ []) (case_actions row) left (items_assigned row left m)
  left_assigned (s.Blocking y right) left m = (Assigns y right, inl refl, λ x n. append_left (left_names y) _ x (sole y left m x n))
  left_assigned (s.Nonblocking y right) left m = (Schedules y right, inl refl, λ x n. append_left (left_names y) _ x (sole y left m x n))

  row_assigned : {n : _} (row : Row_of-Stmt n) (left : Lval) → Among (row_lefts row) left → Assigning (row_actions row) left
  row_assigned end_of-Stmt left m = absurd m
  row_assigned (more_of-Stmt a rest) left m = elim (among_append (lefts a) (row_lefts rest) left m) [
    | inl f ↦ front (actions a) (row_actions rest) left (left_assigned a left f)
    | inr f ↦ back (actions a) (row_actions rest) left (row_assigned rest left f)
  ]

  items_assigned : {n : _} (row : Row_of-CaseItem n) (left : Lval) → Among (case_lefts row) left → Assigning (case_actions row) left
  items_assigned end_of-CaseItem left m = absurd m
  items_assigned (more_of-CaseItem labels body rest) left m = elim (among_append (lefts body) (case_lefts rest) left m) [
    | inl f ↦ front (map Tests (exprs_in labels) ++ actions body) (case_actions rest) left (back (map Tests (exprs_in labels)) (actions body) left (left_assigned body left f))
    | inr f ↦ back (map Tests (exprs_in labels) ++ actions body) (case_actions rest) left (items_assigned rest left f)
  ]

mutual
  pub driven_name : (p : Place) (left : Lval) (x : Name) (b : ℕ) → Drives p left x b → Among (left_names left) x
  driven_name p (l.Name y) x b d = inl d
  driven_name p (l.Select y a) x b d = inl d.0
  driven_name p (l.Part y span a c) x b d = inl d.0
  driven_name p (l.Concat' h row) x b d = row_driven_name p row x b d

  row_driven_name : {n : _} (p : Place) (row : Row_of-Lval n) (x : Name) (b : ℕ) → AnyDrives p row x b → Among (row_names row) x
  row_driven_name p end_of-Lval x b d = absurd d
  row_driven_name p (more_of-Lval a rest) x b (inl d) = append_left (left_names a) (row_names rest) x (driven_name p a x b d)
  row_driven_name p (more_of-Lval a rest) x b (inr d) = append_right (left_names a) (row_names rest) x (row_driven_name p rest x b d)

-- ---- what the flow of a statement names

-- an assignment and what it depends on are named
module _ (N : Name → Type 0) (p : Place) where
  abbrev Named : Flow → Type 0
  Named w = (y z : Name) → w.through y z → N y × N z

  abbrev AreNamed : (Name → Type 0) → Type 0
  AreNamed A = (z : Name) → A z → N z

  abbrev AllNamed : List Action → Type 0
  AllNamed cs = (c : Action) → Among cs c → AreNamed (Among (action_names c))

  uses_named : (w : Flow) (as' : List Expr) → Named w → AreNamed (Among (flat_map names_in as')) → AreNamed (Uses p w as')
  uses_named w as' h m z (y, n, inl f) = subst N (sym f.0) (m y n)
  uses_named w as' h m z (y, n, inr f) = (h y z f).1

  within_named : (A : Name → Type 0) (w : Flow) (as' : List Expr) → AreNamed A → Named w → AreNamed (Among (flat_map names_in as')) → AreNamed (within p A w as')
  within_named A w as' a h m z (inl f) = uses_named w as' h m z f
  within_named A w as' a h m z (inr f) = a z f

  tested_named : (a : Expr) (cs : List Action) → AllNamed (Tests a ∷ cs) → AreNamed (Among (flat_map names_in (a ∷ [])))
  tested_named a cs m x n = m (Tests a) (inl refl) x (one_expr a x n)

  sides_named : (left : Lval) (right : Expr) → AreNamed (Among (left_names left ++ flat_map names_in (right ∷ numbers_in left))) → AreNamed (Among (left_names left)) × AreNamed (Among (flat_map names_in (right ∷ numbers_in left)))
  sides_named left right m =
      let xs = left_names left in
      let ys = flat_map names_in (right ∷ numbers_in left) in
      (λ x n. m x (append_left xs ys x n), λ x n. m x (append_right xs ys x n))

  assignment_named : (A : Name → Type 0) (left : Lval) (right : Expr) (w : Flow) → AreNamed (Among (left_names left ++ flat_map names_in (right ∷ numbers_in left))) → AreNamed A → Named w → Named (after_assignment p A left right w)
  assignment_named A left right w m a h y z (inl f) =
      let sides = sides_named left right m in
      (sides.0 y f.0, elim f.1 [ inl g ↦ uses_named w (right ∷ numbers_in left) h sides.1 z g | inr g ↦ a z g ])
  assignment_named A left right w m a h y z (inr f) = h y z f

  first_named : (cs ds : List Action) → AllNamed (cs ++ ds) → AllNamed cs
  first_named cs ds m c n = m c (append_left cs ds c n)

  other_named : (cs ds : List Action) → AllNamed (cs ++ ds) → AllNamed ds
  other_named cs ds m c n = m c (append_right cs ds c n)

  compared_named : {n : _} (a : Expr) (row : Row_of-CaseItem n) → AllNamed (Tests a ∷ case_actions row) → AreNamed (Among (flat_map names_in (a ∷ labels_in row)))
  compared_named a row m x n = elim (among_append (names_in a) (flat_map names_in (labels_in row)) x n) [
    | inl f ↦ m (Tests a) (inl refl) x f
    | inr f ↦ (let r = among_flat names_in (labels_in row) x f in m (Tests r.0) (inr (label_tested row r.0 r.1)) x r.2)
  ]

  mutual
    flow_named : (body : Stmt) → AllNamed (actions body) → (A : Name → Type 0) (w : Flow) → AreNamed A → Named w → Named (flow p A body w)
    flow_named s.Empty m A w a h = h
    flow_named (s.Block' n g row) m A w a h = row_named row m A w a h
    flow_named (s.If' c g (more_of-Stmt body end_of-Stmt)) m A w a h =
        let around = within_named A w (c ∷ []) a h (tested_named c (actions body) m) in
        let inner = flow_named body (λ d n. m d (inr n)) (within p A w (c ∷ [])) (after_reads p (c ∷ []) w) around h in
        λ y z. ⊎_elim (inner y z) (h y z)
    flow_named (s.IfElse' c g (more_of-Stmt body end_of-Stmt) k (more_of-Stmt other end_of-Stmt)) m A w a h =
        let rest : AllNamed (actions body ++ actions other) = λ d n. m d (inr n) in
        let around = within_named A w (c ∷ []) a h (tested_named c (actions body ++ actions other) m) in
        let one = flow_named body (first_named (actions body) (actions other) rest) (within p A w (c ∷ [])) (after_reads p (c ∷ []) w) around h in
        let two = flow_named other (other_named (actions body) (actions other) rest) (within p A w (c ∷ [])) (after_reads p (c ∷ []) w) around h in
        λ y z. ⊎_elim (one y z) (two y z)
    flow_named (s.Case' kind c g row) m A w a h =
        let around = within_named A w (c ∷ labels_in row) a h (compared_named c row m) in
        let items = items_named row (λ d n. m d (inr n)) (within p A w (c ∷ labels_in row)) (after_reads p (c ∷ labels_in row) w) around h in
        λ y z. ⊎_elim (items y z) (λ f. h y z f.1)
    flow_named (s.Blocking left right) m A w a h = assignment_named A left right w (m (Assigns left right) (inl refl)) a h
    flow_named (s.Nonblocking left right) m A w a h = assignment_named A left right w (m (Schedules left right) (inl refl)) a h

    row_named : {n : _} (row : Row_of-Stmt n) → AllNamed (row_actions row) → (A : Name → Type 0) (w : Flow) → AreNamed A → Named w → Named (row_flow p A row w)
    row_named end_of-Stmt m A w a h = h
    row_named (more_of-Stmt c rest) m A w a h =
        row_named rest (other_named (actions c) (row_actions rest) m) A (flow p A c w) a (flow_named c (first_named (actions c) (row_actions rest) m) A w a h)

    items_named : {n : _} (row : Row_of-CaseItem n) → AllNamed (case_actions row) → (A : Name → Type 0) (w : Flow) → AreNamed A → Named w → Named (items_flow p A row w)
    items_named end_of-CaseItem m A w a h = λ y z f. absurd f
    items_named (more_of-CaseItem labels body rest) m A w a h =
        let tests = map Tests (exprs_in labels) in
        let one = flow_named body (other_named tests (actions body) (first_named (tests ++ actions body) (case_actions rest) m)) A w a h in
        let two = items_named rest (other_named (tests ++ actions body) (case_actions rest) m) A w a h in
        λ y z. ⊎_elim (one y z) (two y z)

pub depends_named : (p : Place) (body : Stmt) (y z : Name) → BlockDepends p body y z → Among (names_of body) y × Among (names_of body) z
depends_named p body y z d =
    flow_named (Among (names_of body)) p body (λ c m x n. flat_among action_names (actions body) c x m n) (λ z. ⊥) at_start (λ x f. absurd f) (λ x x' f. absurd f) y z (((passes_are_paths p body).through y z).1 d)
