-- The signals of a list that a statement names: it can be passed through among them.
use Rattle.std.proofs.Common.{◌≡◌, ℕ, ◌<◌, ◌⊎◌, inl, inr, List, [], ◌∷◌, ◌++◌, map, length, Option, Some, None, refl, sym, ap, ◌∙◌}
use Rattle.std.specs.List.{flat_map}
use Rattle.std.specs.List.Sorted.{IsStrictlyIncreasing}
use Rattle.vlog_tree.specs.declared.expr.Expr.{Expr}
use Rattle.vlog_tree.specs.declared.stmt.Lval.{Lval}
use Rattle.vlog_tree.specs.declared.stmt.Stmt.{Stmt, Row_of-Stmt, end_of-Stmt, more_of-Stmt, Row_of-CaseItem, end_of-CaseItem, more_of-CaseItem}
use Rattle.vlog_tree.specs.declared.stmt.Stmt.TheVariants as s
use Rattle.vlog_tree_runs.specs.declared.flat.Signal.{Signal}
use Rattle.vlog_tree_runs.specs.Places.{Name, Among}
use Rattle.vlog_tree_runs.specs.Blocks.{signal_at, labels_in, exprs_in, left_names}
use Rattle.elab_flat_faults.specs.Texts.{names_in, numbers_in}
use Rattle.elab_flat_laws.proofs.Lists.{append_right}
use Rattle.elab_flat_laws.proofs.Lows.{at_among}
use Rattle.elab_step_laws.specs.Laws.{AreVectors as AreNoMemories}
use Rattle.elab_flat_drivers.specs.Spots.{signal_name}
use Rattle.elab_flat_drivers.specs.Pieces.{Action, Tests, Assigns, Schedules, actions, row_actions, case_actions}
use Rattle.elab_step_flow.specs.Asked.{AreVectors, IsPassable}
use Rattle.elab_step_flow.specs.Marks.{IsPlaceOf}
use Rattle.elab_step_flow.specs.Own.{names_of, DeclareAlike, AreSignalsAt, AreOwn}
use Rattle.elab_step_flow.specs.Ready.{IsReady, AreReady, AreItemsReady}
use Rattle.elab_step_flow.specs.Shows.{AreDistinct, AreDeclared, AreAllDeclared, RowDeclared, ItemsDeclared}
use Rattle.elab_step_flow.proofs.Placing.{named_signal, place_name, place_of_name, shape_of}
use Rattle.elab_step_flow.proofs.Showing.{at_lt}
use Rattle.elab_step_flow.proofs.Agreeing.{ActAlike, acts, first_acts, other_acts, later_acts, tested, compared, comparable_moves}
use Rattle.elab_step_flow.proofs.Choosing.{signal_place, name_there, whole_place, own_place, whole_signal}
use Rattle.elab_step_flow.proofs.Rising.{once}

option_cases : {A : Type 0} (o : Option A) → (o ≡ None) ⊎ ((a : A) × (o ≡ Some a))
option_cases None = inl refl
option_cases (Some a) = inr (a, refl)

-- ---- what is asked of the statement

module _ (gs hs : List Signal) (vectors : AreNoMemories gs) (vectors' : AreNoMemories hs) (distinct : AreDistinct gs) where
  abbrev Alike : List Action → Type 0
  Alike = ActAlike gs hs vectors vectors'

  names_move : (as' : List Expr) → DeclareAlike gs hs (flat_map names_in as') → AreDeclared gs as' → AreDeclared hs as'
  names_move as' m h x n =
      let r = h x n in
      let g = named_signal gs distinct x r.0 r.1 in
      let k = at_among hs x g.0 (sym (m x n) ∙ g.2) in
      let i = signal_place hs g.0 k.0 in
      (i.0, name_there hs i.0 g.0 x i.1 k.1)

  assigned_move : (left : Lval) (right : Expr) → DeclareAlike gs hs (left_names left ++ flat_map names_in (right ∷ numbers_in left)) → AreDeclared gs (right ∷ numbers_in left) → AreDeclared hs (right ∷ numbers_in left)
  assigned_move left right m h = names_move (right ∷ numbers_in left) (λ x n. m x (append_right (left_names left) (flat_map names_in (right ∷ numbers_in left)) x n)) h

  mutual
    ready_moves : (body : Stmt) → Alike (actions body) → IsReady gs body → IsReady hs body
    ready_moves s.Empty m h = tt
    ready_moves (s.Block' n g row) m h = row_ready_moves row m h
    ready_moves (s.If' a g (more_of-Stmt body end_of-Stmt)) m h = ready_moves body (later_acts gs hs vectors vectors' (Tests a) (actions body) m) h
    ready_moves (s.IfElse' a g (more_of-Stmt body end_of-Stmt) k (more_of-Stmt other end_of-Stmt)) m h =
        let rest = later_acts gs hs vectors vectors' (Tests a) (actions body ++ actions other) m in (
          ready_moves body (first_acts gs hs vectors vectors' (actions body) (actions other) rest) h.0,
          ready_moves other (other_acts gs hs vectors vectors' (actions body) (actions other) rest) h.1,
        )
    ready_moves (s.Case' kind a g row) m h = (
      comparable_moves gs hs vectors vectors' a (labels_in row) (compared gs hs vectors vectors' a row m) h.0,
      items_ready_moves row (later_acts gs hs vectors vectors' (Tests a) (case_actions row) m) h.1,
    )
    ready_moves (s.Blocking left right) m h = h
    ready_moves (s.Nonblocking left right) m h = h

    row_ready_moves : {n : _} (row : Row_of-Stmt n) → Alike (row_actions row) → AreReady gs row → AreReady hs row
    row_ready_moves end_of-Stmt m h = tt
    row_ready_moves (more_of-Stmt a rest) m h = (
      ready_moves a (first_acts gs hs vectors vectors' (actions a) (row_actions rest) m) h.0,
      row_ready_moves rest (other_acts gs hs vectors vectors' (actions a) (row_actions rest) m) h.1,
    )

    items_ready_moves : {n : _} (row : Row_of-CaseItem n) → Alike (case_actions row) → AreItemsReady gs row → AreItemsReady hs row
    items_ready_moves end_of-CaseItem m h = tt
    items_ready_moves (more_of-CaseItem labels body rest) m h =
        let tests = map Tests (exprs_in labels) in (
          ready_moves body (other_acts gs hs vectors vectors' tests (actions body) (first_acts gs hs vectors vectors' (tests ++ actions body) (case_actions rest) m)) h.0,
          items_ready_moves rest (other_acts gs hs vectors vectors' (tests ++ actions body) (case_actions rest) m) h.1,
        )

  mutual
    declared_moves : (body : Stmt) → Alike (actions body) → AreAllDeclared gs body → AreAllDeclared hs body
    declared_moves s.Empty m h = tt
    declared_moves (s.Block' n g row) m h = row_declared_moves row m h
    declared_moves (s.If' a g (more_of-Stmt body end_of-Stmt)) m h = (
      names_move (a ∷ []) (tested gs hs vectors vectors' a (actions body) m) h.0,
      declared_moves body (later_acts gs hs vectors vectors' (Tests a) (actions body) m) h.1,
    )
    declared_moves (s.IfElse' a g (more_of-Stmt body end_of-Stmt) k (more_of-Stmt other end_of-Stmt)) m h =
        let rest = later_acts gs hs vectors vectors' (Tests a) (actions body ++ actions other) m in (
          names_move (a ∷ []) (tested gs hs vectors vectors' a (actions body ++ actions other) m) h.0,
          declared_moves body (first_acts gs hs vectors vectors' (actions body) (actions other) rest) h.1,
          declared_moves other (other_acts gs hs vectors vectors' (actions body) (actions other) rest) h.2,
        )
    declared_moves (s.Case' kind a g row) m h = (
      names_move (a ∷ labels_in row) (compared gs hs vectors vectors' a row m) h.0,
      items_declared_moves row (later_acts gs hs vectors vectors' (Tests a) (case_actions row) m) h.1,
    )
    declared_moves (s.Blocking left right) m h = assigned_move left right (m (Assigns left right) (inl refl)) h
    declared_moves (s.Nonblocking left right) m h = assigned_move left right (m (Schedules left right) (inl refl)) h

    row_declared_moves : {n : _} (row : Row_of-Stmt n) → Alike (row_actions row) → RowDeclared gs row → RowDeclared hs row
    row_declared_moves end_of-Stmt m h = tt
    row_declared_moves (more_of-Stmt a rest) m h = (
      declared_moves a (first_acts gs hs vectors vectors' (actions a) (row_actions rest) m) h.0,
      row_declared_moves rest (other_acts gs hs vectors vectors' (actions a) (row_actions rest) m) h.1,
    )

    items_declared_moves : {n : _} (row : Row_of-CaseItem n) → Alike (case_actions row) → ItemsDeclared gs row → ItemsDeclared hs row
    items_declared_moves end_of-CaseItem m h = tt
    items_declared_moves (more_of-CaseItem labels body rest) m h =
        let tests = map Tests (exprs_in labels) in (
          declared_moves body (other_acts gs hs vectors vectors' tests (actions body) (first_acts gs hs vectors vectors' (tests ++ actions body) (case_actions rest) m)) h.0,
          items_declared_moves rest (other_acts gs hs vectors vectors' (tests ++ actions body) (case_actions rest) m) h.1,
        )

  passable_moves : (body : Stmt) → DeclareAlike gs hs (names_of body) → IsPassable gs body → IsPassable hs body
  passable_moves body m h =
      let a = acts gs hs vectors vectors' body m in
      record { ready = ready_moves body a h.ready; declared = declared_moves body a h.declared }

-- ---- the signals of a statement

pub placed_within : (gs : List Signal) (body : Stmt) (i : ℕ) → IsPlaceOf (map signal_name gs) (names_of body) i → i < length gs
placed_within gs body i (x, m, e) = at_lt gs i x (place_name gs x i e)

pub no_memories : (gs : List Signal) → AreVectors gs → AreNoMemories gs
no_memories gs v g m = (v.narrow g m).depth

module _ (gs : List Signal) (v : AreVectors gs) (body : Stmt) (places : List ℕ) (hs : List Signal) (rises : IsStrictlyIncreasing places)
    (all : (i : ℕ) → IsPlaceOf (map signal_name gs) (names_of body) i → Among places i) (there : AreSignalsAt gs places hs) where
  own_distinct : AreDistinct hs
  own_distinct i j x a b =
      let r = whole_place gs places hs there i x a in
      let r' = whole_place gs places hs there j x b in
      let e = v.distinct r.0 r'.0 x r.2 r'.2 in
      once places rises i j r'.0 (r.1 ∙ ap Some e) r'.1

  own_vectors : AreVectors hs
  own_vectors = record {
    distinct = own_distinct;
    narrow = λ g m. v.narrow g (whole_signal gs places hs there g m);
    wide = λ g m. v.wide g (whole_signal gs places hs there g m);
  }

  found_alike : (x : Name) (g : Signal) → Among (names_of body) x → signal_at gs x ≡ Some g → signal_at hs x ≡ Some g
  found_alike x g m e =
      let k = at_among gs x g e in
      let i = signal_place gs g k.0 in
      let a = name_there gs i.0 g x i.1 k.1 in
      let j = own_place gs places hs there i.0 g (all i.0 (x, m, place_of_name gs v.distinct x i.0 a)) i.1 in
      shape_of hs x j.0 g (place_of_name hs own_distinct x j.0 (name_there hs j.0 g x j.1 k.1)) j.1

  none_alike : (x : Name) → signal_at gs x ≡ None → signal_at hs x ≡ None
  none_alike x e = elim (option_cases (signal_at hs x)) [
    | inl f ↦ f
    | inr f ↦ (
        let k = at_among hs x f.0 f.1 in
        let i = signal_place gs f.0 (whole_signal gs places hs there f.0 k.0) in
        let g = named_signal gs v.distinct x i.0 (name_there gs i.0 f.0 x i.1 k.1) in
        absurd (clash g.0 (sym e ∙ g.2))
        )
  ]
    where
      clash : (g : Signal) → None ≡ Some g → ⊥
      clash g e = cc

  own_alike : DeclareAlike gs hs (names_of body)
  own_alike x m = elim (option_cases (signal_at gs x)) [ inl f ↦ f ∙ sym (none_alike x f) | inr f ↦ f.1 ∙ sym (found_alike x f.0 m f.1) ]

  pub are_own : IsPassable gs body → AreOwn gs body places hs
  are_own h = record {
    there = there;
    signals = own_vectors;
    passable = passable_moves gs hs (no_memories gs v) (no_memories hs own_vectors) v.distinct body own_alike h;
    alike = own_alike;
  }
